-- The lines that are allowed (specs/Refusals), against the step that reading takes at each.
-- In order: what a step says of a line; what it does at an allowed line; lines and bytes; lines up to an offset.
-- Not here: the refusals themselves (Refusals). Assumes nothing.
use Prim.Native.Nat.{ℕ, suc, ◌+◌, ◌≤◌, ◌<◌}
use mathlib.Core.Path.{◌≡◌, refl, ap}
use mathlib.Core.List.{List, ◌∷◌, ◌++◌}
use mathlib.Core.Bool.{Bool, true, false, cond}
use mathlib.Core.Logic.{◌⊎◌, inl, inr}
use native.Mathlib.Omega.{arith}
use lib.ListN.{length, drop, length-append, length-drop}
use lib.Seq.{drop-drop, drop-append-add}
use lib.Dec.{eqb, leb}
use borrow.Author.Tests.{le-leb, lt-leb, eq-eqb, eqb-true, leb-true, leb-false}
use Rattle.text.specs.Text.{largest, digits, Lines, line, lines_of, ends, class_of, field_in}
use Rattle.std.specs.Prelude.{Option, Some, None, Result, Ok, Err}
use Rattle.text.proofs.Basics.{impossible, split}
use Rattle.text.proofs.Back.{plain, plain_append, plain_digits, lines_plain, field_back}
use Rattle.text.proofs.OneWay.{field_only, line_only}
use Rattle.listing.specs.Listing.{edition_name, stamp_name, key_name, value_name, count_name}
use Rattle.scanning.specs.Reading.{edition_of, stamp_of, value_of, count_of, keyed, key_of, on_is}
use Rattle.scanning.specs.Reading.{step_of, scan_of, check_of}
use Rattle.scanning.specs.Refusals.{keys_in}
use Rattle.scanning.specs.Refusals.{Allowed, edition_line, stamp_line, key_line, value_line, count_line}
use Rattle.scanning.specs.Refusals.{Upto, start, next}
use Rattle.scanning.specs.declared.State.{State}
use Rattle.scanning.specs.declared.Fault.{Fault}
use Rattle.scanning.proofs.Trip.{no_key}

-- ---- what one line says

abbrev pub Says : ℕ → State → List ℕ → Result State Fault → Type 0
Says most st l (Ok t) = Allowed st l t × (keys_in st ≤ most → keys_in t ≤ most)
Says most st l (Err Fault.Many) = (t : State) × Allowed st l t × (most < keys_in t)
Says most st l (Err Fault.Bad) = Unit {0}

edition_says : (most : ℕ) (l : List ℕ) → Says most State.Edition l (edition_of l)
unfolding edition_of
edition_says most l = by (field_in edition_name l) refl
  where
    one : (n : ℕ) (t : Bool) → eqb n 1 ≡ t → field_in edition_name l ≡ Some n →
        Says most State.Edition l (cond t (Ok State.Stamp) (Err Fault.Bad))
    one n true e f =
        let z : n ≡ 1 = eqb-true n 1 e in
        (edition_line refl (rw z at (field_only edition_name l n f).0) refl, λ h. omega arith)
    one n false e f = tt

    by : (a : Option ℕ) → field_in edition_name l ≡ a →
        Says most State.Edition l (on_is a (λ n. cond (eqb n 1) (Ok State.Stamp) (Err Fault.Bad)) (Err Fault.Bad))
    by (Some n) f = one n (eqb n 1) refl f
    by None f = tt

stamp_says : (most : ℕ) (l : List ℕ) → Says most State.Stamp l (stamp_of l)
unfolding stamp_of
stamp_says most l = by (field_in stamp_name l) refl
  where
    by : (a : Option ℕ) → field_in stamp_name l ≡ a →
        Says most State.Stamp l (on_is a (λ n. Ok (State.Key n 0 0)) (Err Fault.Bad))
    by (Some n) f =
        let is = field_only stamp_name l n f in (stamp_line n is.1 refl is.0 refl, λ h. omega arith)
    by None f = tt

value_says : (most stamp count last : ℕ) (l : List ℕ) →
    Says most (State.Value stamp count last) l (value_of stamp count last l)
unfolding value_of
value_says most stamp count last l = by (field_in value_name l) refl
  where
    by : (a : Option ℕ) → field_in value_name l ≡ a →
        Says most (State.Value stamp count last) l (on_is a (λ n. Ok (State.Key stamp count last)) (Err Fault.Bad))
    by (Some n) f =
        let is = field_only value_name l n f in
        (value_line stamp count last n is.1 refl is.0 refl, λ h. h)
    by None f = tt

count_says : (most stamp count last : ℕ) (l : List ℕ) →
    Says most (State.Key stamp count last) l (count_of stamp count l)
unfolding count_of
count_says most stamp count last l = by (field_in count_name l) refl
  where
    one : (n : ℕ) (t : Bool) → eqb n count ≡ t → field_in count_name l ≡ Some n →
        Says most (State.Key stamp count last) l (cond t (Ok (State.Whole stamp count)) (Err Fault.Bad))
    one n true e f =
        let z : n ≡ count = eqb-true n count e in
        let is = rw z at (field_only count_name l n f) in
        (count_line stamp count last is.1 refl is.0 refl, λ h. h)
    one n false e f = tt

    by : (a : Option ℕ) → field_in count_name l ≡ a →
        Says most (State.Key stamp count last) l
        (on_is a (λ n. cond (eqb n count) (Ok (State.Whole stamp count)) (Err Fault.Bad)) (Err Fault.Bad))
    by (Some n) f = one n (eqb n count) refl f
    by None f = tt

key_says : (most stamp count last : ℕ) (l : List ℕ) →
    Says most (State.Key stamp count last) l (key_of most stamp count last l)
unfolding key_of keyed
key_says most stamp count last l = by (field_in key_name l) refl
  where
    one : (k : ℕ) (t u v : Bool) → leb k last ≡ t → leb largest k ≡ u → leb most count ≡ v →
        field_in key_name l ≡ Some k →
        Says most (State.Key stamp count last) l
        (cond t (Err Fault.Bad) (cond u (Err Fault.Bad)
        (cond v (Err Fault.Many) (Ok (State.Value stamp (count + 1) k)))))
    one k false false false e f g n = (
      key_line stamp count last k (leb-false k last e) (leb-false largest k f) refl
          (field_only key_name l k n).0 refl,
      λ h. omega (arith, leb-false most count g),
    )
    one k false false true e f g n = (
      State.Value stamp (count + 1) k,
      key_line stamp count last k (leb-false k last e) (leb-false largest k f) refl
          (field_only key_name l k n).0 refl,
      omega (arith, leb-true most count g),
    )
    one k true u v e f g n = tt
    one k false true v e f g n = tt

    by : (a : Option ℕ) → field_in key_name l ≡ a →
        Says most (State.Key stamp count last) l
        (on_is a (λ k. keyed most stamp count last k) (count_of stamp count l))
    by (Some k) f = one k (leb k last) (leb largest k) (leb most count) refl refl refl f
    by None f = count_says most stamp count last l

step_says : (most : ℕ) (st : State) (l : List ℕ) → Says most st l (step_of most st l)
step_says most State.Edition l = edition_says most l
step_says most State.Stamp l = stamp_says most l
step_says most (State.Key stamp count last) l = key_says most stamp count last l
step_says most (State.Value stamp count last) l = value_says most stamp count last l
step_says most (State.Whole stamp count) l = tt

pub says : (most : ℕ) (st : State) (l : List ℕ) (n : Result State Fault) → step_of most st l ≡ n → Says most st l n
says most st l n e = rw e at (step_says most st l)

-- and an allowed line is taken, or is one too many
pub allowed_on : (most : ℕ) (st t : State) (l : List ℕ) → Allowed st l t → keys_in t ≤ most →
    step_of most st l ≡ Ok t
unfolding edition_of stamp_of value_of count_of key_of keyed
allowed_on most st t l (edition_line a b c) few = rw (a, b, c, field_back edition_name 1 (omega arith))
allowed_on most st t l (stamp_line n fits a b c) few = rw (a, b, c, field_back stamp_name n fits)
allowed_on most st t l (key_line stamp count last k low high a b c) few =
    let fits : k ≤ largest = omega arith in
    let room : count < most = omega (arith, ap keys_in c) in
    rw (a, b, c, field_back key_name k fits, lt-leb k last low, lt-leb largest k high, lt-leb most count room)
allowed_on most st t l (value_line stamp count last v fits a b c) few = rw (a, b, c, field_back value_name v fits)
allowed_on most st t l (count_line stamp count last fits a b c) few =
    rw (a, b, c, no_key count, field_back count_name count fits, eq-eqb count count refl)

pub allowed_many : (most : ℕ) (st t : State) (l : List ℕ) → Allowed st l t → keys_in st ≤ most → most < keys_in t →
    step_of most st l ≡ Err Fault.Many
unfolding key_of keyed
allowed_many most st t l (edition_line a b c) few more = absurd (omega (arith, ap keys_in a, ap keys_in c))
allowed_many most st t l (stamp_line n fits a b c) few more = absurd (omega (arith, ap keys_in a, ap keys_in c))
allowed_many most st t l (key_line stamp count last k low high a b c) few more =
    let fits : k ≤ largest = omega arith in
    let full : most ≤ count = omega (arith, ap keys_in c) in
    rw (a, b, field_back key_name k fits, lt-leb k last low, lt-leb largest k high, le-leb most count full)
allowed_many most st t l (value_line stamp count last v fits a b c) few more =
    absurd (omega (arith, ap keys_in a, ap keys_in c))
allowed_many most st t l (count_line stamp count last fits a b c) few more =
    absurd (omega (arith, ap keys_in a, ap keys_in c))

pub not_bad : (most : ℕ) (st t : State) (l : List ℕ) → Allowed st l t → keys_in st ≤ most →
    step_of most st l ≡ Err Fault.Bad → ⊥
not_bad most st t l allowed few e = by (split most (keys_in t))
  where
    by : (most < keys_in t) ⊎ (keys_in t ≤ most) → ⊥
    by (inl more) = let h = allowed_many most st t l allowed few more in impossible (cc)
    by (inr room) = let h = allowed_on most st t l allowed room in impossible (cc)

-- ---- lines and bytes

name_plain : (name : List ℕ) (n : ℕ) → plain name ≡ true → plain (name ++ digits n) ≡ true
name_plain name n h = plain_append name (digits n) h (plain_digits n)

allowed_plain : (st t : State) (l : List ℕ) → Allowed st l t → plain l ≡ true
unfolding plain ends class_of
allowed_plain st t l (edition_line a b c) = rw b (name_plain edition_name 1 refl)
allowed_plain st t l (stamp_line n fits a b c) = rw b (name_plain stamp_name n refl)
allowed_plain st t l (key_line stamp count last k low high a b c) = rw b (name_plain key_name k refl)
allowed_plain st t l (value_line stamp count last v fits a b c) = rw b (name_plain value_name v refl)
allowed_plain st t l (count_line stamp count last fits a b c) = rw b (name_plain count_name count refl)

pub allowed_line : (st t : State) (l rest x : List ℕ) → Allowed st l t → x ≡ l ++ (10 ∷ rest) →
    lines_of x ≡ line l (lines_of rest)
allowed_line st t l rest x allowed e = rw e (lines_plain l rest (allowed_plain st t l allowed))

rest_is : (s l rest : List ℕ) (p : ℕ) → drop p s ≡ l ++ (10 ∷ rest) → drop (p + length l + 1) s ≡ rest
rest_is s l rest p e =
    let z : p + length l + 1 ≡ p + (length l + 1) = omega arith in
    rw (z, ← drop-drop (length l + 1) p s, e, drop-append-add l (10 ∷ rest) 1)

pub line_rest : (s l : List ℕ) (r : Lines) (p : ℕ) → lines_of (drop p s) ≡ line l r →
    lines_of (drop (p + length l + 1) s) ≡ r
line_rest s l r p e =
    let is = line_only (drop p s) l r e in
    rw (rest_is s l (drop (suc (length l)) (drop p s)) p is.0) is.1

-- ---- lines up to an offset

pub upto_few : {most : ℕ} {s : List ℕ} {p : ℕ} {st : State} → Upto most s p st → keys_in st ≤ most
upto_few start = omega arith
upto_few (next l rest t u e a few) = few

pub upto_within : {most : ℕ} {s : List ℕ} {p : ℕ} {st : State} → Upto most s p st → p ≤ length s
upto_within start = omega arith
upto_within {s} (next {p} l rest t u e a few) =
    omega (arith, length-drop p s, ap length e, length-append l (10 ∷ rest))

pub upto_scan : {most : ℕ} {s : List ℕ} {p : ℕ} {st : State} → Upto most s p st →
    check_of most s ≡ scan_of most p st (lines_of (drop p s))
unfolding check_of scan_of
upto_scan start = refl
upto_scan {most} {s} (next {p} {st} l rest t u e a few) =
    rw (rest_is s l rest p e)
    (rw (allowed_line st t l rest (drop p s) a e, allowed_on most st t l a few) at (upto_scan u))
