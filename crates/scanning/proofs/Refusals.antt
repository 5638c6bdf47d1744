-- Refusals 9 and 10 are given exactly when document 01's table says, 9 with that offset; a refusal changes nothing.
-- In order: where reading stops; 9; 10; by their numbers; what stays.
-- Not here: what is no refusal (OneWay, `whole_is`). Assumes nothing.
use Prim.Native.Nat.{ℕ, suc, ◌+◌, ◌≤◌}
use mathlib.Core.Path.{◌≡◌, refl, sym, ◌∙◌}
use mathlib.Core.List.{List, [], ◌∷◌}
use mathlib.Core.Logic.{◌↔◌}
use native.Mathlib.Omega.{arith}
use lib.ListN.{length, drop}
use Rattle.std.specs.Prelude.{Result, Ok, Err}
use Rattle.text.specs.Text.{Lines, over, torn, line, lines_of}
use Rattle.text.proofs.Basics.{impossible}
use Rattle.text.proofs.OneWay.{over_only, line_only}
use Rattle.scanning.specs.Reading.{on_next, step_of, ended_of, scan_of, check_of, done, on_reading, read_of}
use Rattle.scanning.specs.Refusals.{number_of, values_of, keys_in}
use Rattle.scanning.specs.Refusals.{Upto, start, next, Stands, a_line, the_end, FirstBad, OneMore}
use Rattle.scanning.specs.declared.State.{State}
use Rattle.scanning.specs.declared.Fault.{Fault}
use Rattle.scanning.specs.declared.Whole.{Whole}
use Rattle.scanning.specs.declared.Unread.{Unread}
use Rattle.scanning.proofs.Allowed.{says, not_bad, allowed_many, allowed_line}
use Rattle.scanning.proofs.Allowed.{line_rest, upto_few, upto_within, upto_scan}

-- ---- where reading stops

pub data Last (most : ℕ) (s : List ℕ) (r : Result Whole Unread) : Type 0 where
  ended_at : (p : ℕ) (st : State) → Upto most s p st → lines_of (drop p s) ≡ over → r ≡ ended_of p st → Last most s r
  torn_at : (p : ℕ) (st : State) → Upto most s p st → lines_of (drop p s) ≡ torn → r ≡ Err (Unread.BadListing p) →
      Last most s r
  bad_at : (p : ℕ) (st : State) (l : List ℕ) (ls : Lines) → Upto most s p st → lines_of (drop p s) ≡ line l ls →
      step_of most st l ≡ Err Fault.Bad → r ≡ Err (Unread.BadListing p) → Last most s r
  many_at : (p : ℕ) (st : State) (l : List ℕ) (ls : Lines) → Upto most s p st → lines_of (drop p s) ≡ line l ls →
      step_of most st l ≡ Err Fault.Many → r ≡ Err Unread.TooMany → Last most s r

last_from : (most : ℕ) (s : List ℕ) (ls : Lines) (p : ℕ) (st : State) → lines_of (drop p s) ≡ ls →
    Upto most s p st → Last most s (scan_of most p st ls)
unfolding scan_of
last_from most s over p st e u = ended_at p st u e refl
last_from most s torn p st e u = torn_at p st u e refl
last_from most s (line l ls) p st e u =
    by (step_of most st l) refl (λ q t f v. last_from most s ls q t f v)
  where
    by : (n : Result State Fault) → step_of most st l ≡ n →
        ((q : ℕ) (t : State) → lines_of (drop q s) ≡ ls → Upto most s q t → Last most s (scan_of most q t ls)) →
        Last most s (on_next p n (λ t. scan_of most (p + length l + 1) t ls))
    by (Ok t) f ih =
        let told = says most st l (Ok t) f in
        let is = line_only (drop p s) l ls e in
        ih (p + length l + 1) t (line_rest s l ls p e)
        (next l (drop (suc (length l)) (drop p s)) t u is.0 told.0 (told.1 (upto_few u)))
    by (Err Fault.Bad) f ih = bad_at p st l ls u e f refl
    by (Err Fault.Many) f ih = many_at p st l ls u e f refl

pub last_of_lem : (most : ℕ) (s : List ℕ) → Last most s (check_of most s)
unfolding check_of
last_of_lem most s = last_from most s (lines_of s) 0 State.Edition refl start

-- ---- 9

-- what is not allowed at p, by what stands there
module _ (s : List ℕ) (p : ℕ) (st : State) where
  end_not : lines_of (drop p s) ≡ over → ((stamp count : ℕ) → st ≡ State.Whole stamp count → ⊥) → Stands s p st → ⊥
  end_not e short (a_line l rest t f a) =
      let h = allowed_line st t l rest (drop p s) a f in impossible (cc)
  end_not e short (the_end stamp count f g) = short stamp count g

  torn_not : lines_of (drop p s) ≡ torn → Stands s p st → ⊥
  unfolding lines_of
  torn_not e (a_line l rest t f a) = let h = allowed_line st t l rest (drop p s) a f in impossible (cc)
  torn_not e (the_end stamp count f g) = let h : lines_of (drop p s) ≡ over = rw f in impossible (cc)

  line_not : (most : ℕ) (l : List ℕ) (ls : Lines) → keys_in st ≤ most → lines_of (drop p s) ≡ line l ls →
      step_of most st l ≡ Err Fault.Bad → Stands s p st → ⊥
  unfolding lines_of
  line_not most l ls few e b (a_line m rest t f a) =
      let h = allowed_line st t m rest (drop p s) a f in
      let z : m ≡ l = cc in not_bad most st t l (rw z at a) few b
  line_not most l ls few e b (the_end stamp count f g) =
      let h : lines_of (drop p s) ≡ over = rw f in impossible (cc)

first_at : (most : ℕ) (s : List ℕ) (p q : ℕ) (st : State) → Upto most s p st → (Stands s p st → ⊥) → q ≡ p →
    FirstBad most s q
first_at most s p q st u not z =
    record { due = st; before = rw z u; not_allowed = rw z not; within = rw z (upto_within u) }

ended_bad : (p q : ℕ) (st : State) → ended_of p st ≡ Err (Unread.BadListing q) →
    (q ≡ p) × ((stamp count : ℕ) → st ≡ State.Whole stamp count → ⊥)
ended_bad p q State.Edition h = (cc, λ stamp count e. impossible (cc))
ended_bad p q State.Stamp h = (cc, λ stamp count e. impossible (cc))
ended_bad p q (State.Key stamp count last) h = (cc, λ a b e. impossible (cc))
ended_bad p q (State.Value stamp count last) h = (cc, λ a b e. impossible (cc))
ended_bad p q (State.Whole stamp count) h = impossible (cc)

ended_early : (p : ℕ) (st : State) → ((stamp count : ℕ) → st ≡ State.Whole stamp count → ⊥) →
    ended_of p st ≡ Err (Unread.BadListing p)
ended_early p State.Edition short = refl
ended_early p State.Stamp short = refl
ended_early p (State.Key stamp count last) short = refl
ended_early p (State.Value stamp count last) short = refl
ended_early p (State.Whole stamp count) short = absurd (short stamp count refl)

bad_first : (most : ℕ) (s : List ℕ) (q : ℕ) (r : Result Whole Unread) → Last most s r → r ≡ Err (Unread.BadListing q) →
    FirstBad most s q
bad_first most s q r (ended_at p st u e f) h =
    let is = ended_bad p q st (sym f ∙ h) in first_at most s p q st u (end_not s p st e is.1) is.0
bad_first most s q r (torn_at p st u e f) h = first_at most s p q st u (torn_not s p st e) (cc)
bad_first most s q r (bad_at p st l ls u e b f) h =
    first_at most s p q st u (line_not s p st most l ls (upto_few u) e b) (cc)
bad_first most s q r (many_at p st l ls u e b f) h = impossible (cc)

-- where nothing that is allowed stands, reading stops
not_scan : (most : ℕ) (s : List ℕ) (p : ℕ) (st : State) → (Stands s p st → ⊥) → (ls : Lines) →
    lines_of (drop p s) ≡ ls → scan_of most p st ls ≡ Err (Unread.BadListing p)
unfolding scan_of
not_scan most s p st not over e =
    ended_early p st (λ stamp count g. not (the_end stamp count (over_only (drop p s) e) g))
not_scan most s p st not torn e = refl
not_scan most s p st not (line l ls) e = by (step_of most st l) refl
  where
    by : (n : Result State Fault) → step_of most st l ≡ n →
        on_next p n (λ t. scan_of most (p + length l + 1) t ls) ≡ Err (Unread.BadListing p)
    by (Ok t) f =
        absurd (not (a_line l _ t (line_only (drop p s) l ls e).0 (says most st l (Ok t) f).0))
    by (Err Fault.Bad) f = refl
    by (Err Fault.Many) f =
        let told = says most st l (Err Fault.Many) f in
        absurd (not (a_line l _ told.0 (line_only (drop p s) l ls e).0 told.1))

-- 9, and its offset
pub bad_listing : (most : ℕ) (s : List ℕ) (p : ℕ) → (check_of most s ≡ Err (Unread.BadListing p)) ↔ FirstBad most s p
bad_listing most s p = (λ h. bad_first most s p (check_of most s) (last_of_lem most s) h, back)
  where
    back : FirstBad most s p → check_of most s ≡ Err (Unread.BadListing p)
    back b = upto_scan b.before ∙ not_scan most s p b.due b.not_allowed (lines_of (drop p s)) refl

-- ---- 10

ended_not_many : (p : ℕ) (st : State) → ended_of p st ≡ Err Unread.TooMany → ⊥
ended_not_many p State.Edition h = impossible (cc)
ended_not_many p State.Stamp h = impossible (cc)
ended_not_many p (State.Key stamp count last) h = impossible (cc)
ended_not_many p (State.Value stamp count last) h = impossible (cc)
ended_not_many p (State.Whole stamp count) h = impossible (cc)

many_more : (most : ℕ) (s : List ℕ) (r : Result Whole Unread) → Last most s r → r ≡ Err Unread.TooMany → OneMore most s
many_more most s r (ended_at p st u e f) h = absurd (ended_not_many p st (sym f ∙ h))
many_more most s r (torn_at p st u e f) h = impossible (cc)
many_more most s r (bad_at p st l ls u e b f) h = impossible (cc)
many_more most s r (many_at p st l ls u e b f) h =
    let told = says most st l (Err Fault.Many) b in
    record {
      place = p;
      due = st;
      after = told.0;
      key = l;
      rest = _;
      before = u;
      stands = (line_only (drop p s) l ls e).0;
      allowed = told.1;
      more = told.2;
    }

pub too_many : (most : ℕ) (s : List ℕ) → (check_of most s ≡ Err Unread.TooMany) ↔ OneMore most s
unfolding scan_of
too_many most s = (λ h. many_more most s (check_of most s) (last_of_lem most s) h, back)
  where
    scan : (ls : Lines) (p : ℕ) (st : State) (l : List ℕ) (r : Lines) → ls ≡ line l r →
        step_of most st l ≡ Err Fault.Many → scan_of most p st ls ≡ Err Unread.TooMany
    scan ls p st l r e f = rw (e, f)

    back : OneMore most s → check_of most s ≡ Err Unread.TooMany
    back o =
        upto_scan o.before ∙
        scan (lines_of (drop o.place s)) o.place o.due o.key (lines_of o.rest)
        (allowed_line o.due o.after o.key o.rest (drop o.place s) o.allowed o.stands)
        (allowed_many most o.due o.after o.key o.allowed (upto_few o.before) o.more)

-- ---- by document 01's numbers

nine : (r : Result Whole Unread) (p : ℕ) →
    ((number_of r ≡ 9) × (values_of r ≡ p ∷ [])) ↔ (r ≡ Err (Unread.BadListing p))
nine r p = (to r, λ e. (rw e, rw e))
  where
    to : (r : Result Whole Unread) → (number_of r ≡ 9) × (values_of r ≡ p ∷ []) → r ≡ Err (Unread.BadListing p)
    to (Ok w) h = absurd (omega (arith, h.0))
    to (Err (Unread.BadListing q)) h = let z : q ∷ [] ≡ p ∷ [] = h.1 in cc
    to (Err Unread.TooMany) h = absurd (omega (arith, h.0))

ten : (r : Result Whole Unread) → (number_of r ≡ 10) ↔ (r ≡ Err Unread.TooMany)
ten r = (to r, λ e. rw e)
  where
    to : (r : Result Whole Unread) → number_of r ≡ 10 → r ≡ Err Unread.TooMany
    to (Ok w) h = absurd (omega (arith, h))
    to (Err (Unread.BadListing q)) h = absurd (omega (arith, h))
    to (Err Unread.TooMany) h = refl

-- ---- for an outcome that the contract of `read` allows

module _ (most : ℕ) (s ks vs ks' vs' : List ℕ) (r : Result Whole Unread)
    (told : done ks' vs' r ≡ read_of most s ks vs) where
  by_answer : (a : Result Whole Unread) → done ks' vs' r ≡ on_reading s ks vs a → r ≡ a
  by_answer (Ok w) h = cc
  by_answer (Err e) h = cc

  pub read_checks : r ≡ check_of most s
  unfolding read_of
  read_checks = by_answer (check_of most s) told

  -- 9: with the offset of the first line not allowed there
  pub refused_9 : (p : ℕ) → ((number_of r ≡ 9) × (values_of r ≡ p ∷ [])) ↔ FirstBad most s p
  refused_9 p = (
    λ h. (bad_listing most s p).0 (sym read_checks ∙ (nine r p).0 h),
    λ b. (nine r p).1 (read_checks ∙ (bad_listing most s p).1 b),
  )

  -- 10: a listing's 511th otherwise allowed key line
  pub refused_10 : (number_of r ≡ 10) ↔ OneMore most s
  refused_10 = (
    λ h. (too_many most s).0 (sym read_checks ∙ (ten r).0 h),
    λ o. (ten r).1 (read_checks ∙ (too_many most s).1 o),
  )

  -- a refusal changes nothing
  pub refused_keeps : (number_of r ≡ 0 → ⊥) → (ks' ≡ ks) × (vs' ≡ vs)
  unfolding read_of
  refused_keeps = by (check_of most s) told
    where
      by : (a : Result Whole Unread) → done ks' vs' r ≡ on_reading s ks vs a →
          (number_of r ≡ 0 → ⊥) → (ks' ≡ ks) × (vs' ≡ vs)
      by (Ok w) h no_refusal =
          let e : r ≡ Ok w = cc in absurd (no_refusal (rw e))
      by (Err e) h refusal = (cc, cc)
