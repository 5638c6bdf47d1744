-- Lines, names and fields: each way through their readers, over plain values.
-- In order: a line's end; lines by their first end; what a caller learns; names; fields; bytes written.
-- Not here: lines that were written (Back). Assumes nothing.
use Prim.Native.Nat.{ℕ, suc, ◌+◌, ◌-◌, ◌≤◌, ◌<◌}
use mathlib.Core.Path.{◌≡◌, refl, sym, ◌∙◌, ap}
use mathlib.Core.List.{List, [], ◌∷◌, append_assoc}
use mathlib.Core.Bool.{Bool, true, false, not, cond}
use native.Mathlib.Omega.{arith}
use mathlib.Core.Logic.{◌⊎◌, inl, inr, ⊎_elim}
use lib.ListN.{length, take, drop, drop_of_length-le, length-drop}
use lib.Dec.{leb, ltb, eqb}
use lib.Seq.{drop-drop, sets, sets-eq, length-take-le, take_all}
use borrow.Author.Tests.{leb-true, eqb-true, ltb-false}
use Rattle.text.specs.Text.{class_of, ends, ends_line, torn, line, joined, lines_of, seen}
use Rattle.text.specs.Text.{line_length, starts_with, field_in, number_in}
use Rattle.text.specs.declared.Byte.{Byte}
use Rattle.std.specs.Prelude.{Option, Some, None, ◌&&◌}
use Rattle.std.specs.List.{position_or_len}
use Rattle.std.specs.Cmp.Lexicographic.{pointwise}
use Rattle.std.proofs.lemmas.Option.{cond_some}
use borrow.Rule.Slice.PartMut.{put_mid}
use Rattle.text.specs.declared.Seen.{Seen}
use Rattle.text.proofs.Basics.{impossible, split}

-- ---- a line's end

-- byte 10 alone
pub ends_at : (b : ℕ) → ends b ≡ eqb b 10
unfolding ends class_of
ends_at b = by (leb 48 b) (leb b 57) (eqb b 10) refl refl
  where
    by : (t u v : Bool) → leb 48 b ≡ t → eqb b 10 ≡ v →
        ends_line (cond t (cond u (Byte.Digit (b - 48)) Byte.Other) (cond v Byte.LineEnd Byte.Other)) ≡ v
    by true true true e f = absurd (omega (arith, leb-true 48 b e, eqb-true b 10 f))
    by true false true e f = absurd (omega (arith, leb-true 48 b e, eqb-true b 10 f))
    by true true false e f = refl
    by true false false e f = refl
    by false u true e f = refl
    by false u false e f = refl

pub test_at : (b : ℕ) (t : Bool) → t ≡ ends b → t ≡ eqb b 10
test_at b t e = e ∙ ends_at b

pub line_length_is : (s : List ℕ) → line_length s ≡ position_or_len (λ b. eqb b 10) s
unfolding line_length
line_length_is [] = refl
line_length_is (b ∷ s) = rw (ends_at b) (by (eqb b 10) (position_or_len (λ x. eqb x 10) s) (line_length_is s))
  where
    by : (t : Bool) (k : ℕ) → line_length s ≡ k → cond t 0 (suc (line_length s)) ≡ cond (not t) (1 + k) 0
    by true k ih = refl
    by false k ih = omega (arith, ih)

-- ---- lines by their first end

pub line_length_le : (s : List ℕ) → line_length s ≤ length s
unfolding line_length
line_length_le [] = omega arith
line_length_le (b ∷ s) = by (ends b) (line_length_le s)
  where
    by : (t : Bool) → line_length s ≤ length s → cond t 0 (suc (line_length s)) ≤ suc (length s)
    by true ih = omega arith
    by false ih = omega arith

pub rest_of : (s : List ℕ) (p : ℕ) → take (length s - p) (drop p s) ≡ drop p s
rest_of s p = take_all (length s - p) (drop p s) (omega (arith, length-drop p s))

-- what the search for a line's end answers
module _ (s : List ℕ) (p : ℕ) (r : Option ℕ)
    (e : r ≡ cond (ltb (position_or_len (λ b. eqb b 10) (drop p s)) (length (drop p s)))
    (Some (position_or_len (λ b. eqb b 10) (drop p s))) None) where
  pub end_found : (n : ℕ) → r ≡ Some n → p + n ≡ p + line_length (drop p s)
  end_found n k =
      let is = (cond_some _ (position_or_len (λ b. eqb b 10) (drop p s)) n (sym e ∙ k)).1 in
      rw (line_length_is (drop p s), is)

  pub end_none : r ≡ None → p ≤ length s → length s ≡ p + line_length (drop p s)
  end_none k h =
      by (ltb (position_or_len (λ b. eqb b 10) (drop p s)) (length (drop p s))) refl (sym e ∙ k)
    where
      by : (t : Bool) → ltb (position_or_len (λ b. eqb b 10) (drop p s)) (length (drop p s)) ≡ t →
          cond t (Some (position_or_len (λ b. eqb b 10) (drop p s))) None ≡ None →
          length s ≡ p + line_length (drop p s)
      by true t k = impossible (cc)
      by false t k =
          omega (
            arith,
            line_length_is (drop p s),
            ltb-false _ _ t,
            line_length_le (drop p s),
            length-drop p s,
          )

pub lines_cut : (s : List ℕ) → line_length s < length s →
    lines_of s ≡ line (take (line_length s) s) (lines_of (drop (suc (line_length s)) s))
unfolding line_length lines_of
lines_cut [] h = absurd (omega arith)
lines_cut (b ∷ s) h = by (ends b) (λ k. lines_cut s k) h
  where
    by : (t : Bool) →
        (line_length s < length s →
        lines_of s ≡ line (take (line_length s) s) (lines_of (drop (suc (line_length s)) s))) →
        cond t 0 (suc (line_length s)) < suc (length s) →
        cond t (line [] (lines_of s)) (joined b (lines_of s)) ≡
        line (take (cond t 0 (suc (line_length s))) (b ∷ s))
        (lines_of (drop (suc (cond t 0 (suc (line_length s)))) (b ∷ s)))
    by true ih k = refl
    by false ih k = rw (ih (omega arith))

joined_torn : (b : ℕ) (s : List ℕ) → length s ≤ line_length s → joined b (lines_of s) ≡ torn
unfolding line_length lines_of
joined_torn b [] h = refl
joined_torn b (x ∷ s) h = by (ends x) (λ k. joined_torn x s k) h
  where
    by : (t : Bool) → (length s ≤ line_length s → joined x (lines_of s) ≡ torn) →
        suc (length s) ≤ cond t 0 (suc (line_length s)) →
        joined b (cond t (line [] (lines_of s)) (joined x (lines_of s))) ≡ torn
    by true ih k = absurd (omega arith)
    by false ih k = rw (ih (omega arith))

pub lines_torn : (s : List ℕ) → 0 < length s → length s ≤ line_length s → lines_of s ≡ torn
unfolding line_length lines_of
lines_torn [] p h = absurd (omega arith)
lines_torn (b ∷ s) p h = by (ends b) h
  where
    by : (t : Bool) → suc (length s) ≤ cond t 0 (suc (line_length s)) →
        cond t (line [] (lines_of s)) (joined b (lines_of s)) ≡ torn
    by true k = absurd (omega arith)
    by false k = joined_torn b s (omega arith)

pub see_end : (s : List ℕ) (p : ℕ) → length s ≤ p → Seen.End ≡ seen p (lines_of (drop p s))
unfolding lines_of
see_end s p h = rw (drop_of_length-le s h)

pub see_line : (s : List ℕ) (p e : ℕ) → e ≡ p + line_length (drop p s) → e < length s →
    Seen.Line e ≡ seen p (lines_of (drop p s))
see_line s p e h k =
    let w : line_length (drop p s) < length (drop p s) = omega (arith, length-drop p s) in
    let z : line_length (drop p s) ≤ length (drop p s) = omega arith in
    rw (lines_cut (drop p s) w, length-take-le (line_length (drop p s)) (drop p s) z, h)

pub see_torn : (s : List ℕ) (p e : ℕ) → e ≡ p + line_length (drop p s) → p < length s → length s ≤ e →
    Seen.Torn ≡ seen p (lines_of (drop p s))
see_torn s p e h q k =
    let w : length (drop p s) ≤ line_length (drop p s) = omega (arith, length-drop p s) in
    let z : 0 < length (drop p s) = omega (arith, length-drop p s) in
    rw (lines_torn (drop p s) z w)

pub ruleset sights = (see_end, see_line, see_torn)

-- what a caller learns from each sight
pub record Cut (s : List ℕ) (p e : ℕ) : Type 0 where
  pub from : p ≤ e
  pub within : e < length s
  pub lines : lines_of (drop p s) ≡ line (take (e - p) (drop p s)) (lines_of (drop (e + 1) s))

pub cut_at : (s : List ℕ) (p e : ℕ) → Seen.Line e ≡ seen p (lines_of (drop p s)) → Cut s p e
cut_at s p e h =
    ⊎_elim (λ k. found k) (λ k. by_length (split 0 (length (drop p s))) k)
    (split (line_length (drop p s)) (length (drop p s)))
  where
    found : line_length (drop p s) < length (drop p s) → Cut s p e
    found k =
        let z : line_length (drop p s) ≤ length (drop p s) = omega arith in
        let w : Seen.Line e ≡ Seen.Line (p + line_length (drop p s)) =
        h ∙ sym (see_line s p (p + line_length (drop p s)) refl (omega (arith, length-drop p s))) in
        let v : e ≡ p + line_length (drop p s) = cc in
        let a : e - p ≡ line_length (drop p s) = omega arith in
        let b : e + 1 ≡ p + suc (line_length (drop p s)) = omega arith in
        record {
          from = omega arith;
          within = omega (arith, length-drop p s);
          lines = rw (a, b, ← drop-drop (suc (line_length (drop p s))) p s) (lines_cut (drop p s) k);
        }

    by_length : (0 < length (drop p s)) ⊎ (length (drop p s) ≤ 0) → length (drop p s) ≤ line_length (drop p s) →
        Cut s p e
    by_length (inl q) k =
        let w : Seen.Line e ≡ Seen.Torn = h ∙ ap (seen p) (lines_torn (drop p s) q k) in
        impossible (cc)
    by_length (inr q) k =
        let w : Seen.Line e ≡ Seen.End = h ∙ sym (see_end s p (omega (arith, length-drop p s))) in
        impossible (cc)

-- what a caller's indices need
module _ (s : List ℕ) (p e : ℕ) (v : Seen) (f : v ≡ seen p (lines_of (drop p s))) (g : v ≡ Seen.Line e) where
  pub line_from : p ≤ e
  line_from = (cut_at s p e (sym g ∙ f)).from

  pub line_upto : e ≤ length s
  line_upto = let cut = cut_at s p e (sym g ∙ f) in omega arith

  pub line_fits : length s < 18446744073709551616 → e + 1 < 18446744073709551616
  line_fits h = let cut = cut_at s p e (sym g ∙ f) in omega arith

  pub line_next : e + 1 ≤ length s
  line_next = let cut = cut_at s p e (sym g ∙ f) in omega arith

  pub line_falls : length s - (e + 1) < length s - p
  line_falls = let cut = cut_at s p e (sym g ∙ f) in omega arith

pub ruleset sighted = (line_from, line_upto, line_fits, line_next, line_falls)

-- ---- names

-- what the library's test of a prefix says
pub starts_as : (n s : List ℕ) → pointwise eqb (take (length n) s) n ≡ starts_with n s
unfolding starts_with
starts_as [] s = refl
starts_as (a ∷ n) [] = refl
starts_as (a ∷ n) (b ∷ s) = by (eqb b a) (starts_as n s)
  where
    by : (t : Bool) → pointwise eqb (take (length n) s) n ≡ starts_with n s →
        (t && pointwise eqb (take (length n) s) n) ≡ cond t (starts_with n s) false
    by true ih = ih
    by false ih = refl

pub starts_length : (n s : List ℕ) → true ≡ starts_with n s → length n ≤ length s
unfolding starts_with
starts_length [] s h = omega arith
starts_length (a ∷ n) [] h = impossible (cc)
starts_length (a ∷ n) (b ∷ s) h = by (eqb b a) (λ k. starts_length n s k) h
  where
    by : (t : Bool) → (true ≡ starts_with n s → length n ≤ length s) → true ≡ cond t (starts_with n s) false →
        suc (length n) ≤ suc (length s)
    by true ih k = omega (arith, ih k)
    by false ih k = impossible (cc)

-- ---- fields

pub field_is : (n s t : List ℕ) (r : Option ℕ) → pointwise eqb (take (length n) s) n ≡ true → t ≡ drop (length n) s →
    r ≡ number_in t → r ≡ field_in n s
unfolding field_in
field_is n s t r e d h = rw (← starts_as n s, e, h, d)

pub field_not : (n s : List ℕ) → pointwise eqb (take (length n) s) n ≡ false → None ≡ field_in n s
unfolding field_in
field_not n s e = rw (← starts_as n s, e)

pub ruleset fields = (field_is, field_not)

-- ---- bytes written

pub put_between : (o s : List ℕ) (p : ℕ) → p + length s ≤ length o →
    put_mid p (p + length s - p) o s ≡ sets o p s
put_between o s p h =
    let e : p + length s - p ≡ length s = omega arith in
    rw (e, sets-eq s o p h, append_assoc, drop-drop (length s) p o)
