-- A number is written in one way: what reads as n is `digits n`; and what lines say of the bytes.
-- In order: digits; a number; a field; lines.
-- Not here: that what is written is read (Write, Back). Assumes nothing.
use Prim.Native.Nat.{ℕ, suc, ◌+◌, ◌-◌, ◌*◌, ◌/◌, ◌%◌, ◌≤◌, ◌<◌}
use mathlib.Core.Path.{◌≡◌, refl, sym, ◌∙◌, ap}
use mathlib.Core.List.{List, [], ◌∷◌, ◌++◌, append_assoc, append-nil}
use mathlib.Core.Bool.{Bool, true, false, cond}
use mathlib.Core.Logic.{◌⊎◌, inl, inr}
use native.Mathlib.Omega.{arith}
use native.Mathlib.Nat.{div-add-mod', eq-zero-or-pos}
use lib.ListN.{length, drop}
use lib.Dec.{leb, eqb}
use borrow.Author.Tests.{ne_eqb, eqb-true, leb-true}
use Rattle.std.specs.Option.{option_and_then}
use Rattle.text.specs.Text.{largest, ends, Lines, over, torn, line, joined, lines_of, class_of}
use Rattle.text.specs.Text.{with_digit}
use Rattle.text.specs.Text.{with_byte, grow, grows, number_in, digits, starts_with, field_in}
use Rattle.text.specs.declared.Byte.{Byte}
use Rattle.std.specs.Prelude.{Option, Some, None}
use Rattle.text.proofs.Lines.{ends_at}
use Rattle.text.proofs.Write.{one_digit, more_digits}
use Rattle.text.proofs.Basics.{impossible}

digit_of : (b d : ℕ) → class_of b ≡ Byte.Digit d → (d < 10) × (b ≡ 48 + d)
unfolding class_of
digit_of b d = by (leb 48 b) (leb b 57) (eqb b 10) refl refl
  where
    by : (t u v : Bool) → leb 48 b ≡ t → leb b 57 ≡ u →
        cond t (cond u (Byte.Digit (b - 48)) Byte.Other) (cond v Byte.LineEnd Byte.Other) ≡ Byte.Digit d →
        (d < 10) × (b ≡ 48 + d)
    by true true v e h k =
        let z : b - 48 ≡ d = cc in omega (arith, leb-true 48 b e, leb-true b 57 h)
    by true false v e h k = impossible (cc)
    by false u true e h k = impossible (cc)
    by false u false e h k = impossible (cc)

-- a digit more is a digit more
snoc : (v d : ℕ) (l : List ℕ) → 0 < v → d < 10 → v * 10 + d ≤ largest →
    digits (v * 10 + d) ++ l ≡ digits v ++ ((48 + d) ∷ l)
snoc v d l p h b =
    let q : (v * 10 + d) / 10 ≡ v = omega (arith, div-add-mod' (v * 10 + d) 10) in
    let r : (v * 10 + d) % 10 ≡ d = omega (arith, div-add-mod' (v * 10 + d) 10) in
    rw (more_digits (v * 10 + d) (omega arith) (omega arith), q, r, append_assoc)

abbrev IsDigits : List ℕ → ℕ → Type 0
IsDigits l n = (l ≡ digits n) × (n ≤ largest)

-- the bytes of l after a number, if there is one
abbrev after : List ℕ → Option ℕ → Option ℕ
after l r = option_and_then (λ v. grows (Some v) l) r

only_more : (l : List ℕ) (v n : ℕ) → 0 < v → v ≤ largest → grows (Some v) l ≡ Some n →
    IsDigits (digits v ++ l) n
unfolding grows grow with_digit
only_more [] v n p b h = let z : v ≡ n = cc in (rw (append-nil, z), omega arith)
only_more (x ∷ l) v n p b h = by (class_of x) refl (λ w q c k. only_more l w n q c k) h
  where
    within : (d : ℕ) (t : Bool) → leb (v * 10 + d) largest ≡ t → d < 10 → x ≡ 48 + d →
        ((w : ℕ) → 0 < w → w ≤ largest → grows (Some w) l ≡ Some n → IsDigits (digits w ++ l) n) →
        after l (cond t (Some (v * 10 + d)) None) ≡ Some n → IsDigits (digits v ++ (x ∷ l)) n
    within d true e small z ih k =
        let top : v * 10 + d ≤ largest = leb-true (v * 10 + d) largest e in
        rw (z, ← snoc v d l p small top) (ih (v * 10 + d) (omega arith) top k)
    within d false e small z ih k = impossible (cc)

    by : (c : Byte) → class_of x ≡ c →
        ((w : ℕ) → 0 < w → w ≤ largest → grows (Some w) l ≡ Some n → IsDigits (digits w ++ l) n) →
        after l (with_byte (Some v) c) ≡ Some n → IsDigits (digits v ++ (x ∷ l)) n
    by (Byte.Digit d) e ih k =
        let is = digit_of x d e in
        within d (leb (v * 10 + d) largest) refl is.0 is.1 ih
        (rw (ne_eqb v 0 (λ z. omega arith), with_digit) at k)
    by Byte.LineEnd e ih k = impossible (cc)
    by Byte.Other e ih k = impossible (cc)

-- after a first 0 nothing follows
zero_alone : (l : List ℕ) (n : ℕ) → grows (Some 0) l ≡ Some n → IsDigits (48 ∷ l) n
unfolding grows grow with_digit
zero_alone [] n h = let z : 0 ≡ n = cc in (rw (← z) (sym (one_digit 0 (omega arith))), omega arith)
zero_alone (x ∷ l) n h = by (class_of x) h
  where
    by : (c : Byte) → after l (with_byte (Some 0) c) ≡ Some n → IsDigits (48 ∷ (x ∷ l)) n
    by (Byte.Digit d) k = impossible (cc)
    by Byte.LineEnd k = impossible (cc)
    by Byte.Other k = impossible (cc)

only_grown : (l : List ℕ) (n : ℕ) → grows None l ≡ Some n → IsDigits l n
unfolding grows grow with_digit
only_grown [] n h = impossible (cc)
only_grown (x ∷ l) n h = by (class_of x) refl h
  where
    first : (d : ℕ) → d < 10 → x ≡ 48 + d → (d ≡ 0) ⊎ (0 < d) → grows (Some d) l ≡ Some n →
        IsDigits (x ∷ l) n
    first d small z (inl e) k =
        let z0 : x ≡ 48 = omega arith in rw z0 (zero_alone l n (rw e at k))
    first d small z (inr e) k =
        let r : d % 10 ≡ d = omega (arith, div-add-mod' d 10) in
        rw (z) (rw (one_digit d small, r) at (only_more l d n e (omega arith) k))

    by : (c : Byte) → class_of x ≡ c → after l (with_byte None c) ≡ Some n → IsDigits (x ∷ l) n
    by (Byte.Digit d) e k = let is = digit_of x d e in first d is.0 is.1 (eq-zero-or-pos d) k
    by Byte.LineEnd e k = impossible (cc)
    by Byte.Other e k = impossible (cc)

-- what reads as n is how n is written
pub number_only : (l : List ℕ) (n : ℕ) → number_in l ≡ Some n → (l ≡ digits n) × (n ≤ largest)
unfolding number_in
number_only l n h = only_grown l n h

starts_only : (name s : List ℕ) → starts_with name s ≡ true → s ≡ name ++ drop (length name) s
unfolding starts_with
starts_only [] s h = refl
starts_only (a ∷ n) [] h = impossible (cc)
starts_only (a ∷ n) (b ∷ s) h = by (eqb b a) refl (λ k. starts_only n s k) h
  where
    by : (t : Bool) → eqb b a ≡ t → (starts_with n s ≡ true → s ≡ n ++ drop (length n) s) →
        cond t (starts_with n s) false ≡ true → b ∷ s ≡ a ∷ (n ++ drop (length n) s)
    by true e ih k = let z : b ≡ a = eqb-true b a e in let y : s ≡ n ++ drop (length n) s = ih k in cc
    by false e ih k = impossible (cc)

-- and a line that reads as a name and n is that name and n's digits
pub field_only : (name s : List ℕ) (n : ℕ) → field_in name s ≡ Some n → (s ≡ name ++ digits n) × (n ≤ largest)
unfolding field_in
field_only name s n = by (starts_with name s) refl
  where
    by : (t : Bool) → starts_with name s ≡ t → cond t (number_in (drop (length name) s)) None ≡ Some n →
        (s ≡ name ++ digits n) × (n ≤ largest)
    by true e k =
        let is = number_only (drop (length name) s) n k in
        (starts_only name s e ∙ ap (λ (l : List ℕ). name ++ l) is.0, is.1)
    by false e k = impossible (cc)

-- ---- lines: what they say of the bytes

end_is : (b : ℕ) → ends b ≡ true → b ≡ 10
end_is b h = eqb-true b 10 (sym (ends_at b) ∙ h)

pub over_only : (s : List ℕ) → lines_of s ≡ over → s ≡ []
unfolding lines_of
over_only [] h = refl
over_only (b ∷ s) h = by (ends b) (lines_of s) h
  where
    by : (t : Bool) (ls : Lines) → cond t (line [] ls) (joined b ls) ≡ over → b ∷ s ≡ []
    by true ls k = impossible (cc)
    by false over k = impossible (cc)
    by false torn k = impossible (cc)
    by false (line l r) k = impossible (cc)

pub line_only : (s l : List ℕ) (r : Lines) → lines_of s ≡ line l r →
    (s ≡ l ++ (10 ∷ drop (suc (length l)) s)) × (lines_of (drop (suc (length l)) s) ≡ r)
unfolding lines_of
line_only [] l r h = impossible (cc)
line_only (b ∷ s) l r h = by (ends b) (lines_of s) refl refl (λ m q k. line_only s m q k) h
  where
    by : (t : Bool) (ls : Lines) → ends b ≡ t → lines_of s ≡ ls →
        ((m : List ℕ) (q : Lines) → lines_of s ≡ line m q →
        (s ≡ m ++ (10 ∷ drop (suc (length m)) s)) × (lines_of (drop (suc (length m)) s) ≡ q)) →
        cond t (line [] ls) (joined b ls) ≡ line l r →
        (b ∷ s ≡ l ++ (10 ∷ drop (suc (length l)) (b ∷ s))) × (lines_of (drop (suc (length l)) (b ∷ s)) ≡ r)
    by true ls e f ih k =
        let z : l ≡ [] = cc in let y : ls ≡ r = cc in rw (z, end_is b e) (refl, f ∙ y)
    by false over e f ih k = impossible (cc)
    by false torn e f ih k = impossible (cc)
    by false (line m q) e f ih k =
        let z : l ≡ b ∷ m = cc in let y : q ≡ r = cc in let is = ih m q f in
        rw z (ap (λ (x : List ℕ). b ∷ x) is.0, is.1 ∙ y)
