-- What is written is read back: a line is found whole, and its number is the number written.
-- In order: bytes that end no line; a line; a name and a number; a number in an output.
-- Not here: the digits themselves (Write). Assumes nothing.
use Prim.Native.Nat.{ℕ, zero, suc, ◌+◌, ◌-◌, ◌/◌, ◌%◌, ◌≤◌}
use mathlib.Core.Path.{◌≡◌, refl}
use mathlib.Core.List.{List, [], ◌∷◌, ◌++◌, append_assoc}
use mathlib.Core.Bool.{Bool, true, false, cond}
use native.Mathlib.Omega.{arith}
use native.Mathlib.Nat.{mod-lt}
use lib.ListN.{length, take, drop}
use lib.Seq.{drop-append_seam, sets, sets-eq, drop_at, take-append_seam, length-take-le}
use lib.Dec.{ltb}
use borrow.Author.Tests.{eq-eqb}
use Rattle.text.specs.Text.{largest, class_of, ends, digits, digits_in, number_in, line}
use Rattle.text.specs.Text.{joined}
use Rattle.text.specs.Text.{lines_of, starts_with, field_in}
use Rattle.std.specs.Prelude.{Some}
use Rattle.text.proofs.Write.{digit_class, read_back}
use Rattle.text.proofs.Basics.{impossible}

-- no byte of it ends a line: computed for a name, proved for digits
unfoldable pub plain : List ℕ → Bool
plain [] = true
plain (b ∷ l) = cond (ends b) false (plain l)

pub plain_append : (a b : List ℕ) → plain a ≡ true → plain b ≡ true → plain (a ++ b) ≡ true
unfolding plain
plain_append [] b p q = q
plain_append (x ∷ a) b p q = by (ends x) (plain_append a b) p q
  where
    by : (t : Bool) → (plain a ≡ true → plain b ≡ true → plain (a ++ b) ≡ true) →
        cond t false (plain a) ≡ true → plain b ≡ true → cond t false (plain (a ++ b)) ≡ true
    by true ih p q = p
    by false ih p q = ih p q

digit_plain : (n : ℕ) → plain ((48 + n % 10) ∷ []) ≡ true
unfolding plain ends
digit_plain n = rw (digit_class (n % 10) (mod-lt n (omega arith)))

plain_in : (f n : ℕ) → plain (digits_in f n) ≡ true
unfolding digits_in plain
plain_in zero n = refl
plain_in (suc f) n = by (ltb n 10) (plain_in f (n / 10))
  where
    by : (t : Bool) → plain (digits_in f (n / 10)) ≡ true →
        plain (cond t ((48 + n % 10) ∷ []) (digits_in f (n / 10) ++ ((48 + n % 10) ∷ []))) ≡ true
    by true ih = digit_plain n
    by false ih = plain_append (digits_in f (n / 10)) ((48 + n % 10) ∷ []) ih (digit_plain n)

pub plain_digits : (n : ℕ) → plain (digits n) ≡ true
unfolding digits
plain_digits n = plain_in 20 n

-- a line and what follows it
pub lines_plain : (l r : List ℕ) → plain l ≡ true → lines_of (l ++ (10 ∷ r)) ≡ line l (lines_of r)
unfolding lines_of ends class_of plain
lines_plain [] r p = refl
lines_plain (b ∷ l) r p = by (ends b) (lines_plain l r) p
  where
    by : (t : Bool) → (plain l ≡ true → lines_of (l ++ (10 ∷ r)) ≡ line l (lines_of r)) →
        cond t false (plain l) ≡ true →
        cond t (line [] (lines_of (l ++ (10 ∷ r)))) (joined b (lines_of (l ++ (10 ∷ r)))) ≡ line (b ∷ l) (lines_of r)
    by true ih q = impossible (cc)
    by false ih q = rw (ih q)

starts_back : (name s : List ℕ) → starts_with name (name ++ s) ≡ true
unfolding starts_with
starts_back [] s = refl
starts_back (a ∷ n) s = rw (eq-eqb a a refl, starts_back n s)

-- a name and the digits of a number
pub field_back : (name : List ℕ) (n : ℕ) → n ≤ largest → field_in name (name ++ digits n) ≡ Some n
unfolding field_in
field_back name n h = rw (starts_back name (digits n), drop-append_seam name (digits n), read_back n h)

-- in an output: the bytes from the place to the place that writing answers read as the number
pub read_put : (o : List ℕ) (p n : ℕ) → p + length (digits n) ≤ length o → n ≤ largest →
    number_in (take (p + length (digits n) - p) (drop p (sets o p (digits n)))) ≡ Some n
read_put o p n room h =
    let z : p + length (digits n) - p ≡ length (digits n) = omega arith in
    let w : p ≤ length o = omega arith in
    rw (
      z,
      sets-eq (digits n) o p room,
      append_assoc,
      drop_at (take p o) (digits n ++ drop (p + length (digits n)) o) p (length-take-le p o w),
      take-append_seam,
      read_back n h,
    )
