-- Each way through the readers of a byte and a number, over plain values.
-- In order: a byte; a digit more; a byte more; the loop, byte by byte.
-- Not here: what a number that was written reads as (Write), that it is written in one way (OneWay).
-- Assumes nothing.
use Prim.Native.Nat.{ℕ, ◌+◌, ◌-◌, ◌*◌, ◌≤◌, ◌<◌}
use mathlib.Core.Path.{◌≡◌}
use mathlib.Core.List.{List}
use native.Mathlib.Omega.{arith}
use native.Mathlib.Numerals.{add-one}
use lib.ListN.{length, get_or, drop, drop_of_length-le}
use lib.Seq.{drop-cons}
use borrow.Author.Tests.{le-leb, lt-leb, ne_eqb}
use Rattle.text.specs.Text.{largest, class_of, with_digit, grow, grows, number_in}
use Rattle.text.specs.declared.Byte.{Byte}
use Rattle.std.specs.Prelude.{Option, Some, None}

pub digit : (b : ℕ) → 48 ≤ b → b < 58 → Byte.Digit (b - 48) ≡ class_of b
unfolding class_of
digit b lo hi = let h : b ≤ 57 = omega arith in simp (le-leb 48 b lo, le-leb b 57 h)

pub line_end : (b : ℕ) → b ≡ 10 → Byte.LineEnd ≡ class_of b
unfolding class_of
line_end b e = rw e

pub low : (b : ℕ) → b < 48 → (b ≡ 10 → ⊥) → Byte.Other ≡ class_of b
unfolding class_of
low b lo n = simp (lt-leb 48 b lo, ne_eqb b 10 n)

pub high : (b : ℕ) → 58 ≤ b → Byte.Other ≡ class_of b
unfolding class_of
high b h = let lo : 48 ≤ b = omega arith in let hi : 57 < b = omega arith in simp (le-leb 48 b lo, lt-leb b 57 hi)

pub ruleset classes = (digit, line_end, low, high)

module _ (n : Option ℕ) (d : ℕ) where
  pub first : n ≡ None → Some d ≡ with_digit n d
  unfolding with_digit
  first e = rw e

  pub leading : n ≡ Some 0 → None ≡ with_digit n d
  unfolding with_digit
  leading e = rw e

  module _ (v : ℕ) (e : n ≡ Some v) (z : v ≡ 0 → ⊥) where
    pub longer : v * 10 + d ≤ largest → Some (v * 10 + d) ≡ with_digit n d
    unfolding with_digit
    longer h = simp (e, ne_eqb v 0 z, le-leb (v * 10 + d) largest h)

    pub too_large : largest < v * 10 + d → None ≡ with_digit n d
    unfolding with_digit
    too_large h = simp (e, ne_eqb v 0 z, lt-leb (v * 10 + d) largest h)

pub ruleset digit_more = (first, leading, longer, too_large)

module _ (n : Option ℕ) (b : ℕ) (c : Byte) (h : c ≡ class_of b) where
  pub by_digit : (r : Option ℕ) (d : ℕ) → c ≡ Byte.Digit d → r ≡ with_digit n d → r ≡ grow n b
  unfolding grow
  by_digit r d e k = rw (← h, e, k)

  pub by_end : c ≡ Byte.LineEnd → None ≡ grow n b
  unfolding grow
  by_end e = rw (← h, e)

  pub by_other : c ≡ Byte.Other → None ≡ grow n b
  unfolding grow
  by_other e = rw (← h, e)

pub ruleset byte_more = (by_digit, by_end, by_other)

-- what is left to read answers as the whole
module _ (s : List ℕ) (n : Option ℕ) (i : ℕ) (inv : grows None s ≡ grows n (drop i s)) where
  pub read_on : (m : ℕ) (r : Option ℕ) → i < length s → r ≡ grow n (get_or s i 0) → r ≡ Some m →
      grows None s ≡ grows (Some m) (drop (i + 1) s)
  unfolding grows
  read_on m r h e k = rw (inv, add-one, drop-cons s i 0 h, ← e, k)

  pub read_stop : (r : Option ℕ) → i < length s → r ≡ grow n (get_or s i 0) → r ≡ None → None ≡ number_in s
  unfolding number_in grows
  read_stop r h e k = rw (inv, drop-cons s i 0 h, ← e, k)

  pub read_all : length s ≤ i → n ≡ number_in s
  unfolding number_in grows
  read_all h = rw (inv, drop_of_length-le s h)

pub ruleset number_read = (read_on, read_stop, read_all)
