-- Calls in words, by a test that computes: for runs that are given call by call.
-- In order: the test; what it tells. Assumes nothing.
use Prim.Native.Nat.{ℕ}
use mathlib.Core.Path.{◌≡◌, refl}
use mathlib.Core.Bool.{Bool, true, false, ◌&&◌, false≢true}
use mathlib.Core.List.{List, [], ◌∷◌}
use native.Mathlib.Omega.{arith}
use lib.Dec.{leb}
use borrow.Author.Tests.{leb-true}
use Rattle.terms.specs.Terms.{sought_of, high_of, value_of}
use Rattle.sixteen.specs.declared.Call.{Call}
use Rattle.reached.specs.Reached.{Word, InWords}
use Rattle.reached.specs.Fair.{AllInWords}

-- ---- the test
abbrev is_word : ℕ → Bool
is_word n = leb n 4294967295

abbrev pub in_words : Call → Bool
in_words (Call.Start who op) = is_word (sought_of op) && (is_word (high_of op) && is_word (value_of op))
in_words (Call.Step who) = true

abbrev pub all_in_words : List Call → Bool
all_in_words [] = true
all_in_words (c ∷ calls) = in_words c && all_in_words calls

-- ---- what it tells
both : (a b : Bool) → (a && b) ≡ true → (a ≡ true) × (b ≡ true)
both true b e = (refl, e)
both false b e = absurd (false≢true e)

word : (n : ℕ) → is_word n ≡ true → Word n
word n e = leb-true n 4294967295 e

pub in_words_lem : (c : Call) → in_words c ≡ true → InWords c
in_words_lem (Call.Start who op) e =
    let d = both (is_word (sought_of op)) (is_word (high_of op) && is_word (value_of op)) e in
    let r = both (is_word (high_of op)) (is_word (value_of op)) d.1 in
    let key = word (sought_of op) d.0 in
    let high = word (high_of op) r.0 in
    let value = word (value_of op) r.1 in
    (omega arith, omega arith, omega arith)
in_words_lem (Call.Step who) e = tt

pub all_in_words_lem : (calls : List Call) → all_in_words calls ≡ true → AllInWords calls
all_in_words_lem [] e = tt
all_in_words_lem (c ∷ calls) e = let d = both (in_words c) (all_in_words calls) e in
    (in_words_lem c d.0, all_in_words_lem calls d.1)
