-- Each way through the runner's line reader, over plain values.
-- In order: commas; two numbers; a head and its numbers; a line.
-- Not here: how long a good line is (Room), printing (Words). Assumes nothing.
use Prim.Native.Nat.{ℕ, suc, ◌+◌, ◌-◌, ◌≤◌, ◌<◌}
use mathlib.Core.Path.{◌≡◌, refl, sym, ◌∙◌, ap}
use mathlib.Core.List.{List, [], ◌∷◌}
use mathlib.Core.Bool.{Bool, true, false, not, cond}
use native.Mathlib.Omega.{arith}
use lib.ListN.{length, take, drop, length-drop}
use lib.Dec.{ltb, eqb}
use lib.Seq.{take_all, length-take-le}
use borrow.Author.Tests.{lt-ltb, le-ltb, ltb-true, ltb-false}
use Rattle.std.specs.Prelude.{Option, Some, None}
use Rattle.std.specs.List.{position_or_len}
use Rattle.text.proofs.Basics.{impossible}
use Rattle.text.specs.Text.{number_in, field_in}
use Rattle.terms.specs.declared.Op.{Op}
use Rattle.sixteen.specs.declared.Call.{Call}
use Rattle.lines.specs.Lines.{insert_name, remove_name, has_name, range_name, step_name}
use Rattle.lines.specs.Lines.{comma_in, comma_at, two_in, keyed, paired, start_in, line_in}

-- ---- commas

comma_is : (s : List ℕ) → comma_in s ≡ position_or_len (λ b. eqb b 44) s
unfolding comma_in
comma_is [] = refl
comma_is (b ∷ s) = by (eqb b 44) (position_or_len (λ x. eqb x 44) s) (comma_is s)
  where
    by : (t : Bool) (k : ℕ) → comma_in s ≡ k → cond t 0 (suc (comma_in s)) ≡ cond (not t) (1 + k) 0
    by true k ih = refl
    by false k ih = omega (arith, ih)

-- what the search for a comma answers
pub comma_found : (s : List ℕ) (r : Option ℕ) →
    r ≡ cond (ltb (position_or_len (λ b. eqb b 44) s) (length s)) (Some (position_or_len (λ b. eqb b 44) s)) None →
    r ≡ comma_at s
unfolding comma_at
comma_found s r e = rw (e, comma_is s)

-- what a caller learns of it
module _ (s : List ℕ) (r : Option ℕ) (e : r ≡ comma_at s) where
  pub comma_none : r ≡ None → length s ≤ comma_in s
  unfolding comma_at
  comma_none h = by (ltb (comma_in s) (length s)) refl (sym e ∙ h)
    where
      by : (t : Bool) → ltb (comma_in s) (length s) ≡ t → cond t (Some (comma_in s)) None ≡ None →
          length s ≤ comma_in s
      by true t k = impossible (cc)
      by false t k = ltb-false _ _ t

  pub comma_some : (c : ℕ) → r ≡ Some c → (c ≡ comma_in s) × (c < length s)
  unfolding comma_at
  comma_some c h = by (ltb (comma_in s) (length s)) refl (sym e ∙ h)
    where
      by : (t : Bool) → ltb (comma_in s) (length s) ≡ t → cond t (Some (comma_in s)) None ≡ Some c →
          (c ≡ comma_in s) × (c < length s)
      by true t k = let is : comma_in s ≡ c = cc in (sym is, omega (arith, is, ltb-true _ _ t))
      by false t k = impossible (cc)

  pub comma_is_at : (c : ℕ) → r ≡ Some c → c ≡ comma_in s
  comma_is_at c h = (comma_some c h).0

  pub comma_within : (c : ℕ) → r ≡ Some c → c < length s
  comma_within c h = (comma_some c h).1

  pub comma_taken : (c : ℕ) → r ≡ Some c → c ≡ length (take c s)
  comma_taken c h = sym (length-take-le c s (omega (arith, comma_within c h)))

-- ---- two numbers

-- the part from d on, as the code takes it
tail : (s : List ℕ) (d : ℕ) → take (length s - d) (drop d s) ≡ drop d s
tail s d =
    let z : length (drop d s) ≤ length s - d = omega (arith, length-drop d s) in
    take_all (length s - d) (drop d s) z

pub two_none : (s : List ℕ) → length s ≤ comma_in s → None ≡ two_in s
unfolding two_in
two_none s h = rw (le-ltb (comma_in s) (length s) h)

module _ (s : List ℕ) (c : ℕ) (at_comma : c ≡ comma_in s) (within : c < length s) (n : Option ℕ)
    (first : n ≡ number_in (take c s)) where
  pub two_not_first : n ≡ None → None ≡ two_in s
  unfolding two_in
  two_not_first e = rw (← at_comma, lt-ltb c (length s) within, ← first, e)

  module _ (a : ℕ) (is : n ≡ Some a) (m : Option ℕ)
      (second : m ≡ number_in (take (length s - (c + 1)) (drop (c + 1) s))) where
    after : number_in (drop (c + 1) s) ≡ m
    after = ap number_in (sym (tail s (c + 1))) ∙ sym second

    pub two_are : (b : ℕ) → m ≡ Some b → Some (a, b) ≡ two_in s
    unfolding two_in
    two_are b e = rw (← at_comma, lt-ltb c (length s) within, ← first, is, after, e)

    pub two_not_second : m ≡ None → None ≡ two_in s
    unfolding two_in
    two_not_second e = rw (← at_comma, lt-ltb c (length s) within, ← first, is, after, e)

pub ruleset twos =
    (two_none, two_not_first, two_are, two_not_second, comma_none, comma_is_at, comma_within, comma_taken)

-- ---- a head and its numbers

module _ (head : List ℕ) (k : ℕ) (r : Option ℕ) (fr : r ≡ field_in remove_name head) where
  pub line_remove : (s : ℕ) → r ≡ Some s → Some (Call.Start s (Op.Remove k)) ≡ keyed head k
  unfolding keyed
  line_remove s e = rw (← fr, e)

  module _ (nr : r ≡ None) (h : Option ℕ) (fh : h ≡ field_in has_name head) where
    pub line_has : (s : ℕ) → h ≡ Some s → Some (Call.Start s (Op.Has k)) ≡ keyed head k
    unfolding keyed
    line_has s e = rw (← fr, nr, ← fh, e)

    pub keyed_bad : h ≡ None → None ≡ keyed head k
    unfolding keyed
    keyed_bad e = rw (← fr, nr, ← fh, e)

module _ (head : List ℕ) (a b : ℕ) (i : Option ℕ) (fi : i ≡ field_in insert_name head) where
  pub line_insert : (s : ℕ) → i ≡ Some s → Some (Call.Start s (Op.Insert a b)) ≡ paired head a b
  unfolding paired
  line_insert s e = rw (← fi, e)

  module _ (ni : i ≡ None) (g : Option ℕ) (fg : g ≡ field_in range_name head) where
    pub line_range : (s : ℕ) → g ≡ Some s → Some (Call.Start s (Op.Range a b)) ≡ paired head a b
    unfolding paired
    line_range s e = rw (← fi, ni, ← fg, e)

    pub paired_bad : g ≡ None → None ≡ paired head a b
    unfolding paired
    paired_bad e = rw (← fi, ni, ← fg, e)

pub ruleset heads = (line_remove, line_has, keyed_bad, line_insert, line_range, paired_bad)

module _ (head tail : List ℕ) (n : Option ℕ) (one : n ≡ number_in tail) where
  pub start_keyed : (k : ℕ) (r : Option Call) → n ≡ Some k → r ≡ keyed head k → r ≡ start_in head tail
  unfolding start_in
  start_keyed k r e h = rw (← one, e, h)

  module _ (other : n ≡ None) (t : Option (ℕ × ℕ)) (two : t ≡ two_in tail) where
    pub start_paired : (a b : ℕ) (r : Option Call) → t ≡ Some (a, b) → r ≡ paired head a b → r ≡ start_in head tail
    unfolding start_in
    start_paired a b r e h = rw (← one, other, ← two, e, h)

    pub start_bad : t ≡ None → None ≡ start_in head tail
    unfolding start_in
    start_bad e = rw (← one, other, ← two, e)

pub ruleset starts = (start_keyed, start_paired, start_bad)

-- ---- a line

pub line_start : (l : List ℕ) (c : ℕ) (r : Option Call) → c ≡ comma_in l → c < length l →
    r ≡ start_in (take c l) (take (length l - (c + 1)) (drop (c + 1) l)) → r ≡ line_in l
unfolding line_in
line_start l c r at_comma within h = rw (← at_comma, lt-ltb c (length l) within, ← tail l (c + 1), h)

module _ (l : List ℕ) (n : Option ℕ) (none : length l ≤ comma_in l) (f : n ≡ field_in step_name l) where
  pub line_step : (s : ℕ) → n ≡ Some s → Some (Call.Step s) ≡ line_in l
  unfolding line_in
  line_step s e = rw (le-ltb (comma_in l) (length l) none, ← f, e)

  pub line_bad : n ≡ None → None ≡ line_in l
  unfolding line_in
  line_bad e = rw (le-ltb (comma_in l) (length l) none, ← f, e)

pub ruleset lines = (line_start, line_step, line_bad, comma_none, comma_is_at, comma_within, comma_taken)
