-- Reading line by line: the loop against the definition over lines; gathering numbers by name.
-- In order: a line of the code against the lines; numbers by name.
-- Not here: what one line says (Allowed). Assumes nothing.
use Prim.Native.Nat.{ℕ, ◌+◌, ◌-◌, ◌≤◌, ◌<◌}
use mathlib.Core.Path.{◌≡◌, refl, sym, ◌∙◌}
use mathlib.Core.List.{List}
use native.Mathlib.Omega.{arith}
use lib.ListN.{length, take, drop, length-drop}
use lib.Seq.{sets, length-take-le}
use Rattle.text.specs.Text.{Lines, over, torn, line, lines_of, seen, field_in}
use Rattle.text.specs.declared.Seen.{Seen}
use Rattle.std.specs.Prelude.{Option, Some, None, Result, Ok, Err}
use Rattle.text.proofs.Lines.{cut_at}
use Rattle.text.proofs.Write.{sets_append}
use Rattle.scanning.specs.Reading.{step_of, line_at, on_next, ended_of, scan_of, check_of}
use Rattle.scanning.specs.Reading.{one, numbers_in}
use Rattle.scanning.specs.declared.State.{State}
use Rattle.scanning.specs.declared.Fault.{Fault}
use Rattle.scanning.specs.declared.Whole.{Whole}
use Rattle.scanning.specs.declared.Unread.{Unread}
use Rattle.text.proofs.Basics.{impossible}

-- ---- a line of the code against the lines

is_over : (p : ℕ) (ls : Lines) → Seen.End ≡ seen p ls → ls ≡ over
is_over p over e = refl
is_over p torn e = impossible (cc)
is_over p (line l r) e = impossible (cc)

is_torn : (p : ℕ) (ls : Lines) → Seen.Torn ≡ seen p ls → ls ≡ torn
is_torn p over e = impossible (cc)
is_torn p torn e = refl
is_torn p (line l r) e = impossible (cc)

after : (s : List ℕ) (p e : ℕ) → p ≤ e → e < length s → p + length (take (e - p) (drop p s)) + 1 ≡ e + 1
after s p e h k =
    let z : e - p ≤ length (drop p s) = omega (arith, length-drop p s) in
    omega (arith, length-take-le (e - p) (drop p s) z)

module _ (most : ℕ) (s : List ℕ) (p : ℕ) (st : State) (v : Seen)
    (inv : check_of most s ≡ scan_of most p st (lines_of (drop p s))) (f : v ≡ seen p (lines_of (drop p s))) where
  pub check_end : (r : Result Whole Unread) → v ≡ Seen.End → r ≡ ended_of p st → r ≡ check_of most s
  unfolding scan_of
  check_end r e h = rw (inv, is_over p (lines_of (drop p s)) (sym e ∙ f), h)

  pub check_torn : v ≡ Seen.Torn → Err (Unread.BadListing p) ≡ check_of most s
  unfolding scan_of
  check_torn e = rw (inv, is_torn p (lines_of (drop p s)) (sym e ∙ f))

  module _ (e : ℕ) (n : Result State Unread) (g : v ≡ Seen.Line e)
      (h : n ≡ line_at p (step_of most st (take (e - p) (drop p s)))) where
    cut : check_of most s ≡
        on_next p (step_of most st (take (e - p) (drop p s))) (λ t. scan_of most (e + 1) t (lines_of (drop (e + 1) s)))
    unfolding scan_of
    cut =
        let c = cut_at s p e (sym g ∙ f) in
        rw (inv, c.lines, after s p e c.from c.within)

    pub check_on : (t : State) → n ≡ Ok t → check_of most s ≡ scan_of most (e + 1) t (lines_of (drop (e + 1) s))
    check_on t k = by (step_of most st (take (e - p) (drop p s))) cut h
      where
        by : (m : Result State Fault) →
            check_of most s ≡ on_next p m (λ t. scan_of most (e + 1) t (lines_of (drop (e + 1) s))) →
            n ≡ line_at p m → check_of most s ≡ scan_of most (e + 1) t (lines_of (drop (e + 1) s))
        by (Ok u) c l = let z : u ≡ t = cc in rw z at c
        by (Err x) c l = impossible (cc)

    pub check_refused : (u : Unread) → n ≡ Err u → Err u ≡ check_of most s
    check_refused u k = by (step_of most st (take (e - p) (drop p s))) cut h
      where
        by : (m : Result State Fault) →
            check_of most s ≡ on_next p m (λ t. scan_of most (e + 1) t (lines_of (drop (e + 1) s))) →
            n ≡ line_at p m → Err u ≡ check_of most s
        by (Ok t) c l = impossible (cc)
        by (Err x) c l = cc

pub check_starts : (most : ℕ) (s : List ℕ) → check_of most s ≡ scan_of most 0 State.Edition (lines_of (drop 0 s))
unfolding check_of
check_starts most s = refl

pub ruleset checked = (check_end, check_torn, check_on, check_refused, check_starts)

-- ---- numbers by name

pub at_most_one : (n : Option ℕ) → length (one n) ≤ 1
at_most_one (Some v) = omega arith
at_most_one None = omega arith

module _ (name s o l : List ℕ) (p i : ℕ)
    (inv : sets o 0 (numbers_in name (lines_of s)) ≡ sets l i (numbers_in name (lines_of (drop p s)))) where
  pub gather_over : (v : Seen) → v ≡ seen p (lines_of (drop p s)) → ((e : ℕ) → v ≡ Seen.Line e → ⊥) →
      l ≡ sets o 0 (numbers_in name (lines_of s))
  unfolding numbers_in
  gather_over v f none = by (lines_of (drop p s)) inv f
    where
      by : (ls : Lines) → sets o 0 (numbers_in name (lines_of s)) ≡ sets l i (numbers_in name ls) → v ≡ seen p ls →
          l ≡ sets o 0 (numbers_in name (lines_of s))
      by over h g = sym h
      by torn h g = sym h
      by (line x r) h g = absurd (none (p + length x) g)

  pub gather_on : (v : Seen) (e : ℕ) (n : Option ℕ) (m : List ℕ) (j : ℕ) →
      v ≡ seen p (lines_of (drop p s)) → v ≡ Seen.Line e → n ≡ field_in name (take (e - p) (drop p s)) →
      j ≡ i + length (one n) → m ≡ sets l i (one n) →
      sets o 0 (numbers_in name (lines_of s)) ≡ sets m j (numbers_in name (lines_of (drop (e + 1) s)))
  unfolding numbers_in
  gather_on v e n m j f g h a b =
      rw (inv, (cut_at s p e (sym g ∙ f)).lines, ← h)
      (rw (sets_append (one n) (numbers_in name (lines_of (drop (e + 1) s))) l i, a, b))

pub gather_index : (s : List ℕ) (p i e j : ℕ) (v : Seen) (n : Option ℕ) →
    v ≡ seen p (lines_of (drop p s)) → v ≡ Seen.Line e → i ≤ p → j ≡ i + length (one n) → j ≤ e + 1
gather_index s p i e j v n f g h a = let cut = cut_at s p e (sym g ∙ f) in omega (arith, at_most_one n)

pub ruleset gathered = (gather_over, gather_on, gather_index)
