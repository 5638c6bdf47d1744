-- Busy sessions and open ranges: by the history of a register as by the drawing that it shows.
-- In order: a range under way; open ranges; busy sessions, and their steps count.
-- Assumes nothing.
use Prim.Native.Nat.{ℕ, ◌<◌}
use mathlib.Core.Path.{◌≡◌, sym, ◌∙◌, ap}
use mathlib.Core.Logic.{⊎_elim}
use mathlib.Core.Option.{Option, none, some}
use native.Mathlib.Decide.{dec_lt}
use native.Mathlib.Omega.{arith}
use Rattle.order.specs.Set.{insert, remove}
use Rattle.terms.specs.Terms.{small}
use Rattle.terms.specs.declared.Op
use Rattle.sixteen.specs.declared.Call.{Call}
use Rattle.reached.specs.Fair.{Lived, reply, counted, whose, Busy, Open}
use Rattle.drawing.specs.Phases.{Op, upd, has, range, task}
use Rattle.drawing.specs.Drawing.{Drawing}
use Rattle.words.proofs.Show.{task_word, Shown, Advance, waited, stepped}
use Rattle.words.proofs.Steady.{AgreesAfter}
use Rattle.words.proofs.Under.{none_idle}
use Rattle.words.proofs.Whole.{step_advances}
use Rattle.pace.specs.Turns
use Rattle.starving.proofs.Live.{out_some}

-- ---- a range under way
range_task : (o : Option Op) (low high : ℕ) → task_word o ≡ Op.Op.Range low high → o ≡ some (range low high)
range_task none low high e = let z : ◌≡◌ {A = ℕ} 0 1 = cc in absurd (omega arith)
range_task (some (upd (insert k v))) low high e = let z : ◌≡◌ {A = ℕ} 0 1 = cc in absurd (omega arith)
range_task (some (upd (remove k))) low high e = let z : ◌≡◌ {A = ℕ} 0 1 = cc in absurd (omega arith)
range_task (some (has k)) low high e = let z : ◌≡◌ {A = ℕ} 0 1 = cc in absurd (omega arith)
range_task (some (range a b)) low high e = cc

module _ (key val : ℕ → ℕ) (l : Lived) (m : Drawing) (S : Shown small key val l.state l.past m) where
  -- ---- OPEN RANGES
  pub open_in_words : (q low high : ℕ) → Turns.Open q low high m → Open q low high l
  open_in_words q low high is_open = S.tells.under q ∙ ap task_word is_open

  pub open_drawn : (q low high : ℕ) → Open q low high l → Turns.Open q low high m
  open_drawn q low high is_open = range_task (task (m.phase q)) low high (sym (S.tells.under q) ∙ is_open)

  -- ---- BUSY SESSIONS
  pub busy_in_words : (i : ℕ) → Turns.Busy m i → Busy l i
  busy_in_words i busy e = busy (none_idle (m.phase i) (sym (S.tells.under i) ∙ e))

  busy_phase : (i : ℕ) → Busy l i → Turns.Busy m i
  busy_phase i busy e = busy (S.tells.under i ∙ ap (λ φ. task_word (task φ)) e)

  pub busy_drawn : (i : ℕ) → Busy l i → (i < 16) × Turns.Busy m i
  busy_drawn i busy = elim (dec_lt i 16) [
    | yes below ↦ (below, busy_phase i busy)
    | no above ↦ absurd (busy_phase i busy (S.others i (omega arith)))
  ]

  -- a busy session's step is counted
  advance_counts : (t : ℕ) (m' : Drawing) → Advance key val t m m' (reply l (Call.Step t))
      → whose l (Call.Step t) ≡ some t
  advance_counts t m' (waited w e a) = ap (counted t) a
  advance_counts t m' (stepped o f φ step e a) = ap (counted t) a ∙ out_some t o

  pub busy_counts : (t : ℕ) → AgreesAfter key val l.state t → Busy l t → whose l (Call.Step t) ≡ some t
  busy_counts t agrees busy = ⊎_elim (λ e. absurd ((busy_drawn t busy).1 e))
      (λ a. advance_counts t a.1.0 a.1.2) (step_advances key val l.state l.past m S t agrees)
