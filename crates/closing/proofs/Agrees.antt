-- What a short way of an update's last steps tells is the outcome of the step of the record that the words stand for.
-- In order: a step that acts; Number; Finish; where nothing is told the tables stay.
-- Not here: that storing the words stores the record (crate stepping). Assumes nothing.
use Prim.Native.Nat.{ℕ, ◌+◌, ◌≤◌, ◌<◌}
use mathlib.Core.Path.{◌≡◌, refl, sym, ◌∙◌}
use mathlib.Core.List.{List}
use mathlib.Core.Bool.{Bool, true, false}
use Rattle.std.specs.Prelude.{Option, Some, None}
use native.Mathlib.Omega.{arith}
use lib.Dec.{eqb}
use Rattle.order.proofs.Tests.{cond_cases, ltb_cases, eqb_cases}
use Rattle.nodes.specs.Nodes.{unlocked_both}
use Rattle.bundle.specs.Bundle.{finish_of}
use Rattle.terms.specs.declared.Size.{Size}
use Rattle.terms.specs.declared.Counters.{Counters}
use Rattle.steps.specs.declared.Phase.{Phase}
use Rattle.steps.specs.declared.Stepped.{Stepped}
use Rattle.steps.specs.Steps.{done, under_way, usable, finish_step, act_step}
use Rattle.finishing.proofs.Ways.{numbers}
use Rattle.encoding.specs.declared.OpWords.{OpWords}
use Rattle.encoding.specs.declared.PhaseWords.{PhaseWords}
use Rattle.encoding.specs.declared.Words.{Words}
use Rattle.encoding.specs.Encoding.{phase_from, back_right}
use Rattle.encoding.proofs.Ways.{is_updating, is_number, is_finish, front_all, back_number, back_all}
use Rattle.encoding.proofs.Trip.{right_decodes}
use Rattle.shortly.specs.Told.{named}
use Rattle.advancing.specs.Advancing.{updates_of, removing}
use Rattle.advancing.proofs.Agrees.{Update, update_words}
use Rattle.closing.specs.Closing.{number_ahead, usable_ahead, Finished, finished, finish_ahead}
use Rattle.closing.specs.Told.{Acts, numbered, over, FinishTold}

module _ (z : Size) (ns es : List ℕ) (c : Counters) (who : ℕ) (w : Words) where
  -- ---- from the phase that the words say
  acts_from : Update w → (here : Phase) (ns' es' : List ℕ) (r : Stepped) → here ≡ phase_from w.phase
      → under_way here ≡ true → (w.phase.phase ≡ 0 → ⊥) → w.phase.phase ≤ 8 → back_right w.phase ≡ true
      → act_step z ns es c who (named w) here ≡ done ns' es' r → Acts z ns es c who w ns' es' r
  acts_from u here ns' es' r at way some few back acts =
      record {
        read = right_decodes w u.right (sym (front_all w.phase some few)) back;
        busy = rw (← at, u.names, way);
        acts = rw (← at) acts;
      }

  -- ---- Number
  unfoldable Numbers : Option ℕ → Type 0
  Numbers None = Unit {0}
  Numbers (Some n) = (n ≡ c.stamp + 1) × Acts z ns es c who w ns es (numbered c w)

  none_numbers : Numbers None
  unfolding Numbers
  none_numbers = tt

  number_acts : w.phase.phase ≡ 6 → eqb w.phase.e 0 ≡ true → Update w → c.stamp < z.updates
      → Numbers (Some (c.stamp + 1))
  unfolding Numbers
  number_acts six unused u few = (
    refl,
    acts_from u (Phase.Number w.phase.a w.phase.b w.phase.c w.phase.d) ns es (numbered c w)
        (is_updating w.phase _ (omega arith) (omega arith) (omega arith) (is_number _ _ _ _ _ _ six)) refl
        (omega arith) (omega arith) (sym (back_number w.phase six) ∙ unused)
        (rw (← numbers z c (named w) w.phase.a w.phase.b w.phase.c w.phase.d (numbered c w) few refl)),
  )

  number_told : Numbers (number_ahead z c.stamp w.op w.phase)
  unfolding number_ahead
  number_told =
      eqb_cases Numbers w.phase.phase 6 _ _ (λ six.
      cond_cases Numbers (eqb w.phase.e 0) _ _ (λ unused.
      cond_cases Numbers (updates_of w.op) _ _ (λ updates.
      ltb_cases Numbers c.stamp z.updates _ _ (number_acts six unused (update_words w updates))
      (λ _. none_numbers)) (λ _. none_numbers)) (λ _. none_numbers)) (λ _. none_numbers)

  pub number_is_step : (n : ℕ) → Some n ≡ number_ahead z c.stamp w.op w.phase
      → (n ≡ c.stamp + 1) × Acts z ns es c who w ns es (numbered c w)
  unfolding Numbers
  number_is_step n e = rw (← e) at number_told

  -- ---- Finish
  finish_step_lem : Update w → usable_ahead z (removing w.op) w.phase ≡ true
      → finish_step z ns es c (named w) w.phase.a w.phase.b w.phase.c w.phase.d w.phase.e
      ≡ done (unlocked_both ns w.phase.a w.phase.b (removing w.op))
      (finish_of (finish_of es w.phase.c w.phase.e) w.phase.d w.phase.e) (over c w)
  unfolding finish_step usable usable_ahead
  finish_step_lem u room = rw (← u.removes, room)

  unfoldable Ends : Finished → Type 0
  Ends f = FinishTold z ns es c who w f

  none_ends : (ns' es' : List ℕ) → Ends (finished ns' es' false)
  unfolding Ends
  none_ends ns' es' e = let q : ◌≡◌ {A = ℕ} 0 1 = cc in absurd (omega (arith, q))

  finish_acts : w.phase.phase ≡ 8 → Update w → usable_ahead z (removing w.op) w.phase ≡ true
      → Ends (finished (unlocked_both ns w.phase.a w.phase.b (removing w.op))
      (finish_of (finish_of es w.phase.c w.phase.e) w.phase.d w.phase.e) true)
  unfolding Ends
  finish_acts eight u room _ =
      acts_from u (Phase.Finish w.phase.a w.phase.b w.phase.c w.phase.d w.phase.e) _ _ (over c w)
      (is_updating w.phase _ (omega arith) (omega arith) (omega arith)
      (is_finish w.phase.phase w.phase.a w.phase.b w.phase.c w.phase.d w.phase.e (omega arith) (omega arith)))
      refl (omega arith) (omega arith) (sym (back_all w.phase (omega arith) (omega arith) (omega arith)))
      (finish_step_lem u room)

  finish_told : Ends (finish_ahead z ns es w.op w.phase)
  unfolding finish_ahead
  finish_told =
      eqb_cases Ends w.phase.phase 8 _ _ (λ eight.
      cond_cases Ends (updates_of w.op) _ _ (λ updates.
      cond_cases Ends (usable_ahead z (removing w.op) w.phase) _ _ (finish_acts eight (update_words w updates))
      (λ _. none_ends ns es)) (λ _. none_ends ns es)) (λ _. none_ends ns es)

  pub finish_is_step : (ns' es' : List ℕ) (t : Bool) → finished ns' es' t ≡ finish_ahead z ns es w.op w.phase
      → t ≡ true → Acts z ns es c who w ns' es' (over c w)
  unfolding Ends
  finish_is_step ns' es' t e = rw (← e) at finish_told

-- ---- where nothing is told the tables stay
module _ (z : Size) (ns es : List ℕ) (o : OpWords) (p : PhaseWords) where
  unfoldable Keeps : Finished → Type 0
  Keeps (finished ns' es' t) = t ≡ false → (ns' ≡ ns) × (es' ≡ es)

  same_keeps : (t : Bool) → Keeps (finished ns es t)
  unfolding Keeps
  same_keeps t e = (refl, refl)

  ends_keeps : (ns' es' : List ℕ) → Keeps (finished ns' es' true)
  unfolding Keeps
  ends_keeps ns' es' e = let q : ◌≡◌ {A = ℕ} 0 1 = cc in absurd (omega (arith, q))

  finish_keeps : Keeps (finish_ahead z ns es o p)
  unfolding finish_ahead
  finish_keeps =
      cond_cases Keeps (eqb p.phase 8) _ _ (λ _.
      cond_cases Keeps (updates_of o) _ _ (λ _.
      cond_cases Keeps (usable_ahead z (removing o) p) _ _ (λ _. ends_keeps _ _)
      (λ _. same_keeps false)) (λ _. same_keeps false)) (λ _. same_keeps false)

  pub finish_none : (ns' es' : List ℕ) (t : Bool) → finished ns' es' t ≡ finish_ahead z ns es o p → t ≡ false
      → (ns' ≡ ns) × (es' ≡ es)
  unfolding Keeps
  finish_none ns' es' t e = rw (← e) at finish_keeps
