-- Ways out of the calls for other programs, over plain values: an answer of another length, and what is refused before
-- the register is asked.
-- In order: start; step; several steps. Assumes nothing.
use Prim.Native.Nat.{ℕ, ◌≤◌}
use mathlib.Core.Path.{◌≡◌, sym, ◌∙◌}
use mathlib.Core.List.{List}
use mathlib.Core.Bool.{Bool, true, false, cond}
use lib.ListN.{length}
use lib.Dec.{eqb}
use borrow.Author.Tests.{le-ltb, eq-eqb, ne_eqb}
use Rattle.terms.specs.Terms.{small}
use Rattle.terms.specs.declared.Size.{Size}
use Rattle.register.specs.Register.{fits}
use Rattle.packing.specs.Packing.{refused_by, put_reply}
use Rattle.exchange.specs.Exchange.{told, left, stays}
use Rattle.calling.specs.Calling.{lengths_fit, refusal, strode, tally}
use Rattle.stepping.specs.Stepping.{heard, step_call}
use Rattle.ffi.specs.Ffi.{unfit, start_call, steps_call}

-- ---- start
module _ (z : Size) (ns es ws out : List ℕ) (who kind first second : ℕ) where
  pub start_silent : (length out ≡ 3 → ⊥) → heard ws out 7 ≡ start_call z ns es ws out who kind first second
  unfolding start_call
  start_silent h = rw (ne_eqb _ _ h)

-- ---- step
module _ (ns es ws : List ℕ) where
  fit_words : length ns ≡ 3072 → length es ≡ 8192 → eqb (length ws) 147 ≡ lengths_fit small ns es ws
  unfolding lengths_fit fits
  fit_words h i = rw (eq-eqb _ _ h, eq-eqb _ _ i)

  fit_entries_not : length ns ≡ 3072 → (length es ≡ 8192 → ⊥) → false ≡ lengths_fit small ns es ws
  unfolding lengths_fit fits
  fit_entries_not h i = rw (eq-eqb _ _ h, ne_eqb _ _ i)

  fit_nodes_not : (length ns ≡ 3072 → ⊥) → false ≡ lengths_fit small ns es ws
  unfolding lengths_fit fits
  fit_nodes_not h = rw (ne_eqb _ _ h)

  pub fit_all : length ns ≡ 3072 → length es ≡ 8192 → length ws ≡ 147 → lengths_fit small ns es ws ≡ true
  fit_all hn he hw = sym (fit_words hn he) ∙ eq-eqb _ _ hw

  module _ (out : List ℕ) (who : ℕ) (out' : List ℕ) (n : ℕ) where
    step_out : (b : Bool) → told out' n ≡ cond b (refusal out 7) (told out 7)
        → left ns es ws out' n ≡ cond b (stays ns es ws out 7) (left ns es ws out 7)
    step_out true e = cc
    step_out false e = cc

    step_unfit : false ≡ lengths_fit small ns es ws → told out' n ≡ unfit out
        → left ns es ws out' n ≡ step_call small ns es ws out who
    unfolding step_call
    step_unfit h e = rw (← h) (step_out (eqb (length out) 3) e)

    pub step_nodes : (length ns ≡ 3072 → ⊥) → told out' n ≡ unfit out
        → left ns es ws out' n ≡ step_call small ns es ws out who
    step_nodes h e = step_unfit (fit_nodes_not h) e

    module _ (nodes : length ns ≡ 3072) (three : length out ≡ 3) (e : told out' n ≡ refusal out 7) where
      pub step_entries : (length es ≡ 8192 → ⊥) → left ns es ws out' n ≡ step_call small ns es ws out who
      step_entries h = step_unfit (fit_entries_not nodes h) (rw (eq-eqb _ _ three) e)

      pub step_words : length es ≡ 8192 → (length ws ≡ 147 → ⊥)
          → left ns es ws out' n ≡ step_call small ns es ws out who
      step_words entries h =
          step_unfit (sym (ne_eqb _ _ h) ∙ fit_words nodes entries) (rw (eq-eqb _ _ three) e)

pub ruleset checked_steps = (fit_all, step_entries, step_words)

-- ---- several steps
module _ (z : Size) (ns es ws ps out : List ℕ) (who limit : ℕ) where
  pub strides_silent : (length out ≡ 5 → ⊥) → strode ns es ws ps out 7 ≡ steps_call z ns es ws ps out who limit
  unfolding steps_call
  strides_silent h = rw (ne_eqb _ _ h)

  module _ (b : Bool) (five : length out ≡ 5) (test : b ≡ lengths_fit z ns es ws) where
    pub strides_lengths : (out' : List ℕ) (n : ℕ) → b ≡ false
        → told out' n ≡ told (tally (put_reply out (refused_by 7)) 0 0) 7
        → strode ns es ws ps out' n ≡ steps_call z ns es ws ps out who limit
    unfolding steps_call
    strides_lengths out' n h e = rw (eq-eqb _ _ five, ← test, h) (cc)

    pub strides_session : (out' : List ℕ) (n : ℕ) → b ≡ true → 16 ≤ who
        → told out' n ≡ told (tally (put_reply out (refused_by 1)) 0 0) 1
        → strode ns es ws ps out' n ≡ steps_call z ns es ws ps out who limit
    unfolding steps_call
    strides_session out' n h past e = rw (eq-eqb _ _ five, ← test, h, le-ltb _ _ past) (cc)
