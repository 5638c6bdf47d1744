-- What it is for a short way of an update's last steps to tell the step.
-- In order: a step that acts; Number; Finish. Not here: that they do (proofs/Agrees.antt). Assumes nothing.
use Rattle.std.specs.Prelude.{ℕ, ◌+◌, ◌≡◌, List, true, Ok}
use Rattle.terms.specs.declared.Size.{Size}
use Rattle.terms.specs.declared.Counters.{Counters}
use Rattle.steps.specs.declared.Phase.{Phase}
use Rattle.steps.specs.declared.Stepped.{Stepped}
use Rattle.steps.specs.Steps.{done, busy_of, works, ends, raised, finish_answer, act_step}
use Rattle.encoding.specs.declared.Words.{Words}
use Rattle.encoding.specs.Encoding.{phase_from, session_from, decode}
use Rattle.shortly.specs.Told.{named}
use Rattle.advancing.specs.Advancing.{removing}
use Rattle.closing.specs.Closing.{Finished, finished}

-- ---- the words are a record's that is under way, and its step leaves the tables ns' and es' and gives r
pub record Acts (z : Size) (ns es : List ℕ) (c : Counters) (who : ℕ) (w : Words) (ns' es' : List ℕ) (r : Stepped)
    : Type 0 where
  pub read : decode w ≡ Ok (session_from w)
  pub busy : busy_of (session_from w) ≡ true
  pub acts : act_step z ns es c who (named w) (phase_from w.phase) ≡ done ns' es' r

-- ---- what each then gives
abbrev pub numbered : Counters → Words → Stepped
numbered c w =
    works (raised c) (named w) (Phase.Link w.phase.a w.phase.b w.phase.c w.phase.d (c.stamp + 1))

abbrev pub over : Counters → Words → Stepped
over c w = ends c (finish_answer (removing w.op) w.phase.e)

abbrev pub FinishTold : Size → List ℕ → List ℕ → Counters → ℕ → Words → Finished → Type 0
FinishTold z ns es c who w (finished ns' es' t) = t ≡ true → Acts z ns es c who w ns' es' (over c w)
