-- A call with its session's one record: what the run's loop does where it keeps the sixteen records in place.
-- In order: where a call's record stands; the call; the call and its answer printed.
-- That this is the call over sixteen records is a law (proofs/Slots.antt). Assumes nothing.
use Rattle.std.specs.Prelude.{ℕ, ◌+◌, min, List, length}
use Rattle.std.proofs.lemmas.List.Edits.{sets}
use Rattle.terms.specs.declared.Size.{Size}
use Rattle.terms.specs.declared.Counters.{Counters}
use Rattle.steps.specs.declared.Session.{Session}
use Rattle.steps.specs.declared.Stepped.{Stepped}
use Rattle.steps.specs.Steps.{Done, done}
use Rattle.register.specs.declared.Started.{Started}
use Rattle.register.specs.Register.{start_of, step_of}
use Rattle.sixteen.specs.declared.Call.{Call}
use Rattle.lines.specs.Lines.{answer_line}
use Rattle.running.specs.Running.{caller_of}

-- a session above 15 has no record, and is lent the last one
abbrev pub slot_of : Call → ℕ
slot_of call = min (caller_of call) 15

abbrev pub begun : Counters → Started → Stepped
begun c r = record { counters = c; session = r.session; answer = r.answer }

abbrev pub call_of : Size → List ℕ → List ℕ → Counters → Call → Session → Done
call_of z ns es c (Call.Start who op) s = done ns es (begun c (start_of z ns es who s op))
call_of z ns es c (Call.Step who) s = step_of z ns es c who s

-- both tables, the output, the counters, the session's record, and the place after the answer
pub data Turn : Type 0 where
  turned : List ℕ → List ℕ → List ℕ → Counters → Session → ℕ → Turn

abbrev pub told : List ℕ → ℕ → ℕ → Done → Turn
told out place who (done ns es r) =
    turned ns es (sets out place (answer_line who r.answer)) r.counters r.session
    (place + length (answer_line who r.answer))

unfoldable pub turn_of : Size → List ℕ → List ℕ → List ℕ → ℕ → Counters → Call → Session → Turn
turn_of z ns es out place c call s = told out place (caller_of call) (call_of z ns es c call s)
