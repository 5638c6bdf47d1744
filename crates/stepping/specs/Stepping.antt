-- One step of a session on its words: what it leaves in the lent slices, and the number that it returns.
-- In order: the checks; what is left of the words and the answer; the step (7, 1, 8, then 5 and 8 by the register).
-- `z` is the size, `ns` and `es` are the tables, `ws` the counters' and records' words, `out` the answer's words.
-- Not here: lengths and answers (crate calling), the register's step (crate register), where words lie (crate
-- packing).
-- Assumes nothing.
use Rattle.std.specs.Prelude.{ℕ, ◌<◌, ◌≡◌, List, Bool, true, cond, length, ltb, eqb}
use Rattle.terms.specs.declared.Size.{Size}
use Rattle.terms.specs.declared.Counters.{Counters}
use Rattle.steps.specs.declared.Session.{Session}
use Rattle.steps.specs.Steps.{idle, Done, done, finish_answer}
use Rattle.register.specs.Register.{step_of}
use Rattle.encoding.specs.declared.Words.{Words}
use Rattle.encoding.specs.Encoding.{encode, decode}
use Rattle.packing.specs.declared.Reply.{Reply}
use Rattle.packing.specs.Packing.{counters_at, put_counters, record_at, put_two, put_record, reply_of, number_of}
use Rattle.packing.specs.Packing.{put_reply}
use Rattle.exchange.specs.Exchange.{Left, left, stays}
use Rattle.calling.specs.Calling.{lengths_fit, on_decoded, kept}

-- what start, step and steps check first, in this order: an answer of another length stays as it is; 7; 1
abbrev pub checked : {A : Type 0} → ℕ → Size → List ℕ → List ℕ → List ℕ → List ℕ → ℕ → A → (ℕ → A) → A → A
checked room z ns es ws out who silent refused goes =
    cond (eqb (length out) room) (cond (lengths_fit z ns es ws) (cond (ltb who 16) goes (refused 1)) (refused 7))
    silent

-- what has passed these checks
abbrev pub IsAdmitted : Size → List ℕ → List ℕ → List ℕ → List ℕ → ℕ → Type 0
IsAdmitted z ns es ws out who = (length out ≡ 3) × (lengths_fit z ns es ws ≡ true) × (who < 16)

-- ---- the words, the answer and the number returned, where the tables are only read
pub data Heard : Type 0 where
  heard : List ℕ → List ℕ → ℕ → Heard

-- two other words of one session's record, another answer, and no refusal
abbrev pub went : List ℕ → List ℕ → ℕ → ℕ → ℕ → ℕ → ℕ → Reply → Heard
went ws out who j x k y r = heard (put_two ws who j x k y) (put_reply out r) 0

-- other counters, another record of one session and another answer, and no refusal
abbrev pub settled : List ℕ → List ℕ → ℕ → Counters → Words → Reply → Heard
settled ws out who c w r = heard (put_record (put_counters ws c) who w) (put_reply out r) 0

-- an update ends: the session is idle
abbrev pub ended : List ℕ → List ℕ → ℕ → Bool → ℕ → Heard
ended ws out who removes number =
    settled ws out who (counters_at ws) (encode idle) (reply_of (finish_answer removes number))

-- ---- step: both tables, the words, the answer and the number returned
abbrev pub after_step : List ℕ → List ℕ → ℕ → Done → Left
after_step ws out who (done ns es r) =
    left ns es (kept ws who r.counters r.session) (put_reply out (reply_of r.answer))
    (number_of (reply_of r.answer))

unfoldable pub step_record : Size → List ℕ → List ℕ → List ℕ → List ℕ → ℕ → Session → Left
step_record z ns es ws out who s = after_step ws out who (step_of z ns es (counters_at ws) who s)

unfoldable pub step_session : Size → List ℕ → List ℕ → List ℕ → List ℕ → ℕ → Left
step_session z ns es ws out who =
    on_decoded (decode (record_at ws who)) (step_record z ns es ws out who) (stays ns es ws out 8)

unfoldable pub step_call : Size → List ℕ → List ℕ → List ℕ → List ℕ → ℕ → Left
step_call z ns es ws out who =
    checked 3 z ns es ws out who (left ns es ws out 7) (stays ns es ws out) (step_session z ns es ws out who)
