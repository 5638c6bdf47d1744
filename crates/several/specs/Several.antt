-- Several steps of one session in one call: the step of document 01, again and again.
-- In order: what an answer hands out, and whether the call goes on after it; one step; what the call leaves; the
-- steps.
-- A call makes one step at least. It goes on after working, and after a key while another finds room in the lent
-- pairs; at most `more` steps follow the first.
-- Not here: the step (crate register), the words of records and answers (crate ffi). Assumes nothing.
use Rattle.std.specs.Prelude.{ℕ, zero, suc, ◌+◌, ◌-◌, List, Bool, true, false, cond}
use Rattle.terms.specs.declared.Size.{Size}
use Rattle.terms.specs.declared.Counters.{Counters}
use Rattle.terms.specs.declared.Answer.{Answer}
use Rattle.steps.specs.declared.Session.{Session}
use Rattle.steps.specs.declared.Stepped.{Stepped}
use Rattle.steps.specs.Steps.{Done, done}
use Rattle.register.specs.Register.{step_of}
use Rattle.onward.specs.Onward.{has_room, put_pair, Reach, reached, far_of}
use Rattle.several.specs.declared.Turn.{Turn}
use Rattle.several.specs.declared.Went.{Went}

-- ---- the lent pairs, and how many of them this call has filled
pub data Handed : Type 0 where
  handed : List ℕ → ℕ → Handed

-- with a key more, where there is room
abbrev pub hand_out : List ℕ → ℕ → Answer → Handed
hand_out ps n (Answer.Key key value) = cond (has_room ps n) (handed (put_pair ps n key value) (n + 1)) (handed ps n)
hand_out ps n answer = handed ps n

-- whether the call goes on, so many pairs being filled by then
abbrev pub goes_on : List ℕ → ℕ → Answer → Bool
goes_on ps n Answer.Working = true
goes_on ps n (Answer.Key key value) = has_room ps n
goes_on ps n answer = false

-- ---- one step, and its key handed out: both tables, the pairs, and what the step returned, with how many pairs are
-- filled and whether the call goes on
pub data Turned : Type 0 where
  turned : List ℕ → List ℕ → List ℕ → Turn → Turned

abbrev pub turn : Stepped → ℕ → Bool → Turn
turn r n on =
    record { counters = r.counters; session = r.session; answer = r.answer; count = n; on = on }

abbrev pub turn_with : List ℕ → List ℕ → Stepped → Handed → Turned
turn_with ns es r (handed ps n) = turned ns es ps (turn r n (goes_on ps n r.answer))

abbrev pub turn_by : List ℕ → ℕ → Done → Turned
turn_by ps n (done ns es r) = turn_with ns es r (hand_out ps n r.answer)

unfoldable pub turn_of : Size → List ℕ → List ℕ → List ℕ → ℕ → Counters → ℕ → Session → Turned
turn_of z ns es ps n c who s = turn_by ps n (step_of z ns es c who s)

-- ---- what a call leaves: after its last step, `made` steps being made
pub data Gone : Type 0 where
  gone : List ℕ → List ℕ → List ℕ → Went → Gone

abbrev pub stops : ℕ → Turned → Gone
stops made (turned ns es ps t) = gone ns es ps (record { last = t; made = made })

abbrev pub Next : Type 0
Next = List ℕ → List ℕ → List ℕ → ℕ → Counters → Session → Gone

abbrev pub next_or : Next → ℕ → Turned → Gone
next_or next made (turned ns es ps t) =
    cond t.on (next ns es ps t.count t.counters t.session) (stops made (turned ns es ps t))

-- ---- the steps: `made` are made, `more` may follow the next one
unfoldable pub go_on : ℕ → Size → ℕ → ℕ → Next
go_on zero z who made ns es ps n c s = stops (made + 1) (turn_of z ns es ps n c who s)
go_on (suc more) z who made ns es ps n c s =
    next_or (go_on more z who (made + 1)) (made + 1) (turn_of z ns es ps n c who s)

-- ---- the same, quicker: as far as the session gets without a halt (crate onward), and one step more
abbrev pub step_then : Size → List ℕ → List ℕ → Counters → ℕ → Reach → Gone
step_then z ns es c who (reached ps f) = stops (f.made + 1) (turn_of z ns es ps f.count c who f.session)

unfoldable pub stride_of : ℕ → Size → List ℕ → List ℕ → List ℕ → ℕ → Counters → ℕ → Session → ℕ → Gone
stride_of more z ns es ps n c who s made = step_then z ns es c who (far_of more z ns es ps who s n made)

-- ---- at most `limit` steps, and one at least
abbrev pub several_of : Size → List ℕ → List ℕ → List ℕ → Counters → ℕ → Session → ℕ → Gone
several_of z ns es ps c who s limit = go_on (limit - 1) z who 0 ns es ps 0 c s
