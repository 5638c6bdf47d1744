-- A register reached from a fresh one by starts and steps, and the history that its calls give.
-- In order: a register's state; a call's effect and answer; the history; what a call adds to it; a call's
-- numbers; reached.
-- The history is computed from the calls, their answers and the stamp alone: no session's record is in it, and nothing
-- of an invariant.
-- Not here: a register read from a listing, which is a reached one by theorem. Assumes nothing.
use Rattle.std.specs.Prelude.{Ok}
use Rattle.std.specs.Prelude.{ℕ, ◌≤◌, ◌≡◌, cond, List, [], ◌∷◌, ◌++◌, ltb, eqb}
use Rattle.order.specs.Set.{Pair, Update, insert, remove}
use Rattle.terms.specs.Terms.{sought_of, high_of, value_of}
use Rattle.terms.specs.declared.Size.{Size}
use Rattle.terms.specs.declared.Counters.{Counters}
use Rattle.terms.specs.declared.Op.{Op}
use Rattle.terms.specs.declared.Refusal.{Refusal}
use Rattle.terms.specs.declared.Answer.{Answer}
use Rattle.steps.specs.declared.Session.{Session}
use Rattle.register.specs.Register.{fresh_of, opened}
use Rattle.sixteen.specs.declared.Register.{Register}
use Rattle.sixteen.specs.declared.Call.{Call}
use Rattle.sixteen.specs.Sixteen.{Left, served, session_of, fresh_register, serve_of}

-- ---- a register: the two lent tables, and the counters with the sixteen records
pub record State : Type 0 where
  pub nodes : List ℕ
  pub entries : List ℕ
  pub register : Register

abbrev pub stamp_of : State → ℕ
stamp_of σ = σ.register.counters.stamp

abbrev pub record_of : State → ℕ → Session
record_of σ who = session_of σ.register.sessions who

abbrev pub op_of : State → ℕ → Op
op_of σ who = (record_of σ who).op

-- ---- a call: whose it is, the operation that it asks for (a step asks for none), what it leaves, and its answer
abbrev pub who_of : Call → ℕ
who_of (Call.Start who op) = who
who_of (Call.Step who) = who

abbrev pub asked_of : Call → Op
asked_of (Call.Start who op) = op
asked_of (Call.Step who) = Op.None

abbrev pub state_in : Left → State
state_in (served ns es r) = record { nodes = ns; entries = es; register = r.register }

abbrev pub answer_in : Left → Answer
answer_in (served ns es r) = r.answer

abbrev pub called : Size → State → Call → Left
called z σ c = serve_of z σ.nodes σ.entries σ.register c

abbrev pub go : Size → State → Call → State
go z σ c = state_in (called z σ c)

abbrev pub answer : Size → State → Call → Answer
answer z σ c = answer_in (called z σ c)

-- ---- the history: the updates numbered so far, the newest in front; for each session the operation that it has under
-- way, the stamp when it started, and the keys and values that it has been handed since
pub record Past : Type 0 where
  pub updates : List Update
  pub under : ℕ → Op
  pub since : ℕ → ℕ
  pub handed : ℕ → List Pair

abbrev pub no_past : Past
no_past = record { updates = []; under = λ who. Op.None; since = λ who. 0; handed = λ who. [] }

-- the update that an operation makes
abbrev pub update_of : Op → List Update
update_of Op.None = []
update_of (Op.Insert k v) = insert k v ∷ []
update_of (Op.Remove k) = remove k ∷ []
update_of (Op.Has k) = []
update_of (Op.Range low high) = []

-- ---- what a call adds: an update exactly where the stamp goes up; an operation started or ended; a start's stamp; a
-- key and value handed out
unfoldable pub at : {A : Type 0} → (ℕ → A) → ℕ → A → ℕ → A
at f who a other = cond (eqb other who) a (f other)

-- started begins the operation asked for; inserted, removed, present, absent, end and full end it
abbrev pub under_by : Answer → ℕ → Op → (ℕ → Op) → ℕ → Op
under_by Answer.Started who op under = at under who op
under_by Answer.Working who op under = under
under_by Answer.Waiting who op under = under
under_by (Answer.Key k v) who op under = under
under_by (Answer.Inserted n) who op under = at under who Op.None
under_by (Answer.Removed n) who op under = at under who Op.None
under_by Answer.Present who op under = at under who Op.None
under_by Answer.Absent who op under = at under who Op.None
under_by (Answer.End t n) who op under = at under who Op.None
under_by (Answer.Refused Refusal.BadSession) who op under = under
under_by (Answer.Refused Refusal.Busy) who op under = under
under_by (Answer.Refused Refusal.BadKey) who op under = under
under_by (Answer.Refused Refusal.BadRange) who op under = under
under_by (Answer.Refused Refusal.Idle) who op under = under
under_by (Answer.Refused Refusal.Full) who op under = at under who Op.None
under_by (Answer.Refused Refusal.BadTable) who op under = under
under_by (Answer.Refused Refusal.Damaged) who op under = under

abbrev pub since_by : Answer → ℕ → ℕ → (ℕ → ℕ) → ℕ → ℕ
since_by Answer.Started who stamp since = at since who stamp
since_by Answer.Working who stamp since = since
since_by Answer.Waiting who stamp since = since
since_by (Answer.Key k v) who stamp since = since
since_by (Answer.Inserted n) who stamp since = since
since_by (Answer.Removed n) who stamp since = since
since_by Answer.Present who stamp since = since
since_by Answer.Absent who stamp since = since
since_by (Answer.End t n) who stamp since = since
since_by (Answer.Refused why) who stamp since = since

abbrev pub handed_by : Answer → ℕ → (ℕ → List Pair) → ℕ → List Pair
handed_by Answer.Started who handed = at handed who []
handed_by Answer.Working who handed = handed
handed_by Answer.Waiting who handed = handed
handed_by (Answer.Key k v) who handed = at handed who (handed who ++ ((k, v) ∷ []))
handed_by (Answer.Inserted n) who handed = handed
handed_by (Answer.Removed n) who handed = handed
handed_by Answer.Present who handed = handed
handed_by Answer.Absent who handed = handed
handed_by (Answer.End t n) who handed = handed
handed_by (Answer.Refused why) who handed = handed

abbrev pub note : Size → State → Call → Past → Past
note z σ c h = record {
  updates = cond (ltb (stamp_of σ) (stamp_of (go z σ c))) (update_of (h.under (who_of c)) ++ h.updates) h.updates;
  under = under_by (answer z σ c) (who_of c) (asked_of c) h.under;
  since = since_by (answer z σ c) (who_of c) (stamp_of σ) h.since;
  handed = handed_by (answer z σ c) (who_of c) h.handed;
}

-- ---- a call's keys and its value are words of 32 bits, as every number of a program is
abbrev pub Word : ℕ → Type 0
Word n = n ≤ 4294967295

abbrev pub InWords : Call → Type 0
InWords (Call.Start who op) = Word (sought_of op) × Word (high_of op) × Word (value_of op)
InWords (Call.Step who) = Unit {0}

-- ---- reached: from tables that fresh has opened, by starts and steps, each on what the last one left
pub data Reached (z : Size) : State → Past → Type 0 where
  fresh : (ns es ns' es' : List ℕ) (c : Counters) → fresh_of z ns es ≡ opened ns' es' (Ok c)
      → Reached z (record { nodes = ns'; entries = es'; register = fresh_register c }) no_past
  on : {σ : State} {h : Past} → Reached z σ h → (c : Call) → InWords c → Reached z (go z σ c) (note z σ c h)
