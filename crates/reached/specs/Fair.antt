-- Demand 3: no range query is starved.
-- In order: a register with its history, and a call to it; counted steps; busy sessions, and a query that is open; the
-- nodes given; the demand, and the sharper bound. It speaks of calls, answers and counters alone: what a session has
-- under way is what the answers to its calls told (`under`), and no session's record is read. Fair calls are crate
-- fairness's. Assumes nothing.
use Rattle.std.specs.Prelude.{ℕ, ◌+◌, ◌-◌, ◌*◌, ◌<◌, ◌≡◌, ◌≢◌, List, [], ◌∷◌}
use Rattle.std.proofs.Math.Option.{Option, none, some}
use Rattle.terms.specs.Terms.{small}
use Rattle.terms.specs.declared.Op.{Op}
use Rattle.terms.specs.declared.Refusal.{Refusal}
use Rattle.terms.specs.declared.Answer.{Answer}
use Rattle.sixteen.specs.declared.Call.{Call}
use Rattle.fairness.specs.Calls.{after, Along, steps, Fair, FairWhile, Ended, OpenOrEnded}
use Rattle.reached.specs.Reached.{State, go, answer, InWords, Past, note, Reached}
use Rattle.reached.specs.Answers.{RangeIs}

-- ---- a register with the history that its calls gave; a call to it, and the answer
pub record Lived : Type 0 where
  pub state : State
  pub past : Past

abbrev pub go_on : Lived → Call → Lived
go_on l c = record { state = go small l.state c; past = note small l.state c l.past }

abbrev pub reply : Lived → Call → Answer
reply l c = answer small l.state c

-- ---- counted steps: not refused without effect; full has an effect. A start is no step
abbrev pub counted : ℕ → Answer → Option ℕ
counted who Answer.Started = none
counted who Answer.Working = some who
counted who Answer.Waiting = some who
counted who (Answer.Key k v) = some who
counted who (Answer.Inserted n) = some who
counted who (Answer.Removed n) = some who
counted who Answer.Present = some who
counted who Answer.Absent = some who
counted who (Answer.End t n) = some who
counted who (Answer.Refused Refusal.BadSession) = none
counted who (Answer.Refused Refusal.Busy) = none
counted who (Answer.Refused Refusal.BadKey) = none
counted who (Answer.Refused Refusal.BadRange) = none
counted who (Answer.Refused Refusal.Idle) = none
counted who (Answer.Refused Refusal.Full) = some who
counted who (Answer.Refused Refusal.BadTable) = none
counted who (Answer.Refused Refusal.Damaged) = none

-- whose counted step a call is, if it is one
abbrev pub whose : Lived → Call → Option ℕ
whose l (Call.Start who op) = none
whose l (Call.Step who) = counted who (reply l (Call.Step who))

-- ---- session i is busy: it has an operation under way; session q runs the range from low to high
abbrev pub Busy : Lived → ℕ → Type 0
Busy l i = l.past.under i ≢ Op.None

abbrev pub Open : (q low high : ℕ) → Lived → Type 0
Open q low high l = l.past.under q ≡ Op.Range low high

-- ---- the nodes given to keys: head and tail are none
abbrev pub given : State → ℕ
given σ = σ.register.counters.nodes - 2

-- every call's keys and value are 32-bit words
abbrev pub AllInWords : List Call → Type 0
AllInWords [] = Unit {0}
AllInWords (c ∷ cs) = InWords c × AllInWords cs

-- ---- session q starts a range at a reached register, and calls of any sessions follow
module _ (l : Lived) (q low high : ℕ) where
  abbrev pub begun : Lived
  begun = go_on l (Call.Start q (Op.Range low high))

  pub record Begins : Type 0 where
    pub reached : Reached small l.state l.past
    pub in_words : InWords (Call.Start q (Op.Range low high))
    pub started : reply l (Call.Start q (Op.Range low high)) ≡ Answer.Started

  module _ (w : ℕ) (calls : List Call) where
    -- in any w counted steps in a row, while the query is open, each session busy throughout them has one
    abbrev pub FairFor : Type 0
    FairFor = FairWhile go_on whose (Open q low high) Busy w begun calls

    -- fewer than w * (3n + 6) counted steps have passed while it is open, and it ended before that many had
    abbrev pub InTime : Type 0
    InTime = OpenOrEnded go_on (Open q low high) whose (λ τ. w * (3 * given τ.state + 6)) begun calls

    -- the call that ends it is its own session's step, and answers end, with demand 2's answer
    abbrev pub EndsWell : Type 0
    EndsWell = (d : Ended go_on (Open q low high) begun calls) → (d.last ≡ Call.Step q) × (t n : ℕ)
        × (reply (after go_on begun d.lived) d.last ≡ Answer.End t n)
        × RangeIs (after go_on begun d.lived).state (after go_on begun d.lived).past q low high t n

-- ---- THE DEMAND
pub record Demand3 : Type 0 where
  pub in_time : (l : Lived) (q low high : ℕ) → Begins l q low high
      → (w : ℕ) (calls : List Call) → AllInWords calls → FairFor l q low high w calls
      → InTime l q low high w calls × EndsWell l q low high w calls

-- the sharper bound that the proof gives: as long as it is open, fewer than w * (2n + 6)
pub record Sharper : Type 0 where
  pub sharp : (l : Lived) (q low high : ℕ) → Begins l q low high
      → (w : ℕ) (calls : List Call) → AllInWords calls
      → Along go_on (Open q low high) (begun l q low high) calls
      → Fair go_on whose Busy w (begun l q low high) calls
      → steps go_on whose (begun l q low high) calls
      < w * (2 * given (after go_on (begun l q low high) calls).state + 6)
