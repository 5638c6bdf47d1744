-- What one call may do to a drawing and to the nodes given: nothing, a start, a wait, or a step.
-- In order: when a step waits; a call's turn; anything that goes on as a drawing does; a query that is open, and
-- sessions that are busy.
-- The nodes given leave out the head and the tail; the starting nodes are among them.
-- Not here: calls themselves (crate fairness, and the register). Assumes nothing.
use Rattle.std.specs.Prelude.{◌≢◌, ◌≡◌, List, ℕ}
use Rattle.std.proofs.Math.Option.{Option, none, some}
use Rattle.order.specs.History.{Start}
use Rattle.drawing.specs.Phases.{range, Phase, idle, task}
use Rattle.drawing.specs.Drawing.{Drawing}
use Rattle.drawing.specs.Effects.{Effect, given_by, after, begun}
use Rattle.drawing.specs.Steps.{Out, Starts, Step, WaitsIn}
use Rattle.drawing.proofs.Inv.{Inv}
use Rattle.drawing.proofs.Room.{Covers}

-- ---- when the step of a session in this phase waits
abbrev pub HeldUp : ℕ → Drawing → Phase → Type 0
HeldUp t m φ = WaitsIn t m φ

-- ---- a call's turn: whose counted step it is, if it is one, and what it leaves
pub data Turn (key val : ℕ → ℕ) (start : Start) (m : Drawing) (given : List ℕ) :
    Option ℕ → Drawing → List ℕ → Type 0 where
  refused : Turn key val start m given none m given
  starting : (t : ℕ) {φ : Phase} → Starts key val t m φ → Turn key val start m given none (begun start m t φ) given
  waiting : (t : ℕ) → HeldUp t m (m.phase t) → Turn key val start m given (some t) m given
  stepping : (t : ℕ) {o : Out} {f : Effect} {φ : Phase} → Step key val start t m o f φ →
      Turn key val start m given (some t) (after start m t f φ) (given_by f given)

-- ---- states with calls (`go` makes one, `who` says whose counted step it is) that go on as a drawing does: each
-- state has a drawing with the invariant and the nodes given, and each call is a turn. `Good` may ask that a state
-- goes by these keys and values: a call may give its node another key than `key` has, and is then not looked at
pub record Draws {State Call : Type 0} (go : State → Call → State) (who : State → Call → Option ℕ)
    (Good : State → Type 0) (key val : ℕ → ℕ) (start : Start) : Type 0 where
  pub drawing : State → Drawing
  pub given : State → List ℕ
  pub inv : (σ : State) → Inv key val start (drawing σ)
  pub covers : (σ : State) → Good σ → Covers (given σ) (drawing σ)
  pub turn : (σ : State) (c : Call) → Good σ → Good (go σ c) →
      Turn key val start (drawing σ) (given σ) (who σ c) (drawing (go σ c)) (given (go σ c))

-- ---- session `q` runs a range from `low` to `high`; session `i` is busy
abbrev pub Open : (q low high : ℕ) → Drawing → Type 0
Open q low high m = task (m.phase q) ≡ some (range low high)

abbrev pub Busy : Drawing → ℕ → Type 0
Busy m i = m.phase i ≢ idle

module _ {State Call : Type 0} {go : State → Call → State} {who : State → Call → Option ℕ}
    {Good : State → Type 0} {key val : ℕ → ℕ} {start : Start} (D : Draws go who Good key val start) where
  abbrev pub IsOpen : (q low high : ℕ) → State → Type 0
  IsOpen q low high σ = Open q low high (D.drawing σ)

  abbrev pub IsBusy : State → ℕ → Type 0
  IsBusy σ i = Busy (D.drawing σ) i
