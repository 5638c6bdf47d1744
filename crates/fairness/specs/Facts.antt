-- What one call owes a query of session `q`: `left` of the query's own steps may still come, and session `i` owes it
-- `owes i` steps. From these facts alone comes the bound.
-- In order: what a call may do; the facts.
-- Not here: how a reader's measure is made (Reader). Assumes nothing.
use Rattle.std.specs.Prelude.{◌≡◌, ◌⊎◌, ◌≢◌, ℕ, ◌+◌, ◌≤◌, ◌<◌}
use Rattle.std.proofs.Math.Option.{Option, none, some}

module _ {State : Type 0} (left : State → ℕ) (owes : State → ℕ → ℕ) where
  -- nothing rises
  abbrev pub Eases : State → State → Type 0
  Eases σ τ = (left τ ≤ left σ) × ((i : ℕ) → owes τ i ≤ owes σ i)

  -- a step of the query's own that is no wait; it pays for what is owed more from then on
  abbrev pub Works : State → State → Type 0
  Works σ τ = (more : ℕ) × (left τ + more < left σ) × ((i : ℕ) → owes τ i ≤ owes σ i + more)

  -- a step of the query's own that waits, and shows for whom
  abbrev pub Waits : State → State → Type 0
  Waits σ τ = Eases σ τ × (i : ℕ) × (0 < owes σ i)

  -- nobody owes more than `d`
  abbrev pub Level : ℕ → State → Type 0
  Level d σ = (i : ℕ) → owes σ i ≤ d

-- `Good` holds while the query is open, and is otherwise the register's to choose
module _ {State Call : Type 0} (go : State → Call → State) (who : State → Call → Option ℕ)
    (Busy : State → ℕ → Type 0) (q : ℕ) (Good : State → Type 0) (left : State → ℕ) (owes : State → ℕ → ℕ) where
  pub record Facts : Type 0 where
    pub open_busy : (σ : State) → Good σ → Busy σ q
    pub open_left : (σ : State) → Good σ → 0 < left σ
    pub owes_busy : (σ : State) → Good σ → (i : ℕ) → 0 < owes σ i → Busy σ i × (i ≢ q)
    -- no counted step: nothing rises
    pub quiet : (σ : State) (c : Call) → Good σ → Good (go σ c) → who σ c ≡ none → Eases left owes σ (go σ c)
    -- another's step: nothing rises, and who owes owes less
    pub other : (σ : State) (c : Call) (i : ℕ) → Good σ → Good (go σ c) → who σ c ≡ some i → i ≢ q
        → Eases left owes σ (go σ c) × (0 < owes σ i → owes (go σ c) i < owes σ i)
    pub own : (σ : State) (c : Call) → Good σ → Good (go σ c) → who σ c ≡ some q
        → Works left owes σ (go σ c) ⊎ Waits left owes σ (go σ c)
