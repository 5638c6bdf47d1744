-- Round robin: call number k is a step of session k mod `sessions`. It is fair for each window that has room for all
-- of them, so demand 3's premise can be met.
-- In order: the schedule; what is asked of the machine.
-- Not here: a proof that it is fair (proofs/Robin). Assumes nothing.
use Rattle.std.specs.Prelude.{◌≡◌, List, [], ◌∷◌, ℕ, zero, suc, ◌%◌, ◌<◌}
use Rattle.std.proofs.Math.Option.{Option, some}

-- `m` calls, from number `k` on; `step i` calls for a step of session `i`
module _ {Call : Type 0} (step : ℕ → Call) (sessions : ℕ) where
  abbrev pub robin : ℕ → ℕ → List Call
  robin k zero = []
  robin k (suc m) = step (k % sessions) ∷ robin (suc k) m

  -- a busy session is one of them, and its step counts; the step of an idle one may be refused
  module _ {State : Type 0} (who : State → Call → Option ℕ) (Busy : State → ℕ → Type 0) where
    abbrev pub Counts : State → Type 0
    Counts σ = (i : ℕ) → Busy σ i → (i < sessions) × (who σ (step i) ≡ some i)
