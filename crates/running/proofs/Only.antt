-- The run's contract leaves no choice: two outcomes that it allows for one input are equal, in the answer, the output
-- and both tables. Private functions are not listed. Assumes nothing.
use mathlib.Core.Path.{◌≡◌}
use mathlib.Core.List.{List}
use Prim.Native.Nat.{ℕ}
use Rattle.std.specs.Prelude.{Result}
use Rattle.terms.specs.declared.Size.{Size}
use Rattle.running.specs.declared.Unrun.{Unrun}
use Rattle.running.specs.Running.{outcome, run_of}

pub run_one : (z : Size) (input ns es out ns₁ es₁ out₁ ns₂ es₂ out₂ : List ℕ) (r₁ r₂ : Result ℕ Unrun) →
    outcome ns₁ es₁ out₁ r₁ ≡ run_of z input ns es out → outcome ns₂ es₂ out₂ r₂ ≡ run_of z input ns es out →
    (r₁ ≡ r₂) × (out₁ ≡ out₂) × (ns₁ ≡ ns₂) × (es₁ ≡ es₂)
run_one z input ns es out ns₁ es₁ out₁ ns₂ es₂ out₂ r₁ r₂ p q = (cc, cc, cc, cc)
