-- The contract of `load` leaves no choice: two outcomes that it allows for one input are equal. Assumes nothing.
use Prim.Native.Nat.{ℕ}
use mathlib.Core.Path.{◌≡◌}
use mathlib.Core.List.{List}
use Rattle.std.specs.Prelude.{Result}
use Rattle.terms.specs.declared.Size.{Size}
use Rattle.steps.specs.Steps.{tables}
use Rattle.loading.specs.Loading.{done, load_of}
use Rattle.terms.specs.declared.Counters.{Counters}
use Rattle.loading.specs.declared.Unloaded.{Unloaded}

pub load_one : (z : Size) (s ns es ns₁ es₁ ns₂ es₂ : List ℕ) (r₁ r₂ : Result Counters Unloaded) →
    done (tables ns₁ es₁) r₁ ≡ load_of z s ns es → done (tables ns₂ es₂) r₂ ≡ load_of z s ns es →
    (ns₁ ≡ ns₂) × (es₁ ≡ es₂) × (r₁ ≡ r₂)
load_one z s ns es ns₁ es₁ ns₂ es₂ r₁ r₂ p q = (cc, cc, cc)
