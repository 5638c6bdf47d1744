-- The contracts leave no choice: two outcomes that one allows for one input are equal.
-- In order: fresh; start; step; several steps. Assumes nothing.
use Prim.Native.Nat.{ℕ}
use mathlib.Core.Path.{◌≡◌}
use mathlib.Core.List.{List}
use Rattle.terms.specs.declared.Size.{Size}
use Rattle.exchange.specs.Exchange.{left}
use Rattle.calling.specs.Calling.{strode}
use Rattle.stepping.specs.Stepping.{heard, step_call}
use Rattle.ffi.specs.Ffi.{cleared, fresh_call, start_call, steps_call}

pub fresh_one : (z : Size) (ns es ws ns₁ es₁ ws₁ ns₂ es₂ ws₂ : List ℕ) (r₁ r₂ : ℕ)
    → cleared ns₁ es₁ ws₁ r₁ ≡ fresh_call z ns es ws → cleared ns₂ es₂ ws₂ r₂ ≡ fresh_call z ns es ws
    → (ns₁ ≡ ns₂) × (es₁ ≡ es₂) × (ws₁ ≡ ws₂) × (r₁ ≡ r₂)
fresh_one z ns es ws ns₁ es₁ ws₁ ns₂ es₂ ws₂ r₁ r₂ p q = (cc, cc, cc, cc)

module _ (z : Size) (ns es ws out : List ℕ) (who : ℕ) (ws₁ out₁ ws₂ out₂ : List ℕ) (r₁ r₂ : ℕ) where
  pub start_one : (kind first second : ℕ) → heard ws₁ out₁ r₁ ≡ start_call z ns es ws out who kind first second
      → heard ws₂ out₂ r₂ ≡ start_call z ns es ws out who kind first second
      → (ws₁ ≡ ws₂) × (out₁ ≡ out₂) × (r₁ ≡ r₂)
  start_one kind first second p q = (cc, cc, cc)

  pub step_one : (ns₁ es₁ ns₂ es₂ : List ℕ) → left ns₁ es₁ ws₁ out₁ r₁ ≡ step_call z ns es ws out who
      → left ns₂ es₂ ws₂ out₂ r₂ ≡ step_call z ns es ws out who
      → (ns₁ ≡ ns₂) × (es₁ ≡ es₂) × (ws₁ ≡ ws₂) × (out₁ ≡ out₂) × (r₁ ≡ r₂)
  step_one ns₁ es₁ ns₂ es₂ p q = (cc, cc, cc, cc, cc)

  pub steps_one : (limit : ℕ) (ps ns₁ es₁ ps₁ ns₂ es₂ ps₂ : List ℕ)
      → strode ns₁ es₁ ws₁ ps₁ out₁ r₁ ≡ steps_call z ns es ws ps out who limit
      → strode ns₂ es₂ ws₂ ps₂ out₂ r₂ ≡ steps_call z ns es ws ps out who limit
      → (ns₁ ≡ ns₂) × (es₁ ≡ es₂) × (ws₁ ≡ ws₂) × (ps₁ ≡ ps₂) × (out₁ ≡ out₂) × (r₁ ≡ r₂)
  steps_one limit ps ns₁ es₁ ps₁ ns₂ es₂ ps₂ p q = (cc, cc, cc, cc, cc, cc)
