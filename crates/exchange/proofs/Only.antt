-- The contracts leave no choice: two outcomes that one allows for one input are equal.
-- In order: writing; reading. Assumes nothing.
use Prim.Native.Nat.{ℕ}
use mathlib.Core.Path.{◌≡◌}
use mathlib.Core.List.{List}
use Rattle.terms.specs.declared.Size.{Size}
use Rattle.exchange.specs.Exchange.{wrote, write_call, left, read_call}

pub write_one : (most stamp : ℕ) (ks vs out answer out₁ answer₁ out₂ answer₂ : List ℕ) (r₁ r₂ : ℕ)
    → wrote out₁ answer₁ r₁ ≡ write_call most stamp ks vs out answer
    → wrote out₂ answer₂ r₂ ≡ write_call most stamp ks vs out answer
    → (out₁ ≡ out₂) × (answer₁ ≡ answer₂) × (r₁ ≡ r₂)
write_one most stamp ks vs out answer out₁ answer₁ out₂ answer₂ r₁ r₂ p q = (cc, cc, cc)

pub read_one : (z : Size) (input ns es ws out ns₁ es₁ ws₁ out₁ ns₂ es₂ ws₂ out₂ : List ℕ) (r₁ r₂ : ℕ)
    → left ns₁ es₁ ws₁ out₁ r₁ ≡ read_call z input ns es ws out
    → left ns₂ es₂ ws₂ out₂ r₂ ≡ read_call z input ns es ws out
    → (ns₁ ≡ ns₂) × (es₁ ≡ es₂) × (ws₁ ≡ ws₂) × (out₁ ≡ out₂) × (r₁ ≡ r₂)
read_one z input ns es ws out ns₁ es₁ ws₁ out₁ ns₂ es₂ ws₂ out₂ r₁ r₂ p q = (cc, cc, cc, cc, cc)
