-- The contract of `write` leaves no choice: two outcomes that it allows for one input are equal.
-- Not here: that a listing is read in one way (the crate above). Assumes nothing.
use Prim.Native.Nat.{ℕ}
use mathlib.Core.Path.{◌≡◌}
use mathlib.Core.List.{List}
use Rattle.std.specs.Prelude.{Result}
use Rattle.listing.specs.Listing.{done, write_of}
use Rattle.listing.specs.declared.Unwritten.{Unwritten}

pub write_one : (most stamp : ℕ) (ks vs out out₁ out₂ : List ℕ) (r₁ r₂ : Result ℕ Unwritten) →
    done out₁ r₁ ≡ write_of most stamp ks vs out → done out₂ r₂ ≡ write_of most stamp ks vs out →
    (out₁ ≡ out₂) × (r₁ ≡ r₂)
write_one most stamp ks vs out out₁ out₂ r₁ r₂ p q = (cc, cc)
