-- The contracts of `check` and `read` leave no choice: two outcomes that one allows for one input are equal.
-- Not here: that a listing is read in one way (OneWay). Assumes nothing.
use Prim.Native.Nat.{ℕ}
use mathlib.Core.Path.{◌≡◌}
use mathlib.Core.List.{List}
use Rattle.std.specs.Prelude.{Result}
use Rattle.scanning.specs.Reading.{check_of, done, read_of}
use Rattle.scanning.specs.declared.Whole.{Whole}
use Rattle.scanning.specs.declared.Unread.{Unread}

pub check_one : (most : ℕ) (s : List ℕ) (r₁ r₂ : Result Whole Unread) → r₁ ≡ check_of most s →
    r₂ ≡ check_of most s → r₁ ≡ r₂
check_one most s r₁ r₂ p q = cc

pub read_one : (most : ℕ) (s ks vs ks₁ vs₁ ks₂ vs₂ : List ℕ) (r₁ r₂ : Result Whole Unread) →
    done ks₁ vs₁ r₁ ≡ read_of most s ks vs → done ks₂ vs₂ r₂ ≡ read_of most s ks vs →
    (ks₁ ≡ ks₂) × (vs₁ ≡ vs₂) × (r₁ ≡ r₂)
read_one most s ks vs ks₁ vs₁ ks₂ vs₂ r₁ r₂ p q = (cc, cc, cc)
