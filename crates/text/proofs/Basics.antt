-- What all the proofs on bytes use: no case, and one of two orders.
-- In order: from 0 ≡ 1; below or not.
-- Not here: anything of bytes. Assumes nothing.
use Prim.Native.Nat.{ℕ, ◌≤◌, ◌<◌}
use mathlib.Core.Path.{◌≡◌}
use mathlib.Core.Logic.{◌⊎◌, inl, inr}
use native.Mathlib.Omega.{arith}
use native.Mathlib.Decide.{dec_lt}

-- `impossible (cc)`: the equations in scope say that two constructors are one
pub impossible : {A : Type 0} → ◌≡◌ {A = ℕ} 0 1 → A
impossible h = absurd (omega arith)

pub split : (n k : ℕ) → (n < k) ⊎ (k ≤ n)
split n k = by (dec_lt n k)
  where
    by : Dec (n < k) → (n < k) ⊎ (k ≤ n)
    by (yes h) = inl h
    by (no h) = inr (omega arith)
