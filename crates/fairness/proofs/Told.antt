-- Whose counted step a call is: at most one step, and one session's.
-- In order: what it counts; two sessions; a session and none.
-- Not here: calls. Assumes nothing.
use mathlib.Core.Path.{◌≡◌}
use mathlib.Core.Option.{Option, none, some}
use Prim.Native.Nat.{ℕ, ◌≤◌}
use native.Mathlib.Omega.{arith}
use Rattle.fairness.specs.Calls.{tell}

pub tell_most : (o : Option ℕ) → tell o ≤ 1
tell_most none = omega arith
tell_most (some i) = omega arith

pub some_same : (i j : ℕ) → some i ≡ some j → i ≡ j
some_same i j e = cc

pub none≢some : (i : ℕ) → none ≡ some i → ⊥
none≢some i e = let z : ◌≡◌ {A = ℕ} 0 1 = cc in omega arith
