-- "Busy throughout" is less than "busy at both ends": session 0 is withdrawn and starts again inside the window, takes
-- no step in it, and the calls are fair all the same. So the premise asks for no more than it says.
-- In order: the machine; the calls; they are fair; at both ends session 0 is busy, and takes no step.
-- Not here: the bounds. Assumes nothing.
use mathlib.Core.Path.{◌≡◌, refl, ap, subst}
use mathlib.Core.Logic.{inl, inr}
use mathlib.Core.Option.{Option, none, some}
use mathlib.Core.List.{List, [], ◌∷◌, ◌++◌}
use Prim.Native.Nat.{ℕ, zero, suc, ◌+◌}
use native.Mathlib.Omega.{arith}
use Rattle.fairness.specs.Calls.{tell, after, steps, Takes, Fair}
use Rattle.fairness.proofs.Told.{tell_most, some_same, none≢some}
use Rattle.fairness.proofs.Along.{along_here, steps_append}

-- ---- session 0 is busy or not; session 1 always is, and takes all the steps
pub data State : Type 0 where
  busy idle : State

pub data Call : Type 0 where
  step withdraw start : Call

abbrev pub go : State → Call → State
go σ step = σ
go σ withdraw = idle
go σ start = busy

abbrev pub who : State → Call → Option ℕ
who σ step = some 1
who σ withdraw = none
who σ start = none

abbrev pub Busy : State → ℕ → Type 0
Busy busy zero = Unit {0}
Busy idle zero = ⊥
Busy σ (suc zero) = Unit {0}
Busy σ (suc (suc i)) = ⊥

abbrev pub calls : List Call
calls = step ∷ withdraw ∷ start ∷ step ∷ []

-- ---- a row of both steps begins with the first call, and so has session 0 idle within it
behind_first : (c : Call) (before row rest : List Call) → calls ≡ c ∷ (before ++ (row ++ rest))
    → steps go who (after go busy (c ∷ before)) row ≡ 2 → ⊥
behind_first c before row rest e many =
    let h : c ≡ step = cc in
    let τ = after go (go busy c) before in
    omega (
      arith,
      ap (λ x. tell (who busy x)) h,
      ap (steps go who busy) e,
      steps_append go who (go busy c) before (row ++ rest),
      steps_append go who τ row rest,
    )

pub throughout_fair : Fair go who Busy 2 busy calls
throughout_fair (c ∷ before) row rest e many i b = absurd (behind_first c before row rest e many)
throughout_fair [] [] rest e many i b = absurd (omega arith)
throughout_fair [] (c ∷ []) rest e many i b = absurd (omega (arith, tell_most (who busy c)))
throughout_fair [] (c ∷ d ∷ row) rest e many zero b =
    let h : c ≡ step = cc in
    let k : d ≡ withdraw = cc in
    let z : go (go busy c) d ≡ idle = rw (h, k) refl in
    absurd (subst (λ (x : State). Busy x 0) z (along_here go (λ x. Busy x 0) (go (go busy c) d) row b.1.1))
throughout_fair [] (c ∷ d ∷ row) rest e many (suc zero) b = let h : c ≡ step = cc in inl (rw h refl)
throughout_fair [] (c ∷ d ∷ row) rest e many (suc (suc i)) b = absurd b.0

-- ---- and yet it is busy at both ends, and takes no step
pub ends_busy : Busy busy 0 × Busy (after go busy calls) 0
ends_busy = (tt, tt)

pub takes_none : Takes go who 0 busy calls → ⊥
takes_none (inl e) = omega (arith, some_same 1 0 e)
takes_none (inr (inl e)) = none≢some 0 e
takes_none (inr (inr (inl e))) = none≢some 0 e
takes_none (inr (inr (inr (inl e)))) = omega (arith, some_same 1 0 e)
takes_none (inr (inr (inr (inr t)))) = t
