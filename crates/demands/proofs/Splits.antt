-- What a test says each way, and what is shown of a choice by it.
-- In order: a test's two sides; the three tests of numbers; both, either; the cases. Assumes nothing.
use Prim.Native.Nat.{ℕ, ◌≤◌, ◌<◌}
use mathlib.Core.Path.{◌≡◌, refl}
use mathlib.Core.Logic.{◌⊎◌, inl, inr, ◌≢◌}
use mathlib.Core.Bool.{Bool, true, false, cond, true≢false, false≢true, ◌&&◌, ◌||◌}
use lib.Dec.{ltb, eqb}
use borrow.Author.Tests.{ltb-true, ltb-false, eqb-true, eqb-false}
use Rattle.order.proofs.Tests.{cond_cases}

-- P where the test is taken, Q where it is left
pub record Splits (P Q : Type 0) (t : Bool) : Type 0 where
  pub taken : t ≡ true → P
  pub left : t ≡ false → Q

module _ (m n : ℕ) where
  pub split_lt : Splits (m < n) (n ≤ m) (ltb m n)
  split_lt = record { taken = ltb-true m n; left = ltb-false m n }

  pub split_eq : Splits (m ≡ n) (m ≢ n) (eqb m n)
  split_eq = record { taken = eqb-true m n; left = eqb-false m n }

module _ {P Q P' Q' : Type 0} where
  pub split_and : {a b : Bool} → Splits P Q a → Splits P' Q' b → Splits (P × P') (Q ⊎ Q') (a && b)
  split_and {a = true} s s' = record { taken = λ e. (s.taken refl, s'.taken e); left = λ e. inr (s'.left e) }
  split_and {a = false} s s' = record { taken = λ e. absurd (false≢true e); left = λ e. inl (s.left refl) }

  pub split_or : {a b : Bool} → Splits P Q a → Splits P' Q' b → Splits (P ⊎ P') (Q × Q') (a || b)
  split_or {a = true} s s' = record { taken = λ e. inl (s.taken refl); left = λ e. absurd (true≢false e) }
  split_or {a = false} s s' = record { taken = λ e. inr (s'.taken e); left = λ e. (s.left refl, s'.left e) }

-- the same, as the choices `cond a b false` and `cond a true b`
module _ {P Q P' Q' : Type 0} where
  pub split_when : {a b : Bool} → Splits P Q a → Splits P' Q' b → Splits (P × P') (Q ⊎ Q') (cond a b false)
  split_when {a = true} s s' = split_and {a = true} s s'
  split_when {a = false} s s' = split_and {a = false} s s'

  pub split_unless : {a b : Bool} → Splits P Q a → Splits P' Q' b → Splits (P ⊎ P') (Q × Q') (cond a true b)
  split_unless {a = true} s s' = split_or {a = true} s s'
  split_unless {a = false} s s' = split_or {a = false} s s'

pub split_cases : {A P Q : Type 0} {t : Bool} (R : A → Type 0) (a b : A) → Splits P Q t → (P → R a) → (Q → R b) →
    R (cond t a b)
split_cases {t = t} R a b s f g = cond_cases R t a b (λ e. f (s.taken e)) (λ e. g (s.left e))
