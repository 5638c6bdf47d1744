-- One of two by a test: what is shown of both is shown of the choice; and a choice under a function.
-- In order: by a Bool; by each of the three tests; under a function.
-- Not here: the branch that a fact takes, which comes by `rw` with lt-ltb, le-leb, eq-eqb and the others of
-- borrow.Author.Tests. Assumes nothing.
use mathlib.Core.Bool.{Bool, true, false, cond}
use mathlib.Core.Path.{◌≡◌, refl}
use mathlib.Core.Logic.{◌≢◌}
use Prim.Native.Nat.{ℕ, ◌≤◌, ◌<◌}
use lib.Dec.{ltb, leb, eqb}
use borrow.Author.Tests.{ltb-true, ltb-false, leb-true, leb-false, eqb-true, eqb-false}

pub cond_cases : {A : Type 0} (P : A → Type 0) (t : Bool) (a b : A) →
    (t ≡ true → P a) → (t ≡ false → P b) → P (cond t a b)
cond_cases P true a b f g = f refl
cond_cases P false a b f g = g refl

module _ {A : Type 0} (P : A → Type 0) (m n : ℕ) (a b : A) where
  pub ltb_cases : (m < n → P a) → (n ≤ m → P b) → P (cond (ltb m n) a b)
  ltb_cases f g = cond_cases P (ltb m n) a b (λ e. f (ltb-true m n e)) (λ e. g (ltb-false m n e))

  pub leb_cases : (m ≤ n → P a) → (n < m → P b) → P (cond (leb m n) a b)
  leb_cases f g = cond_cases P (leb m n) a b (λ e. f (leb-true m n e)) (λ e. g (leb-false m n e))

  pub eqb_cases : (m ≡ n → P a) → (m ≢ n → P b) → P (cond (eqb m n) a b)
  eqb_cases f g = cond_cases P (eqb m n) a b (λ e. f (eqb-true m n e)) (λ e. g (eqb-false m n e))

pub cond_map : {A B : Type 0} (g : A → B) (t : Bool) (a b : A) → g (cond t a b) ≡ cond t (g a) (g b)
cond_map g true a b = refl
cond_map g false a b = refl
