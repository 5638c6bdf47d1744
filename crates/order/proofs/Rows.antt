-- Rows: what a reader sees of a row with one more pair, and what a push changes.
-- In order: what a link leads to; bounds on numbers; looking past and at a pair; a push; the two pushes of Number.
-- Not here: what the rows say about the set (Steps, Keeps). Assumes nothing.
use mathlib.Core.Path.{◌≡◌, refl, sym, ◌∙◌, ap, fun_ext}
use mathlib.Core.Logic.{◌≢◌}
use mathlib.Core.Option.{Option, none, some}
use mathlib.Core.List.{[], ◌∷◌}
use Prim.Native.Nat.{ℕ, suc, ◌≤◌, ◌<◌}
use native.Mathlib.Omega.{arith}
use borrow.Author.Tests.{le-leb, lt-leb}
use Rattle.order.specs.Rows.{Row, Under, look, newest}
use Rattle.order.specs.History.{next, push, number}
use Rattle.order.proofs.Tests.{eqb_cases}

-- ---- a link leads to one place, or to none
pub none_some : {P : Type 0} (o : Option ℕ) (x : ℕ) → o ≡ none → o ≡ some x → P
none_some o x a b = let w : ◌≡◌ {A = ℕ} 0 1 = cc in absurd (omega arith)

pub some_same : {o : Option ℕ} {x y : ℕ} → o ≡ some x → o ≡ some y → x ≡ y
some_same a b = cc

-- ---- bounds
pub under_up : (b : ℕ) (row : Row) → Under b row → Under (suc b) row
under_up b [] under = tt
under_up b (p ∷ row) under = (omega arith, under.1)

-- ---- looking
pub look_skip : (s n t : ℕ) (row : Row) → s < n → look s ((n, t) ∷ row) ≡ look s row
unfolding look
look_skip s n t row s<n = rw (lt-leb n s s<n)

pub look_take : (s n t : ℕ) (row : Row) → n ≤ s → look s ((n, t) ∷ row) ≡ some t
unfolding look
look_take s n t row n≤s = rw (le-leb n s n≤s)

-- where all numbers are at most `s`, a reader at `s` sees the newest
pub look_newest : (s : ℕ) (row : Row) → Under (suc s) row → look s row ≡ newest row
unfolding look
look_newest s [] under = refl
look_newest s (p ∷ row) under = look_take s p.0 p.1 row (omega arith)

-- a number that no pair has reached changes nothing
pub look_stable : (s : ℕ) (row : Row) → Under (suc s) row → look (suc s) row ≡ look s row
look_stable s row under = look_newest (suc s) row (under_up (suc s) row under) ∙ sym (look_newest s row under)

pub look_none : (s : ℕ) (row : Row) → Under (suc s) row → look s row ≡ none → row ≡ []
look_none s [] under e = refl
look_none s (p ∷ row) under e =
    none_some (look s (p ∷ row)) p.1 e (look_newest s (p ∷ row) under)

-- ---- a push
pub push_cases : (P : Row → Type 0) (rows : ℕ → Row) (x n t y : ℕ) →
    (y ≡ x → P ((n, t) ∷ rows y)) → (y ≢ x → P (rows y)) → P (push rows x n t y)
unfolding push
push_cases P rows x n t y there elsewhere = eqb_cases P y x ((n, t) ∷ rows y) (rows y) there elsewhere

module _ (rows : ℕ → Row) (x n t : ℕ) where
  pub push_at : push rows x n t x ≡ (n, t) ∷ rows x
  push_at = push_cases (λ r. r ≡ (n, t) ∷ rows x) rows x n t x (λ _. refl) (λ x≢x. absurd (x≢x refl))

  pub push_row : (y : ℕ) → y ≢ x → push rows x n t y ≡ rows y
  push_row y y≢x = push_cases (λ r. r ≡ rows y) rows x n t y (λ y≡x. absurd (y≢x y≡x)) (λ _. refl)

  -- snapshots below the number read as before
  pub push_old : (s : ℕ) → s < n → next (push rows x n t) s ≡ next rows s
  push_old s s<n = fun_ext λ y.
      push_cases (λ r. look s r ≡ look s (rows y)) rows x n t y (λ _. look_skip s n t (rows y) s<n) (λ _. refl)

  pub push_same : (s : ℕ) → n ≤ s → next (push rows x n t) s x ≡ some t
  push_same s n≤s = ap (look s) push_at ∙ look_take s n t (rows x) n≤s

  pub push_other : (s y : ℕ) → y ≢ x → next (push rows x n t) s y ≡ next rows s y
  push_other s y y≢x = ap (look s) (push_row y y≢x)

  pub push_under : Under n (rows x) → ((y : ℕ) → Under (suc n) (rows y)) → (y : ℕ) → Under (suc n) (push rows x n t y)
  push_under at_x all y =
      push_cases (λ r. Under (suc n) r) rows x n t y (λ y≡x. (omega arith, rw y≡x at_x)) (λ _. all y)

-- ---- Number: two pushes with one number, the one after `T`
-- links `g` that are `f` but for two nodes
pub record Relinked (f g : ℕ → Option ℕ) (x t y u : ℕ) : Type 0 where
  pub one : g x ≡ some t
  pub two : g y ≡ some u
  pub rest : (z : ℕ) → z ≢ x → z ≢ y → g z ≡ f z

module _ (rows : ℕ → Row) (T x t y u : ℕ) where
  abbrev between : ℕ → Row
  between = push rows x (suc T) t

  pub number_old : (s : ℕ) → s ≤ T → next (number rows (suc T) x t y u) s ≡ next rows s
  number_old s s≤T = push_old between y (suc T) u s (omega arith) ∙ push_old rows x (suc T) t s (omega arith)

  pub number_row : (z : ℕ) → z ≢ x → z ≢ y → number rows (suc T) x t y u z ≡ rows z
  number_row z z≢x z≢y = push_row between y (suc T) u z z≢y ∙ push_row rows x (suc T) t z z≢x

  module _ (x≢y : x ≢ y) where
    pub number_rows : (number rows (suc T) x t y u x ≡ (suc T, t) ∷ rows x)
        × (number rows (suc T) x t y u y ≡ (suc T, u) ∷ rows y)
    number_rows = (
      push_row between y (suc T) u x x≢y ∙ push_at rows x (suc T) t,
      push_at between y (suc T) u ∙ ap (λ r. (suc T, u) ∷ r) (push_row rows x (suc T) t y (λ y≡x. x≢y (sym y≡x))),
    )

    module _ (under : (z : ℕ) → Under (suc T) (rows z)) where
      pub number_links : Relinked (next rows T) (next (number rows (suc T) x t y u) (suc T)) x t y u
      number_links = record {
        one = ap (look (suc T)) number_rows.0 ∙ look_take (suc T) (suc T) t (rows x) (omega arith);
        two = push_same between y (suc T) u (suc T) (omega arith);
        rest = λ z z≢x z≢y. ap (look (suc T)) (number_row z z≢x z≢y) ∙ look_stable T (rows z) (under z);
      }

      pub number_under : (z : ℕ) → Under (suc (suc T)) (number rows (suc T) x t y u z)
      number_under = push_under between y (suc T) u
          (rw (push_row rows x (suc T) t y (λ y≡x. x≢y (sym y≡x))) (under y))
          (push_under rows x (suc T) t (under x) (λ z. under_up (suc T) (rows z) (under z)))
