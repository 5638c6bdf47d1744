-- Functions changed at one place or two; locks given up; bundles told apart.
-- In order: one place; two places; locks; bundles.
-- Assumes nothing.
use mathlib.Core.Path.{◌≡◌, refl, ◌∙◌, ap}
use mathlib.Core.Logic.{◌⊎◌, inl, inr, ◌≢◌}
use mathlib.Core.Option.{Option, none, some}
use Prim.Native.Nat.{ℕ}
use native.Mathlib.Omega.{arith}
use borrow.Author.Tests.{eq-eqb}
use Rattle.order.specs.Rows.{Row}
use Rattle.order.proofs.Tests.{eqb_cases}
use Rattle.order.proofs.Rows.{some_same}
use Rattle.drawing.specs.Drawing.{change, without, release, Owned, final, pending}

-- ---- one place
pub change_cases : {A : Type 0} (P : A → Type 0) (f : ℕ → A) (x : ℕ) (v : A) (y : ℕ) →
    (y ≡ x → P v) → (y ≢ x → P (f y)) → P (change f x v y)
unfolding change
change_cases P f x v y there elsewhere = eqb_cases P y x v (f y) there elsewhere

pub change_same : {A : Type 0} (f : ℕ → A) (x : ℕ) (v : A) → change f x v x ≡ v
change_same f x v = change_cases (λ a. a ≡ v) f x v x (λ _. refl) (λ x≢x. absurd (x≢x refl))

pub change_other : {A : Type 0} (f : ℕ → A) (x : ℕ) (v : A) (y : ℕ) → y ≢ x → change f x v y ≡ f y
change_other f x v y y≢x = change_cases (λ a. a ≡ f y) f x v y (λ e. absurd (y≢x e)) (λ _. refl)

-- ---- two places
pub pair_cases : {A : Type 0} (P : A → Type 0) (f : ℕ → A) (p y : ℕ) (a b : A) (x : ℕ) →
    (x ≡ y → P b) → (x ≢ y → x ≡ p → P a) → (x ≢ y → x ≢ p → P (f x)) → P (change (change f p a) y b x)
pair_cases P f p y a b x at_y at_p rest =
    change_cases P (change f p a) y b x at_y (λ x≢y. change_cases P f p a x (at_p x≢y) (rest x≢y))

pub pair_other : {A : Type 0} (f : ℕ → A) (p y : ℕ) (a b : A) (x : ℕ) → x ≢ p → x ≢ y →
    change (change f p a) y b x ≡ f x
pair_other f p y a b x x≢p x≢y = change_other (change f p a) y b x x≢y ∙ change_other f p a x x≢p

pub pair_first : {A : Type 0} (f : ℕ → A) (p y : ℕ) (a b : A) → p ≢ y → change (change f p a) y b p ≡ a
pair_first f p y a b p≢y = change_other (change f p a) y b p p≢y ∙ change_same f p a

-- ---- locks
clash : {P : Type 0} (w : ℕ) → none ≡ some w → P
clash w e = let z : ◌≡◌ {A = ℕ} 0 1 = cc in absurd (omega arith)

without_nothing : (t : ℕ) → without t none ≡ none
unfolding without
without_nothing t = refl

pub without_none : (t : ℕ) (o : Option ℕ) → without t o ≡ none → (o ≡ none) ⊎ (o ≡ some t)
unfolding without
without_none t none = λ _. inl refl
without_none t (some w) =
    eqb_cases (λ a. a ≡ none → (some w ≡ none) ⊎ (some w ≡ some t)) w t none (some w)
    (λ w≡t _. inr (ap some w≡t)) (λ _ e. inl e)

pub without_some : (t : ℕ) (o : Option ℕ) (u : ℕ) → without t o ≡ some u → (o ≡ some u) × (u ≢ t)
unfolding without
without_some t none u = λ e. clash u e
without_some t (some w) u =
    eqb_cases (λ a. a ≡ some u → (some w ≡ some u) × (u ≢ t)) w t none (some w) (λ _ e. clash u e)
    (λ w≢t e. (e, λ u≡t. w≢t (some_same refl e ∙ u≡t)))

pub without_other : (t : ℕ) (o : Option ℕ) (u : ℕ) → u ≢ t → o ≡ some u → without t o ≡ some u
unfolding without
without_other t none u u≢t e = e
without_other t (some w) u u≢t e =
    eqb_cases (λ a. a ≡ some u) w t none (some w) (λ w≡t. absurd (u≢t (some_same e refl ∙ w≡t))) (λ _. e)

-- giving up all one's locks frees those that one holds, and no other
pub release_mine : (t : ℕ) (lock : ℕ → Option ℕ) (x : ℕ) → lock x ≡ some t → release t lock x ≡ none
unfolding without
release_mine t lock x mine = rw (mine, without, eq-eqb t t refl)

pub release_other : (t : ℕ) (lock : ℕ → Option ℕ) (x : ℕ) → lock x ≢ some t → release t lock x ≡ lock x
release_other t lock x other = go (lock x) other
  where
    go : (o : Option ℕ) → o ≢ some t → without t o ≡ o
    go none n = without_nothing t
    go (some w) n = without_other t (some w) w (λ z. n (ap some z)) refl

-- ---- bundles
pub final_pending : {P : Type 0} (b : Owned) (t c g : ℕ) (r r₂ : Row) → b ≡ final r → b ≡ pending t c g r₂ → P
final_pending b t c g r r₂ d e = let z : ◌≡◌ {A = ℕ} 0 1 = cc in absurd (omega arith)

pub one_owner : (b : Owned) (t c g : ℕ) (r : Row) (t₂ c₂ g₂ : ℕ) (r₂ : Row) →
    b ≡ pending t c g r → b ≡ pending t₂ c₂ g₂ r₂ → t ≡ t₂
one_owner b t c g r t₂ c₂ g₂ r₂ d e = cc

pub one_row : (b : Owned) (t c g : ℕ) (r : Row) (t₂ c₂ g₂ : ℕ) (r₂ : Row) →
    b ≡ pending t c g r → b ≡ pending t₂ c₂ g₂ r₂ → r ≡ r₂
one_row b t c g r t₂ c₂ g₂ r₂ d e = cc

pub final_same : {r r₂ : Row} → final r ≡ final r₂ → r ≡ r₂
final_same e = cc
