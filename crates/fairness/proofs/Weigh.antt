-- Counting nodes: laws of weight, and lists without repetition.
-- In order: the weight of a list, and of two weights; a part weighs no more; rising keys are distinct.
-- Not here: what a node weighs (Reader). Assumes nothing.
use mathlib.Core.Path.{◌≡◌, refl, sym, ap, subst}
use mathlib.Core.Logic.{⊎_elim}
use mathlib.Core.List.Memᴰ
use mathlib.Core.List.{List, [], ◌∷◌, ◌++◌, Memᴰ}
use Prim.Native.Nat.{ℕ, ◌+◌, ◌*◌, ◌≤◌, ◌<◌}
use native.Mathlib.Omega.{arith}
use lib.ListN.{length}
use Rattle.fairness.specs.Weigh.{weigh, Distinct, Within, Rising}

module _ {A : Type 0} where
  -- ---- the weight of a list
  pub weigh_append : (f : A → ℕ) (a b : List A) → weigh f (a ++ b) ≡ weigh f a + weigh f b
  weigh_append f [] b = omega arith
  weigh_append f (x ∷ a) b = omega (arith, weigh_append f a b)

  pub weigh_most : (f : A → ℕ) (c : ℕ) (l : List A) → ((x : A) → f x ≤ c) → weigh f l ≤ c * length l
  weigh_most f c [] most = omega arith
  weigh_most f c (x ∷ l) most = omega (arith, most x, weigh_most f c l most)

  module _ (f g : A → ℕ) (f≤g : (x : A) → f x ≤ g x) where
    pub weigh_le : (l : List A) → weigh f l ≤ weigh g l
    weigh_le [] = omega arith
    weigh_le (x ∷ l) = omega (arith, f≤g x, weigh_le l)

    pub weigh_lt : (x : A) (l : List A) → Memᴰ x l → f x < g x → weigh f l < weigh g l
    weigh_lt x [] m k = absurd (Memᴰ.not-nil m)
    weigh_lt x (y ∷ l) m k = ⊎_elim
        (λ e. omega (arith, ap f e, ap g e, weigh_le l))
        (λ n. omega (arith, f≤g y, weigh_lt x l n k))
        (Memᴰ.cases_cons m)

  -- ---- a member divides a list
  split : (x : A) (l : List A) → Memᴰ x l → (a : List A) × (b : List A) × (l ≡ a ++ (x ∷ b))
  split x [] m = absurd (Memᴰ.not-nil m)
  split x (y ∷ l) m = ⊎_elim
      (λ e. ([], l, ap (λ z. z ∷ l) (sym e)))
      (λ n. let s = split x l n in (y ∷ s.0, s.1, ap (λ z. y ∷ z) s.2))
      (Memᴰ.cases_cons m)

  -- another member stays when it is taken out
  other_stays : (x y : A) (a b : List A) → ¬ (y ≡ x) → Memᴰ y (a ++ (x ∷ b)) → Memᴰ y (a ++ b)
  other_stays x y a b y≢x m = ⊎_elim
      (λ k. Memᴰ.append_left b k)
      (λ k. ⊎_elim (λ e. absurd (y≢x e)) (λ n. Memᴰ.append_right a n) (Memᴰ.cases_cons k))
      (Memᴰ.append_cases a m)

  -- a list without repetition weighs no more than one that has all its members
  pub weigh_part : (f : A → ℕ) (ns l : List A) → Distinct ns → Within ns l → weigh f ns ≤ weigh f l
  weigh_part f [] l d h = omega arith
  weigh_part f (x ∷ ns) l d h =
      let s = split x l (h x (Memᴰ.head refl)) in
      let within : Within ns (s.0 ++ s.1) = λ y m. other_stays x y s.0 s.1
      (λ e. d.0 (subst (λ (z : A). Memᴰ z ns) e m))
      (subst (Memᴰ y) s.2 (h y (Memᴰ.tail m))) in
      omega (
        arith,
        ap (weigh f) s.2,
        weigh_append f s.0 (x ∷ s.1),
        weigh_append f s.0 s.1,
        weigh_part f ns (s.0 ++ s.1) d.1 within,
      )

  -- ---- rising keys
  pub rising_above : (key : A → ℕ) (p : ℕ) (x : A) (l : List A) → Rising key p l → Memᴰ x l → p < key x
  rising_above key p x [] r m = absurd (Memᴰ.not-nil m)
  rising_above key p x (y ∷ l) r m = ⊎_elim
      (λ e. omega (arith, ap key e))
      (λ n. omega (arith, rising_above key (key y) x l r.1 n))
      (Memᴰ.cases_cons m)

  pub rising_distinct : (key : A → ℕ) (p : ℕ) (l : List A) → Rising key p l → Distinct l
  rising_distinct key p [] r = tt
  rising_distinct key p (x ∷ l) r =
      (λ m. omega (arith, rising_above key (key x) x l r.1 m), rising_distinct key (key x) l r.1)
