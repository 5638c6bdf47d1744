-- Lists in order: what insert, remove and restriction do to the elements, to the order and to one another.
-- In order: under a map; elements put in, taken out and kept; the order kept; lengths; the set after updates.
-- Not here: the test for a key (Member), nodes along links (Chains). Assumes nothing.
use mathlib.Core.Path.{◌≡◌, refl, sym, ◌∙◌, ap}
use mathlib.Core.Logic.{◌⊎◌, inl, inr, ⊎_elim, ◌≢◌}
use mathlib.Core.List.Memᴰ
use mathlib.Core.List.{List, [], ◌∷◌, map, Memᴰ}
use Prim.Native.Nat.{ℕ, suc, ◌≤◌, ◌<◌}
use native.Mathlib.Omega.{arith}
use lib.ListN.{length}
use Rattle.order.specs.Set.{Pair, key_of, Over, Rises, put, cut, within, member, Update, insert, remove}
use Rattle.order.specs.Set.{set_after}
use Rattle.order.proofs.Tests.{cond_map, ltb_cases, leb_cases, eqb_cases}

-- ---- under a map
module _ {A B : Type 0} (key : B → ℕ) (g : A → B) where
  pub map_put : (x : A) (l : List A) → map g (put (λ a. key (g a)) x l) ≡ put key (g x) (map g l)
  unfolding put
  map_put x [] = refl
  map_put x (y ∷ l) = simp (cond_map (map g), map_put x l)

  pub map_cut : (k : ℕ) (l : List A) → map g (cut (λ a. key (g a)) k l) ≡ cut key k (map g l)
  unfolding cut
  map_cut k [] = refl
  map_cut k (y ∷ l) = simp (cond_map (map g), map_cut k l)

  pub map_within : (low high : ℕ) (l : List A) →
      map g (within (λ a. key (g a)) low high l) ≡ within key low high (map g l)
  unfolding within
  map_within low high [] = refl
  map_within low high (y ∷ l) = simp (cond_map (map g), map_within low high l)

  pub over_map : (b : ℕ) (l : List A) → Over (λ a. key (g a)) b l → Over key b (map g l)
  over_map b [] over = tt
  over_map b (x ∷ l) over = (over.0, over_map (key (g x)) l over.1)

  pub rises_map : (l : List A) → Rises (λ a. key (g a)) l → Rises key (map g l)
  rises_map [] rises = tt
  rises_map (x ∷ l) rises = over_map (key (g x)) l rises

  pub member_map : (k : ℕ) (l : List A) → member key k (map g l) ≡ member (λ a. key (g a)) k l
  unfolding member
  member_map k [] = refl
  member_map k (y ∷ l) = rw (member_map k l)

module _ {A : Type 0} (key : A → ℕ) where
  -- ---- elements
  pub put_keeps : (x y : A) (l : List A) → Memᴰ x l → Memᴰ x (put key y l)
  unfolding put
  put_keeps x y [] m = Memᴰ.tail m
  put_keeps x y (z ∷ l) m =
      ltb_cases (Memᴰ x) (key y) (key z) _ _ (λ _. Memᴰ.tail m)
      (λ _. eqb_cases (Memᴰ x) (key y) (key z) _ _ (λ _. m)
      (λ _. ⊎_elim Memᴰ.head (λ k. Memᴰ.tail (put_keeps x y l k)) (Memᴰ.cases_cons m)))

  pub put_mem : (x y : A) (l : List A) → Memᴰ x (put key y l) → (x ≡ y) ⊎ Memᴰ x l
  unfolding put
  put_mem x y [] = Memᴰ.cases_cons
  put_mem x y (z ∷ l) =
      ltb_cases (λ r. Memᴰ x r → (x ≡ y) ⊎ Memᴰ x (z ∷ l)) (key y) (key z) _ _ (λ _. Memᴰ.cases_cons)
      (λ _. eqb_cases (λ r. Memᴰ x r → (x ≡ y) ⊎ Memᴰ x (z ∷ l)) (key y) (key z) _ _ (λ _. inr)
      (λ _ m. ⊎_elim (λ e. inr (Memᴰ.head e)) (λ k. ⊎_elim inl (λ n. inr (Memᴰ.tail n)) (put_mem x y l k))
      (Memᴰ.cases_cons m)))

  -- an absent key: its element is there afterwards
  pub put_new : (x : A) (l : List A) → ((y : A) → Memᴰ y l → key y ≢ key x) → Memᴰ x (put key x l)
  unfolding put
  put_new x [] absent = Memᴰ.head refl
  put_new x (y ∷ l) absent =
      ltb_cases (Memᴰ x) (key x) (key y) _ _ (λ _. Memᴰ.head refl)
      (λ _. eqb_cases (Memᴰ x) (key x) (key y) _ _ (λ e. absurd (absent y (Memᴰ.head refl) (sym e)))
      (λ _. Memᴰ.tail (put_new x l (λ z m. absent z (Memᴰ.tail m)))))

  pub cut_keeps : (x : A) (k : ℕ) (l : List A) → key x ≢ k → Memᴰ x l → Memᴰ x (cut key k l)
  unfolding cut
  cut_keeps x k [] x≢k m = m
  cut_keeps x k (z ∷ l) x≢k m =
      eqb_cases (Memᴰ x) (key z) k _ _
      (λ z≡k. ⊎_elim (λ e. absurd (x≢k (ap key e ∙ z≡k))) (λ n. n) (Memᴰ.cases_cons m))
      (λ _. ⊎_elim Memᴰ.head (λ n. Memᴰ.tail (cut_keeps x k l x≢k n)) (Memᴰ.cases_cons m))

  pub cut_mem : (x : A) (k : ℕ) (l : List A) → Memᴰ x (cut key k l) → Memᴰ x l
  unfolding cut
  cut_mem x k [] = λ m. m
  cut_mem x k (z ∷ l) =
      eqb_cases (λ r. Memᴰ x r → Memᴰ x (z ∷ l)) (key z) k _ _ (λ _. Memᴰ.tail)
      (λ _ m. ⊎_elim Memᴰ.head (λ n. Memᴰ.tail (cut_mem x k l n)) (Memᴰ.cases_cons m))

  -- ---- the order
  pub over_down : (a b : ℕ) (l : List A) → a ≤ b → Over key b l → Over key a l
  over_down a b [] a≤b over = tt
  over_down a b (x ∷ l) a≤b over = (omega arith, over.1)

  pub over_rises : (b : ℕ) (l : List A) → Over key b l → Rises key l
  over_rises b [] over = tt
  over_rises b (x ∷ l) over = over.1

  pub over_mem : (b : ℕ) (l : List A) (x : A) → Over key b l → Memᴰ x l → b < key x
  over_mem b [] x over m = absurd (Memᴰ.not-nil m)
  over_mem b (y ∷ l) x over m = ⊎_elim
      (λ e. omega (arith, ap key e)) (λ n. omega (arith, over_mem (key y) l x over.1 n)) (Memᴰ.cases_cons m)

  pub over_put : (b : ℕ) (x : A) (l : List A) → b < key x → Over key b l → Over key b (put key x l)
  unfolding put
  over_put b x [] b<x over = (b<x, tt)
  over_put b x (y ∷ l) b<x over =
      ltb_cases (Over key b) (key x) (key y) _ _ (λ x<y. (b<x, (x<y, over.1)))
      (λ y≤x. eqb_cases (Over key b) (key x) (key y) _ _ (λ _. over)
      (λ x≢y. (over.0, over_put (key y) x l (omega arith) over.1)))

  pub over_cut : (b k : ℕ) (l : List A) → Over key b l → Over key b (cut key k l)
  unfolding cut
  over_cut b k [] over = tt
  over_cut b k (y ∷ l) over =
      eqb_cases (Over key b) (key y) k _ _ (λ _. over_down b (key y) l (omega arith) over.1)
      (λ _. (over.0, over_cut (key y) k l over.1))

  pub over_within : (b low high : ℕ) (l : List A) → Over key b l → Over key b (within key low high l)
  unfolding within
  over_within b low high [] over = tt
  over_within b low high (y ∷ l) over =
      let rest : Over key (key y) (within key low high l) = over_within (key y) low high l over.1 in
      let down : Over key b (within key low high l) = over_down b (key y) (within key low high l) (omega arith) rest in
      ltb_cases (Over key b) (key y) low _ _ (λ _. down)
      (λ _. leb_cases (Over key b) (key y) high _ _ (λ _. (over.0, rest)) (λ _. down))

  pub rises_put : (x : A) (l : List A) → Rises key l → Rises key (put key x l)
  unfolding put
  rises_put x [] rises = tt
  rises_put x (y ∷ l) rises =
      ltb_cases (Rises key) (key x) (key y) _ _ (λ x<y. (x<y, rises))
      (λ y≤x. eqb_cases (Rises key) (key x) (key y) _ _ (λ _. rises) (λ x≢y. over_put (key y) x l (omega arith) rises))

  pub rises_cut : (k : ℕ) (l : List A) → Rises key l → Rises key (cut key k l)
  unfolding cut
  rises_cut k [] rises = tt
  rises_cut k (y ∷ l) rises =
      eqb_cases (Rises key) (key y) k _ _ (λ _. over_rises (key y) l rises) (λ _. over_cut (key y) k l rises)

  pub within_rises : (low high : ℕ) (l : List A) → Rises key l → Rises key (within key low high l)
  unfolding within
  within_rises low high [] rises = tt
  within_rises low high (y ∷ l) rises =
      let rest : Over key (key y) (within key low high l) = over_within (key y) low high l rises in
      let down : Rises key (within key low high l) = over_rises (key y) (within key low high l) rest in
      ltb_cases (Rises key) (key y) low _ _ (λ _. down)
      (λ _. leb_cases (Rises key) (key y) high _ _ (λ _. rest) (λ _. down))

  -- ---- lengths
  pub put_length_le : (x : A) (l : List A) → length (put key x l) ≤ suc (length l)
  unfolding put
  put_length_le x [] = omega arith
  put_length_le x (y ∷ l) =
      let Short : List A → Type 0 = λ r. length r ≤ suc (suc (length l)) in
      ltb_cases Short (key x) (key y) _ _ (λ _. omega arith)
      (λ _. eqb_cases Short (key x) (key y) _ _ (λ _. omega arith) (λ _. omega (arith, put_length_le x l)))

  pub cut_length_le : (k : ℕ) (l : List A) → length (cut key k l) ≤ length l
  unfolding cut
  cut_length_le k [] = omega arith
  cut_length_le k (y ∷ l) =
      let Short : List A → Type 0 = λ r. length r ≤ suc (length l) in
      eqb_cases Short (key y) k _ _ (λ _. omega arith) (λ _. omega (arith, cut_length_le k l))

-- ---- the set after updates is in order
pub set_rises : (start : List Pair) (updates : List Update) → Rises key_of start →
    Rises key_of (set_after start updates)
unfolding set_after
set_rises start [] rises = rises
set_rises start (insert k v ∷ updates) rises =
    rises_put key_of (k, v) (set_after start updates) (set_rises start updates rises)
set_rises start (remove k ∷ updates) rises =
    rises_cut key_of k (set_after start updates) (set_rises start updates rises)
