-- The test for a key: where it says yes, what insert and remove do to it, and what insert does by its answer.
-- In order: choices among truth values; where the key is; after put and cut; a key that is there, or is not.
-- Not here: the elements and their order (Sets). Assumes nothing.
use mathlib.Core.Bool.{Bool, true, false, cond}
use mathlib.Core.Path.{◌≡◌, refl, sym, ◌∙◌, ap}
use mathlib.Core.Logic.{⊎_elim, ◌≢◌}
use mathlib.Core.List.Memᴰ
use mathlib.Core.List.{List, [], ◌∷◌, Memᴰ}
use Prim.Native.Nat.{ℕ, suc, ◌≤◌, ◌<◌}
use native.Mathlib.Omega.{arith}
use lib.Dec.{eqb}
use lib.ListN.{length}
use borrow.Author.Tests.{eq-eqb, ne_eqb}
use Rattle.order.specs.Set.{Over, Rises, put, cut, member}
use Rattle.order.proofs.Tests.{ltb_cases, eqb_cases}
use Rattle.order.proofs.Sets.{over_rises, put_new}

-- ---- choices among truth values
or_same : (t m : Bool) → cond t true m ≡ cond t true (cond t true m)
or_same true m = refl
or_same false m = refl

or_swap : (t u m : Bool) → cond t true (cond u true m) ≡ cond u true (cond t true m)
or_swap true true m = refl
or_swap true false m = refl
or_swap false u m = refl

true_false : {P : Type 0} → false ≡ true → P
true_false e = let z : ◌≡◌ {A = ℕ} 0 1 = cc in absurd (omega arith)

module _ {A : Type 0} (key : A → ℕ) where
  -- ---- where the key is
  pub member_here : (k : ℕ) (y : A) (l : List A) → key y ≡ k → member key k (y ∷ l) ≡ true
  unfolding member
  member_here k y l y≡k = rw (eq-eqb (key y) k y≡k)

  pub member_there : (k : ℕ) (y : A) (l : List A) → key y ≢ k → member key k (y ∷ l) ≡ member key k l
  unfolding member
  member_there k y l y≢k = rw (ne_eqb (key y) k y≢k)

  pub member_mem : (x : A) (l : List A) → Memᴰ x l → member key (key x) l ≡ true
  unfolding member
  member_mem x [] m = absurd (Memᴰ.not-nil m)
  member_mem x (y ∷ l) m =
      eqb_cases (λ t. t ≡ true) (key y) (key x) _ _ (λ _. refl)
      (λ y≢x. ⊎_elim (λ e. absurd (y≢x (sym (ap key e)))) (member_mem x l) (Memᴰ.cases_cons m))

  pub mem_member : (k : ℕ) (l : List A) → member key k l ≡ true → (x : A) × Memᴰ x l × (key x ≡ k)
  unfolding member
  mem_member k [] = true_false
  mem_member k (y ∷ l) =
      eqb_cases (λ t. t ≡ true → (x : A) × Memᴰ x (y ∷ l) × (key x ≡ k)) (key y) k _ _
      (λ y≡k _. (y, Memᴰ.head refl, y≡k))
      (λ _ e. let r = mem_member k l e in (r.0, Memᴰ.tail r.1, r.2))

  -- no element has the key
  pub member_none : (k : ℕ) (l : List A) → ((x : A) → Memᴰ x l → key x ≢ k) → member key k l ≡ false
  unfolding member
  member_none k [] out = refl
  member_none k (y ∷ l) out =
      member_there k y l (out y (Memᴰ.head refl)) ∙ member_none k l (λ x m. out x (Memᴰ.tail m))

  pub member_over : (k b : ℕ) (l : List A) → k ≤ b → Over key b l → member key k l ≡ false
  unfolding member
  member_over k b [] k≤b over = refl
  member_over k b (y ∷ l) k≤b over =
      member_there k y l (λ e. omega arith) ∙ member_over k (key y) l (omega arith) over.1

  pub member_under : (x y : A) (l : List A) → key x < key y → Rises key (y ∷ l) → member key (key x) (y ∷ l) ≡ false
  member_under x y l x<y rises = member_over (key x) (key x) (y ∷ l) (omega arith) (x<y, rises)

  -- ---- put brings in its own key and no other
  pub member_put : (k : ℕ) (x : A) (l : List A) →
      member key k (put key x l) ≡ cond (eqb (key x) k) true (member key k l)
  unfolding member put
  member_put k x [] = refl
  member_put k x (y ∷ l) =
      let Right : List A → Type 0 = λ r. member key k r ≡ cond (eqb (key x) k) true (member key k (y ∷ l)) in
      ltb_cases Right (key x) (key y) _ _ (λ _. refl)
      (λ _. eqb_cases Right (key x) (key y) _ _ (λ x≡y. rw x≡y (or_same (eqb (key y) k) (member key k l)))
      (λ _. rw (member_put k x l) (or_swap (eqb (key y) k) (eqb (key x) k) (member key k l))))

  -- cut takes out its own key and no other
  pub member_cut : (k j : ℕ) (l : List A) → Rises key l →
      member key k (cut key j l) ≡ cond (eqb k j) false (member key k l)
  unfolding member cut
  member_cut k j [] rises = eqb_cases (λ t. false ≡ t) k j _ _ (λ _. refl) (λ _. refl)
  member_cut k j (y ∷ l) rises =
      let Right : List A → Type 0 = λ r. member key k r ≡ cond (eqb k j) false (member key k (y ∷ l)) in
      eqb_cases Right (key y) j _ _
      (λ y≡j. eqb_cases (λ t. member key k l ≡ t) k j _ _ (λ k≡j. member_over k (key y) l (omega arith) rises)
      (λ k≢j. sym (member_there k y l (λ y≡k. k≢j (sym y≡k ∙ y≡j)))))
      (λ y≢j. rw (member_cut k j l (over_rises key (key y) l rises))
      (eqb_cases (λ t. cond (eqb (key y) k) true (cond (eqb k j) false (member key k l)) ≡ t) k j _ _
      (λ k≡j. rw (ne_eqb (key y) k (λ y≡k. y≢j (y≡k ∙ k≡j)), eq-eqb k j k≡j)) (λ k≢j. rw (ne_eqb k j k≢j))))

  -- ---- a key that is there: put changes nothing
  pub put_present : (x : A) (l : List A) → Rises key l → member key (key x) l ≡ true → put key x l ≡ l
  unfolding put member
  put_present x [] rises there = true_false there
  put_present x (y ∷ l) rises there =
      ltb_cases (λ r. r ≡ y ∷ l) (key x) (key y) _ _
      (λ x<y. true_false (sym (member_under x y l x<y rises) ∙ there))
      (λ y≤x. eqb_cases (λ r. r ≡ y ∷ l) (key x) (key y) _ _ (λ _. refl)
      (λ x≢y. ap (λ r. y ∷ r) (put_present x l (over_rises key (key y) l rises)
      (sym (member_there (key x) y l (λ e. x≢y (sym e))) ∙ there))))

  -- a key that is not there: its element is afterwards, and the list is longer by one
  pub put_absent : (x : A) (l : List A) → member key (key x) l ≡ false → Memᴰ x (put key x l)
  put_absent x l absent =
      put_new key x l (λ y m e. true_false (sym absent ∙ ap (λ k. member key k l) (sym e) ∙ member_mem y l m))

  pub put_length : (x : A) (l : List A) → member key (key x) l ≡ false → length (put key x l) ≡ suc (length l)
  unfolding put
  put_length x [] absent = refl
  put_length x (y ∷ l) absent =
      let Longer : List A → Type 0 = λ r. length r ≡ suc (suc (length l)) in
      ltb_cases Longer (key x) (key y) _ _ (λ _. refl)
      (λ _. eqb_cases Longer (key x) (key y) _ _
      (λ x≡y. true_false (sym absent ∙ member_here (key x) y l (sym x≡y)))
      (λ x≢y. ap suc (put_length x l (sym (member_there (key x) y l (λ e. x≢y (sym e))) ∙ absent))))
