-- Chains of links: where they end, how they split and join, what agrees with them; and lists in order along them.
-- In order: where a chain ends; splitting and joining; a walk divided behind a node; other links that agree; keys
-- along a chain; put, cut and within.
-- Not here: rows and numbers. A chain is over any links `f`. Assumes nothing.
use mathlib.Core.Path.{◌≡◌, refl, sym, ◌∙◌, ap}
use mathlib.Core.Logic.{⊎_elim}
use mathlib.Core.Option.{Option}
use mathlib.Core.List.Memᴰ
use mathlib.Core.List.{List, [], ◌∷◌, ◌++◌, append_assoc, Memᴰ}
use Prim.Native.Nat.{ℕ, ◌≤◌, ◌<◌}
use native.Mathlib.Omega.{arith}
use borrow.Author.Tests.{lt-ltb, le-ltb, lt-leb, eq-eqb, ne_eqb}
use Rattle.order.specs.Set.{Over, put, cut, within}
use Rattle.order.specs.History.{head, tail, Chain}

-- ---- where a chain from `p` over `ns` ends
abbrev pub last : ℕ → List ℕ → ℕ
last p [] = p
last p (n ∷ ns) = last n ns

-- a node of a list divides it
pub divide : (x p : ℕ) (ns : List ℕ) → Memᴰ x (p ∷ ns) →
    (A : List ℕ) × (B : List ℕ) × (ns ≡ A ++ B) × (last p A ≡ x)
divide x p [] m = ([], [], refl, ⊎_elim sym (λ k. absurd (Memᴰ.not-nil k)) (Memᴰ.cases_cons m))
divide x p (n ∷ ns) m = ⊎_elim
    (λ e. ([], n ∷ ns, refl, sym e))
    (λ k. let r = divide x n ns k in (n ∷ r.0, r.1, ap (λ l. n ∷ l) r.2, r.3))
    (Memᴰ.cases_cons m)

module _ (key : ℕ → ℕ) (f : ℕ → Option ℕ) where
  -- ---- splitting and joining
  pub chain_split : (p : ℕ) (A B : List ℕ) → Chain key f p (A ++ B) → Chain key f p A × Chain key f (last p A) B
  chain_split p [] B c = (tt, c)
  chain_split p (n ∷ A) B c = let r = chain_split n A B c.2 in ((c.0, c.1, r.0), r.1)

  pub chain_join : (p : ℕ) (A B : List ℕ) → Chain key f p A → Chain key f (last p A) B → Chain key f p (A ++ B)
  chain_join p [] B a b = b
  chain_join p (n ∷ A) B a b = (a.0, a.1, chain_join n A B a.2 b)

  pub chain_last : (p : ℕ) (A : List ℕ) → Chain key f p A → key p ≤ key (last p A)
  chain_last p [] a = omega arith
  chain_last p (n ∷ A) a = omega (arith, chain_last n A a.2)

  pub chain_over : (p : ℕ) (ns : List ℕ) → Chain key f p ns → Over key (key p) ns
  chain_over p [] c = tt
  chain_over p (n ∷ ns) c = (c.1, chain_over n ns c.2)

  -- ---- a walk from the head over `ns` to the tail, divided behind its node `x`
  pub record Around (ns : List ℕ) (x : ℕ) : Type 0 where
    pub front : List ℕ
    pub back : List ℕ
    pub whole : ns ≡ front ++ back
    pub ends : last head front ≡ x
    pub before : Chain key f head front
    pub behind : Chain key f x (back ++ (tail ∷ []))

  pub around : (x : ℕ) (ns : List ℕ) → Chain key f head (ns ++ (tail ∷ [])) → Memᴰ x (head ∷ ns) → Around ns x
  around x ns c m =
      let d = divide x head ns m in
      let c₂ = rw (d.2, append_assoc) at c in
      let r = chain_split head d.0 (d.1 ++ (tail ∷ [])) c₂ in
      record { front = d.0; back = d.1; whole = d.2; ends = d.3; before = r.0; behind = rw d.3 at r.1 }

  pub from_head : (x : ℕ) (ns : List ℕ) → Around ns x → key head ≤ key x
  from_head x ns a = omega (arith, chain_last head a.front a.before, ap key a.ends)

  -- ---- other links that agree
  pub agree_above : (g : ℕ → Option ℕ) (p : ℕ) (ns : List ℕ) → ((x : ℕ) → key p ≤ key x → g x ≡ f x) →
      Chain key f p ns → Chain key g p ns
  agree_above g p [] agree c = tt
  agree_above g p (n ∷ ns) agree c =
      (agree p (omega arith) ∙ c.0, c.1, agree_above g n ns (λ x k. agree x (omega arith)) c.2)

  pub agree_below : (g : ℕ → Option ℕ) (p : ℕ) (ns : List ℕ) → ((x : ℕ) → key x < key (last p ns) → g x ≡ f x) →
      Chain key f p ns → Chain key g p ns
  agree_below g p [] agree c = tt
  agree_below g p (n ∷ ns) agree c =
      (agree p (omega (arith, chain_last n ns c.2)) ∙ c.0, c.1, agree_below g n ns agree c.2)

  -- ---- keys along a chain
  pub to_tail : (p : ℕ) (ns : List ℕ) → Chain key f p (ns ++ (tail ∷ [])) → key p < key tail
  to_tail p [] c = c.1
  to_tail p (n ∷ ns) c = omega (arith, to_tail n ns c.2)

  pub above_start : (p x : ℕ) (ns : List ℕ) → Chain key f p ns → Memᴰ x ns → key p < key x
  above_start p x [] c m = absurd (Memᴰ.not-nil m)
  above_start p x (n ∷ ns) c m = ⊎_elim
      (λ e. omega (arith, ap key e)) (λ k. omega (arith, above_start n x ns c.2 k)) (Memᴰ.cases_cons m)

  pub below_last : (p x : ℕ) (ns : List ℕ) → Chain key f p ns → Memᴰ x ns → key x ≤ key (last p ns)
  below_last p x [] c m = absurd (Memᴰ.not-nil m)
  below_last p x (n ∷ ns) c m = ⊎_elim
      (λ e. omega (arith, ap key e, chain_last n ns c.2)) (below_last n x ns c.2) (Memᴰ.cases_cons m)

  -- a node is told by its key
  pub by_key : (p x y : ℕ) (ns : List ℕ) → Chain key f p ns → Memᴰ x ns → Memᴰ y ns → key x ≡ key y → x ≡ y
  by_key p x y [] c m k e = absurd (Memᴰ.not-nil m)
  by_key p x y (n ∷ ns) c m k e = ⊎_elim
      (λ x≡n. ⊎_elim (λ y≡n. x≡n ∙ sym y≡n)
      (λ b. absurd (omega (arith, ap key x≡n, above_start n y ns c.2 b))) (Memᴰ.cases_cons k))
      (λ a. ⊎_elim (λ y≡n. absurd (omega (arith, ap key y≡n, above_start n x ns c.2 a)))
      (λ b. by_key n x y ns c.2 a b e) (Memᴰ.cases_cons k))
      (Memᴰ.cases_cons m)

  -- ---- put, cut and within along a chain
  pub put_at : (x p : ℕ) (A B : List ℕ) → Chain key f p A → key (last p A) < key x → Over key (key x) B →
      put key x (A ++ B) ≡ A ++ x ∷ B
  unfolding put
  put_at x p [] [] c low high = refl
  put_at x p [] (n ∷ B) c low high = rw (lt-ltb (key x) (key n) high.0)
  put_at x p (n ∷ A) B c low high =
      let n<x : key n < key x = omega (arith, chain_last n A c.2) in
      rw (le-ltb (key x) (key n) (omega arith), ne_eqb (key x) (key n) (λ e. omega arith))
      (ap (λ l. n ∷ l) (put_at x n A B c.2 low high))

  pub cut_at : (x p : ℕ) (A B : List ℕ) → Chain key f p A → key (last p A) < key x →
      cut key (key x) (A ++ x ∷ B) ≡ A ++ B
  unfolding cut
  cut_at x p [] B c low = rw (eq-eqb (key x) (key x) refl)
  cut_at x p (n ∷ A) B c low =
      let n<x : key n < key x = omega (arith, chain_last n A c.2) in
      rw (ne_eqb (key n) (key x) (λ e. omega arith)) (ap (λ l. n ∷ l) (cut_at x n A B c.2 low))

  module _ (low high : ℕ) where
    pub within_below : (p : ℕ) (A B : List ℕ) → Chain key f p A → key (last p A) < low →
        within key low high (A ++ B) ≡ within key low high B
    unfolding within
    within_below p [] B c end<low = refl
    within_below p (n ∷ A) B c end<low =
        rw (lt-ltb (key n) low (omega (arith, chain_last n A c.2))) (within_below n A B c.2 end<low)

    pub within_above : (p : ℕ) (ns : List ℕ) → Chain key f p ns → low ≤ high → high < key p →
        within key low high ns ≡ []
    unfolding within
    within_above p [] c low≤high high<p = refl
    within_above p (n ∷ ns) c low≤high high<p =
        rw (le-ltb (key n) low (omega arith), lt-leb (key n) high (omega arith))
        (within_above n ns c.2 low≤high (omega arith))
