-- The pairs that may be written: each way through their test, and what the test says in document 01's words.
-- In order: rising keys, one by one; the test; what it says; that it says all of `Good`.
-- Assumes nothing.
use Prim.Native.Nat.{ℕ, zero, suc, ◌+◌, ◌≤◌, ◌<◌}
use mathlib.Core.Path.{◌≡◌, refl, sym}
use mathlib.Core.List.{List, [], ◌∷◌}
use mathlib.Core.Bool.{Bool, true, false, cond}
use mathlib.Core.Logic.{◌↔◌, ◌⊎◌, inl, inr}
use native.Mathlib.Omega.{arith}
use native.Mathlib.Nat.{le_of_lt}
use native.Mathlib.Numerals.{add-one}
use lib.ListN.{length, get_or, drop, drop_of_length-le, get_or-eq_default}
use lib.Seq.{drop-cons}
use lib.Dec.{eqb, leb}
use borrow.Author.Tests.{le-leb, lt-leb, eq-eqb, eqb-true, leb-true, leb-false}
use Rattle.text.specs.Text.{largest}
use Rattle.text.proofs.Basics.{impossible, split}
use Rattle.listing.specs.Listing.{rising, good_pairs}
use Rattle.listing.specs.Refusals.{Good, Fit}

-- ---- rising keys: what is left answers as the whole

module _ (ks : List ℕ) (last i : ℕ) (inv : rising 0 ks ≡ rising last (drop i ks)) where
  pub falls_low : i < length ks → get_or ks i 0 ≤ last → false ≡ rising 0 ks
  unfolding rising
  falls_low h k = rw (inv, drop-cons ks i 0 h, le-leb (get_or ks i 0) last k)

  pub falls_tail : i < length ks → largest ≤ get_or ks i 0 → false ≡ rising 0 ks
  unfolding rising
  falls_tail h e = rw (inv, drop-cons ks i 0 h, le-leb largest (get_or ks i 0) e) (by (leb (get_or ks i 0) last))
    where
      by : (t : Bool) → false ≡ cond t false false
      by true = refl
      by false = refl

  pub rises_on : i < length ks → last < get_or ks i 0 → get_or ks i 0 < largest →
      rising 0 ks ≡ rising (get_or ks i 0) (drop (i + 1) ks)
  unfolding rising
  rises_on h k e =
      rw (inv, drop-cons ks i 0 h, lt-leb (get_or ks i 0) last k, lt-leb largest (get_or ks i 0) e, add-one)

  pub rises_all : length ks ≤ i → true ≡ rising 0 ks
  unfolding rising
  rises_all h = rw (inv, drop_of_length-le ks h)

pub ruleset risen = (le_of_lt, falls_low, falls_tail, rises_on, rises_all)

-- ---- the test

module _ (most : ℕ) (ks vs : List ℕ) where
  pub good_rise : (r : Bool) → length ks ≡ length vs → length ks ≤ most → r ≡ rising 0 ks → r ≡ good_pairs most ks vs
  unfolding good_pairs
  good_rise r e h k = rw (eq-eqb (length ks) (length vs) e, le-leb (length ks) most h, k)

-- ---- what it says

pub good_counts : (most : ℕ) (ks vs : List ℕ) → good_pairs most ks vs ≡ true →
    (length ks ≡ length vs) × (length ks ≤ most) × (rising 0 ks ≡ true)
unfolding good_pairs
good_counts most ks vs = by (eqb (length ks) (length vs)) (leb (length ks) most) refl refl
  where
    by : (t u : Bool) → eqb (length ks) (length vs) ≡ t → leb (length ks) most ≡ u →
        cond t (cond u (rising 0 ks) false) false ≡ true →
        (length ks ≡ length vs) × (length ks ≤ most) × (rising 0 ks ≡ true)
    by true true e h k = (eqb-true (length ks) (length vs) e, leb-true (length ks) most h, k)
    by true false e h k = impossible (cc)
    by false true e h k = impossible (cc)
    by false false e h k = impossible (cc)

pub rising_on : (last k : ℕ) (ks : List ℕ) → rising last (k ∷ ks) ≡ true →
    (last < k) × (k < largest) × (rising k ks ≡ true)
unfolding rising
rising_on last k ks = by (leb k last) (leb largest k) refl refl
  where
    by : (t u : Bool) → leb k last ≡ t → leb largest k ≡ u → cond t false (cond u false (rising k ks)) ≡ true →
        (last < k) × (k < largest) × (rising k ks ≡ true)
    by false false e h r = (leb-false k last e, leb-false largest k h, r)
    by true true e h r = impossible (cc)
    by true false e h r = impossible (cc)
    by false true e h r = impossible (cc)

pub rising_cons : (last k : ℕ) (ks : List ℕ) → last < k → k < largest → rising k ks ≡ true →
    rising last (k ∷ ks) ≡ true
unfolding rising
rising_cons last k ks above below h = rw (lt-leb k last above, lt-leb largest k below, h)

rising_bound : (last : ℕ) (ks : List ℕ) → rising last ks ≡ true → (i : ℕ) → i < length ks →
    (last < get_or ks i 0) × (get_or ks i 0 < largest)
rising_bound last [] h i k = absurd (omega arith)
rising_bound last (x ∷ ks) h zero k = let on = rising_on last x ks h in (on.0, on.1)
rising_bound last (x ∷ ks) h (suc i) k =
    let on = rising_on last x ks h in
    let later = rising_bound x ks on.2 i (omega arith) in (omega arith, later.1)

rising_rise : (last : ℕ) (ks : List ℕ) → rising last ks ≡ true → (i : ℕ) → suc i < length ks →
    get_or ks i 0 < get_or ks (suc i) 0
rising_rise last [] h i k = absurd (omega arith)
rising_rise last (x ∷ ks) h zero k = (rising_bound x ks (rising_on last x ks h).2 zero (omega arith)).0
rising_rise last (x ∷ ks) h (suc i) k = rising_rise x ks (rising_on last x ks h).2 i (omega arith)

rising_all : (last : ℕ) (ks : List ℕ) → (0 < length ks → last < get_or ks 0 0) →
    ((i : ℕ) → i < length ks → get_or ks i 0 < largest) →
    ((i : ℕ) → suc i < length ks → get_or ks i 0 < get_or ks (suc i) 0) → rising last ks ≡ true
unfolding rising
rising_all last [] first below rise = refl
rising_all last (x ∷ ks) first below rise =
    rising_cons last x ks (first (omega arith)) (below zero (omega arith))
    (rising_all x ks (λ h. rise zero (omega arith)) (λ i h. below (suc i) (omega arith))
    (λ i h. rise (suc i) (omega arith)))

-- ---- and that it says all of it

pub good_is : (most : ℕ) (ks vs : List ℕ) → (good_pairs most ks vs ≡ true) ↔ Good most ks vs
good_is most ks vs = (to, from)
  where
    to : good_pairs most ks vs ≡ true → Good most ks vs
    to h =
        let counts = good_counts most ks vs h in
        record {
          same = counts.0;
          few = counts.1;
          bound = λ i k. rising_bound 0 ks counts.2 i k;
          rise = λ i k. rw add-one (rising_rise 0 ks counts.2 i (omega arith));
        }

    from : Good most ks vs → good_pairs most ks vs ≡ true
    from g =
        let up : rising 0 ks ≡ true =
        rising_all 0 ks (λ h. (g.bound 0 h).0) (λ i h. (g.bound i h).1)
        (λ i h. rw add-one at (g.rise i (omega arith))) in
        rw (sym (good_rise most ks vs true g.same g.few (sym up)))

-- a key in bounds is one of 32 bits
pub good_fit : (most : ℕ) (ks vs : List ℕ) → Good most ks vs → Fit ks
good_fit most ks vs g i = by (split i (length ks))
  where
    by : (i < length ks) ⊎ (length ks ≤ i) → get_or ks i 0 ≤ largest
    by (inl h) = let b = g.bound i h in omega arith
    by (inr h) = rw (get_or-eq_default ks 0 h) (omega arith)
