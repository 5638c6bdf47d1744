-- What holds along calls, and calls in parts.
-- In order: what holds along calls; numbers that do not fall; calls one after the other; counted steps in parts; fair
-- calls in parts.
-- Not here: what one call does. Assumes nothing.
use mathlib.Core.Path.{◌≡◌, refl, sym, ◌∙◌, ap}
use mathlib.Core.Option.{Option}
use mathlib.Core.List.{List, [], ◌∷◌, ◌++◌, append_assoc}
use Prim.Native.Nat.{ℕ, zero, suc, ◌+◌, ◌-◌, ◌≤◌}
use native.Mathlib.Omega.{arith}
use lib.ListN.{length}
use Rattle.fairness.specs.Calls.{tell, after, Along, steps, Fair}
use Rattle.fairness.proofs.Told.{tell_most}

module _ {State Call : Type 0} (go : State → Call → State) where
  -- ---- what holds along calls
  pub along_here : (P : State → Type 0) (σ : State) (cs : List Call) → Along go P σ cs → P σ
  along_here P σ [] a = a
  along_here P σ (c ∷ cs) a = a.0

  pub along_last : (P : State → Type 0) (σ : State) (cs : List Call) → Along go P σ cs → P (after go σ cs)
  along_last P σ [] a = a
  along_last P σ (c ∷ cs) a = along_last P (go σ c) cs a.1

  pub along_all : (P : State → Type 0) → ((σ : State) → P σ) → (σ : State) (cs : List Call) → Along go P σ cs
  along_all P f σ [] = f σ
  along_all P f σ (c ∷ cs) = (f σ, along_all P f (go σ c) cs)

  pub along_map : (P Q : State → Type 0) → ((σ : State) → P σ → Q σ)
      → (σ : State) (cs : List Call) → Along go P σ cs → Along go Q σ cs
  along_map P Q f σ [] a = f σ a
  along_map P Q f σ (c ∷ cs) a = (f σ a.0, along_map P Q f (go σ c) cs a.1)

  pub along_both : (P Q : State → Type 0) (σ : State) (cs : List Call)
      → Along go P σ cs → Along go Q σ cs → Along go (λ x. P x × Q x) σ cs
  along_both P Q σ [] a b = (a, b)
  along_both P Q σ (c ∷ cs) a b = ((a.0, b.0), along_both P Q (go σ c) cs a.1 b.1)

  -- what every call keeps
  pub along_kept : (P : State → Type 0) → ((σ : State) (c : Call) → P σ → P (go σ c))
      → (σ : State) (cs : List Call) → P σ → Along go P σ cs
  along_kept P f σ [] p = p
  along_kept P f σ (c ∷ cs) p = (p, along_kept P f (go σ c) cs (f σ c p))

  -- what each call keeps, where `Q` holds before and behind it
  pub along_keep : (P Q : State → Type 0) → ((σ : State) (c : Call) → Q σ → Q (go σ c) → P σ → P (go σ c))
      → (σ : State) (cs : List Call) → Along go Q σ cs → P σ → Along go P σ cs
  along_keep P Q f σ [] a p = p
  along_keep P Q f σ (c ∷ cs) a p =
      (p, along_keep P Q f (go σ c) cs a.1 (f σ c a.0 (along_here Q (go σ c) cs a.1) p))

  -- ---- a number that never falls is never above its last value
  module _ (P : State → Type 0) (f : State → ℕ)
      (rises : (σ : State) (c : Call) → P σ → P (go σ c) → f σ ≤ f (go σ c)) where
    pub never_falls : (σ : State) (cs : List Call) → Along go P σ cs → f σ ≤ f (after go σ cs)
    never_falls σ [] a = omega arith
    never_falls σ (c ∷ cs) a =
        omega (arith, rises σ c a.0 (along_here P (go σ c) cs a.1), never_falls (go σ c) cs a.1)

    pub along_under : (σ : State) (cs : List Call) → Along go P σ cs → Along go (λ x. f x ≤ f (after go σ cs)) σ cs
    along_under σ [] a = omega arith
    along_under σ (c ∷ cs) a = (never_falls σ (c ∷ cs) a, along_under (go σ c) cs a.1)

  -- ---- calls one after the other
  pub after_append : (σ : State) (a b : List Call) → after go σ (a ++ b) ≡ after go (after go σ a) b
  after_append σ [] b = refl
  after_append σ (c ∷ a) b = after_append (go σ c) a b

  pub along_front : (P : State → Type 0) (σ : State) (a b : List Call) → Along go P σ (a ++ b) → Along go P σ a
  along_front P σ [] b h = along_here P σ b h
  along_front P σ (c ∷ a) b h = (h.0, along_front P (go σ c) a b h.1)

  pub along_rest : (P : State → Type 0) (σ : State) (a b : List Call)
      → Along go P σ (a ++ b) → Along go P (after go σ a) b
  along_rest P σ [] b h = h
  along_rest P σ (c ∷ a) b h = along_rest P (go σ c) a b h.1

  module _ (who : State → Call → Option ℕ) where
    -- ---- counted steps in parts
    pub steps_most : (σ : State) (cs : List Call) → steps go who σ cs ≤ length cs
    steps_most σ [] = omega arith
    steps_most σ (c ∷ cs) = omega (arith, tell_most (who σ c), steps_most (go σ c) cs)

    pub steps_append : (σ : State) (a b : List Call)
        → steps go who σ (a ++ b) ≡ steps go who σ a + steps go who (after go σ a) b
    steps_append σ [] b = omega arith
    steps_append σ (c ∷ a) b = omega (arith, steps_append (go σ c) a b)

    -- divided behind the first `k` counted steps
    pub record Divided (k : ℕ) (σ : State) (cs : List Call) : Type 0 where
      pub front : List Call
      pub rest : List Call
      pub whole : cs ≡ front ++ rest
      pub many : steps go who σ front ≡ k
      pub sum : steps go who σ cs ≡ k + steps go who (after go σ front) rest

    pub divide : (cs : List Call) (k : ℕ) (σ : State) → k ≤ steps go who σ cs → Divided k σ cs
    divide [] k σ h = record { front = []; rest = []; whole = refl; many = omega arith; sum = omega arith }
    divide (c ∷ cs) zero σ h = record { front = []; rest = c ∷ cs; whole = refl; many = refl; sum = omega arith }
    divide (c ∷ cs) (suc k) σ h =
        let t = tell_most (who σ c) in
        let d = divide cs (suc k - tell (who σ c)) (go σ c) (omega arith) in
        record {
          front = c ∷ d.front;
          rest = d.rest;
          whole = ap (λ l. c ∷ l) d.whole;
          many = omega (arith, d.many);
          sum = omega (arith, d.sum);
        }

    -- ---- fair calls in parts
    module _ (Busy : State → ℕ → Type 0) (w : ℕ) (σ : State) (cs a b : List Call) (whole : cs ≡ a ++ b)
        (fair : Fair go who Busy w σ cs) where
      pub fair_front : Fair go who Busy w σ a
      fair_front x y z e = fair x y (z ++ b)
          (whole ∙ ap (λ l. l ++ b) e ∙ append_assoc x (y ++ z) b ∙ ap (λ l. x ++ l) (append_assoc y z b))

      pub fair_rest : Fair go who Busy w (after go σ a) b
      fair_rest x y z e =
          let served = fair (a ++ x) y z (whole ∙ ap (λ l. a ++ l) e ∙ sym (append_assoc a x (y ++ z))) in
          rw (after_append σ a x) at served

    -- no calls are fair for a window of none, where a session is busy
    pub none_fair : (Busy : State → ℕ → Type 0) (σ : State) (cs : List Call) (i : ℕ)
        → Busy σ i → Fair go who Busy 0 σ cs → ⊥
    none_fair Busy σ cs i b f = f [] [] cs refl refl i b
