-- Round robin is fair: demand 3's premise can be met, for each window that has room for all sessions.
-- In order: its parts; where a session's turn is; a row that has it; the theorem; sixteen sessions whose step calls
-- always count; a schedule that is not fair.
-- Not here: definitions (specs/Robin). Assumes nothing.
use mathlib.Core.Path.{◌≡◌, refl, sym, ◌∙◌, ap, subst}
use mathlib.Core.Logic.{inl, inr}
use mathlib.Core.Option.{Option, some}
use mathlib.Core.List.{List, [], ◌∷◌, ◌++◌, append-nil}
use Prim.Native.Nat.{ℕ, zero, suc, ◌+◌, ◌-◌, ◌*◌, ◌/◌, ◌%◌, ◌≤◌, ◌<◌}
use native.Mathlib.Nat.{mod-lt, mod-eq_of_lt, div-add-mod, mul-add-mod_self_left, mul-suc}
use native.Mathlib.Decide.{dec_le}
use native.Mathlib.Omega.{arith}
use lib.ListN.{length}
use Rattle.fairness.specs.Calls.{after, Along, steps, Takes, Fair}
use Rattle.fairness.specs.Robin.{robin, Counts}
use Rattle.fairness.proofs.Told.{some_same}
use Rattle.fairness.proofs.Along.{along_here, along_all, along_front, along_rest, steps_most}

-- ---- where a session's turn is: within `n` calls of any call number
turn_at : (n q i d k : ℕ) → i < n → k + d ≡ n * q + i → (k + d) % n ≡ i
turn_at n q i d k i<n e = ap (λ x. x % n) e ∙ mul-add-mod_self_left n q i ∙ mod-eq_of_lt i<n

turn_within : (n k i : ℕ) → i < n → (d : ℕ) × (d < n) × ((k + d) % n ≡ i)
turn_within n k i i<n =
    let r = mod-lt k {m = n} (omega arith) in
    let e = div-add-mod k n in
    elim (dec_le (k % n) i) [
      | yes h ↦ (i - k % n, omega arith, turn_at n (k / n) i (i - k % n) k i<n (omega (arith, e)))
      | no h ↦ (
        i + n - k % n,
        omega arith,
        turn_at n (suc (k / n)) i (i + n - k % n) k i<n (omega (arith, e, mul-suc n (k / n))),
      )
    ]

module _ {Call : Type 0} (step : ℕ → Call) (n : ℕ) where
  -- ---- its parts are such rows too
  robin_length : (k m : ℕ) → length (robin step n k m) ≡ m
  robin_length k zero = refl
  robin_length k (suc m) = ap suc (robin_length (suc k) m)

  robin_front : (a b : List Call) (k m : ℕ) → robin step n k m ≡ a ++ b → a ≡ robin step n k (length a)
  robin_front [] b k m e = refl
  robin_front (c ∷ a) b k zero e = let z : ◌≡◌ {A = ℕ} 0 1 = cc in absurd (omega arith)
  robin_front (c ∷ a) b k (suc m) e =
      let there : robin step n (suc k) m ≡ a ++ b = cc in
      cc (robin_front a b (suc k) m there)

  robin_rest : (a b : List Call) (k m : ℕ) → robin step n k m ≡ a ++ b
      → (l : ℕ) × (j : ℕ) × (robin step n l j ≡ b)
  robin_rest [] b k m e = (k, m, e)
  robin_rest (c ∷ a) b k zero e = let z : ◌≡◌ {A = ℕ} 0 1 = cc in absurd (omega arith)
  robin_rest (c ∷ a) b k (suc m) e = robin_rest a b (suc k) m (cc)

  robin_row : (before row rest : List Call) (k m : ℕ) → robin step n k m ≡ before ++ (row ++ rest)
      → (l : ℕ) × (row ≡ robin step n l (length row))
  robin_row before row rest k m e =
      let r = robin_rest before (row ++ rest) k m e in
      (r.0, robin_front row rest r.0 r.1 r.2)

  module _ {State : Type 0} (go : State → Call → State) (who : State → Call → Option ℕ)
      (Busy : State → ℕ → Type 0) where
    -- ---- a row that has a busy session's turn has a counted step of it
    turn_taken : (i d k m : ℕ) (σ : State) → d < m → (k + d) % n ≡ i
        → Along go (λ x. Busy x i) σ (robin step n k m) → Along go (Counts step n who Busy) σ (robin step n k m)
        → Takes go who i σ (robin step n k m)
    turn_taken i d k zero σ d<m e b c = absurd (omega arith)
    turn_taken i zero k (suc m) σ d<m e b c =
        let z : k + 0 ≡ k = omega arith in
        inl (ap (λ x. who σ (step x)) (sym (ap (λ x. x % n) z) ∙ e) ∙ (c.0 i b.0).1)
    turn_taken i (suc d) k (suc m) σ d<m e b c =
        let z : suc k + d ≡ k + suc d = omega arith in
        inr (turn_taken i d (suc k) m (go σ (step (k % n))) (omega arith) (ap (λ x. x % n) z ∙ e) b.1 c.1)

    pub row_taken : (w k m : ℕ) (σ : State) → n ≤ w → w ≤ m → (i : ℕ)
        → Along go (λ x. Busy x i) σ (robin step n k m) → Along go (Counts step n who Busy) σ (robin step n k m)
        → Takes go who i σ (robin step n k m)
    row_taken w k m σ n≤w w≤m i b c =
        let row = robin step n k m in
        let i<n = (along_here go (Counts step n who Busy) σ row c i (along_here go (λ x. Busy x i) σ row b)).0 in
        let t = turn_within n k i i<n in
        turn_taken i t.0 k m σ (omega (arith, t.1)) t.2 b c

    -- ---- round robin is fair, for each window of at least `n` counted steps
    pub robin_fair : (w k m : ℕ) (σ : State) → n ≤ w
        → Along go (Counts step n who Busy) σ (robin step n k m) → Fair go who Busy w σ (robin step n k m)
    robin_fair w k m σ n≤w counts before row rest whole many i busy =
        let r = robin_row before row rest k m whole in
        let τ = after go σ before in
        let c = along_front go (Counts step n who Busy) τ row rest (along_rest go (Counts step n who Busy) σ before
        (row ++ rest) (subst (Along go (Counts step n who Busy) σ) whole counts)) in
        let long : w ≤ length row = omega (arith, many, steps_most go who τ row) in
        subst (Takes go who i τ) (sym r.1) (row_taken w r.0 (length row) τ n≤w long i
        (subst (Along go (λ x. Busy x i) τ) r.1 busy)
        (subst (Along go (Counts step n who Busy) τ) r.1 c))

    -- where step calls always count
    pub always_fair : ((σ : State) (i : ℕ) → who σ (step i) ≡ some i) → ((σ : State) (i : ℕ) → Busy σ i → i < n)
        → (w m : ℕ) (σ : State) → n ≤ w → Fair go who Busy w σ (robin step n 0 m)
    always_fair counts under w m σ n≤w = robin_fair w 0 m σ n≤w
        (along_all go (Counts step n who Busy) (λ τ i b. (under τ i b, counts τ i)) σ (robin step n 0 m))

-- ---- sixteen sessions, all of them busy, and nothing else to the machine
abbrev stays : Unit {0} → ℕ → Unit {0}
stays σ c = σ

abbrev named : Unit {0} → ℕ → Option ℕ
named σ c = some c

abbrev sixteen : Unit {0} → ℕ → Type 0
sixteen σ i = i < 16

pub sixteen_fair : (w m : ℕ) → 16 ≤ w → Fair stays named sixteen w tt (robin (λ i. i) 16 0 m)
sixteen_fair w m h = always_fair (λ i. i) 16 stays named sixteen (λ σ i. refl) (λ σ i b. b) w m tt h

-- ---- to serve session 0 alone is not fair, whatever the window
alone_counts : (k m : ℕ) → steps stays named tt (robin (λ i. 0) 16 k m) ≡ m
alone_counts k zero = refl
alone_counts k (suc m) = omega (arith, alone_counts (suc k) m)

alone_starves : (k m : ℕ) → Takes stays named 1 tt (robin (λ i. 0) 16 k m) → ⊥
alone_starves k zero t = t
alone_starves k (suc m) (inl e) = omega (arith, some_same 0 1 e)
alone_starves k (suc m) (inr t) = alone_starves (suc k) m t

pub alone_unfair : (w : ℕ) → Fair stays named sixteen w tt (robin (λ i. 0) 16 0 w) → ⊥
alone_unfair w fair =
    let row : List ℕ = robin (λ i. 0) 16 0 w in
    alone_starves 0 w (fair [] row [] (sym (append-nil row)) (alone_counts 0 w) 1
    (along_all stays (λ x. sixteen x 1) (λ x. omega arith) tt row))
