-- The window: in every `w` counted steps the query works, or all that it waits for come nearer their end. So the
-- bound.
-- In order: gains and calm; one call more in front; a window; the bound; the bound with the last step counted in.
-- Not here: what a query's measure is. Assumes nothing.
use mathlib.Core.Path.{◌≡◌, refl, ◌∙◌, ap, subst}
use mathlib.Core.Logic.{◌⊎◌, inl, inr, ⊎_elim, ◌≢◌}
use mathlib.Core.Option.{Option, none, some}
use mathlib.Core.List.{List, [], ◌∷◌, ◌++◌}
use Prim.Native.Nat.{ℕ, zero, suc, ◌+◌, ◌*◌, ◌≤◌, ◌<◌}
use native.Mathlib.Nat.{mul-suc, zero-mul, mul-le-mul_left}
use native.Mathlib.Decide.{dec_lt, ℕ_discrete}
use native.Mathlib.Omega.{arith}
use Rattle.fairness.specs.Calls.{after, Along, steps, Takes, Serves, Fair}
use Rattle.fairness.specs.Facts.{Eases, Works, Waits, Level, Facts}
use Rattle.fairness.proofs.Told.{some_same, none≢some}
use Rattle.fairness.proofs.Along.{along_here, along_map, along_front, along_rest, divide, fair_rest}

-- with its last step counted in
pub last_too : (w k m s : ℕ) → s < w * k → k < m → suc s < w * m
last_too zero k m s h l = absurd (omega (arith, zero-mul k))
last_too (suc w) k m s h l = omega (arith, mul-suc (suc w) k, mul-le-mul_left {m = suc k} {n = m} (suc w) l)

module _ {State Call : Type 0} (go : State → Call → State) (who : State → Call → Option ℕ)
    (Busy : State → ℕ → Type 0) (q : ℕ) (Good : State → Type 0) (left : State → ℕ) (owes : State → ℕ → ℕ)
    (F : Facts go who Busy q Good left owes) where
  -- ---- what is left and the level fall, together
  abbrev Gains : State → State → Type 0
  Gains σ τ = (d : ℕ) → Level left owes d σ → (e : ℕ) × Level left owes e τ × (left τ + e < left σ + d)

  -- calls in which the query only waits: who owes to the end was busy throughout, and owes less by each step
  record Calm (σ : State) (cs : List Call) : Type 0 where
    ease : Eases left owes σ (after go σ cs)
    held : (i : ℕ) → 0 < owes (after go σ cs) i → Along go (λ x. Busy x i) σ cs
    paid : (i : ℕ) → 0 < owes (after go σ cs) i → Takes go who i σ cs → owes (after go σ cs) i < owes σ i
    shown : Takes go who q σ cs → (i : ℕ) × (0 < owes σ i)

  abbrev Scanned : State → List Call → Type 0
  Scanned σ cs = Gains σ (after go σ cs) ⊎ Calm σ cs

  -- ---- one call more in front
  eased_gains : (σ ρ τ : State) → Eases left owes σ ρ → Gains ρ τ → Gains σ τ
  eased_gains σ ρ τ s g d l =
      let n = g d (λ i. omega (arith, l i, s.1 i)) in
      (n.0, n.1, omega (arith, n.2, s.0))

  worked_gains : (σ ρ : State) (cs : List Call) → Works left owes σ ρ → Scanned ρ cs → Gains σ (after go ρ cs)
  worked_gains σ ρ cs w (inl g) d l =
      let n = g (d + w.0) (λ i. omega (arith, l i, w.2 i)) in
      (n.0, n.1, omega (arith, n.2, w.1))
  worked_gains σ ρ cs w (inr k) d l =
      (d + w.0, λ i. omega (arith, l i, w.2 i, k.ease.1 i), omega (arith, w.1, k.ease.0))

  -- what a call must do to leave calm calls calm
  record Stills (σ : State) (c : Call) : Type 0 where
    eases : Eases left owes σ (go σ c)
    pays : (i : ℕ) → who σ c ≡ some i → 0 < owes σ i → owes (go σ c) i < owes σ i
    shows : who σ c ≡ some q → (i : ℕ) × (0 < owes σ i)

  stills_calm : (σ : State) (c : Call) (cs : List Call) → Good σ → Stills σ c → Calm (go σ c) cs → Calm σ (c ∷ cs)
  stills_calm σ c cs g s k = record {
    ease = (omega (arith, s.eases.0, k.ease.0), λ i. omega (arith, s.eases.1 i, k.ease.1 i));
    held = λ i h. ((F.owes_busy σ g i (omega (arith, s.eases.1 i, k.ease.1 i))).0, k.held i h);
    paid = λ i h t. ⊎_elim
        (λ e. omega (arith, k.ease.1 i, s.pays i e (omega (arith, s.eases.1 i, k.ease.1 i))))
        (λ u. omega (arith, k.paid i h u, s.eases.1 i)) t;
    shown = λ t. ⊎_elim s.shows (λ u. let n = k.shown u in (n.0, omega (arith, n.1, s.eases.1 n.0))) t;
  }

  stills_scanned : (σ : State) (c : Call) (cs : List Call) → Good σ → Stills σ c
      → Scanned (go σ c) cs → Scanned σ (c ∷ cs)
  stills_scanned σ c cs g s (inl a) = inl (eased_gains σ (go σ c) _ s.eases a)
  stills_scanned σ c cs g s (inr k) = inr (stills_calm σ c cs g s k)

  quiet_stills : (σ : State) (c : Call) → Good σ → Good (go σ c) → who σ c ≡ none → Stills σ c
  quiet_stills σ c g h e = record {
    eases = F.quiet σ c g h e;
    pays = λ i z. absurd (none≢some i (cc));
    shows = λ z. absurd (none≢some q (cc));
  }

  other_stills : (σ : State) (c : Call) (j : ℕ) → Good σ → Good (go σ c) → who σ c ≡ some j → j ≢ q → Stills σ c
  other_stills σ c j g h e n =
      let s = F.other σ c j g h e n in
      record {
        eases = s.0;
        pays = λ i z x.
            let y = some_same j i (cc) in
            subst (λ (v : ℕ). owes (go σ c) v < owes σ v) y (s.1 (omega (arith, ap (owes σ) y)));
        shows = λ z. absurd (n (some_same j q (cc)));
      }

  wait_stills : (σ : State) (c : Call) → Good σ → who σ c ≡ some q → Waits left owes σ (go σ c) → Stills σ c
  wait_stills σ c g e w = record {
    eases = w.0;
    pays = λ i z x. absurd ((F.owes_busy σ g i x).1 (some_same i q (cc)));
    shows = λ z. (w.1, w.2);
  }

  own_scanned : (σ : State) (c : Call) (cs : List Call) → Good σ → Good (go σ c) → who σ c ≡ some q
      → Scanned (go σ c) cs → Scanned σ (c ∷ cs)
  own_scanned σ c cs g h e r = ⊎_elim
      (λ w. inl (worked_gains σ (go σ c) cs w r))
      (λ w. stills_scanned σ c cs g (wait_stills σ c g e w) r)
      (F.own σ c g h e)

  more : (σ : State) (c : Call) (cs : List Call) → Good σ → Good (go σ c) → (o : Option ℕ) → who σ c ≡ o
      → Scanned (go σ c) cs → Scanned σ (c ∷ cs)
  more σ c cs g h none e r = stills_scanned σ c cs g (quiet_stills σ c g h e) r
  more σ c cs g h (some j) e r = elim (ℕ_discrete j q) [
    | yes y ↦ own_scanned σ c cs g h (e ∙ ap some y) r
    | no n ↦ stills_scanned σ c cs g (other_stills σ c j g h e n) r
  ]

  calm_none : (σ : State) → Good σ → Calm σ []
  calm_none σ g = record {
    ease = (omega arith, λ i. omega arith);
    held = λ i h. (F.owes_busy σ g i h).0;
    paid = λ i h t. absurd t;
    shown = λ t. absurd t;
  }

  scan : (σ : State) (cs : List Call) → Along go Good σ cs → Scanned σ cs
  scan σ [] g = inr (calm_none σ g)
  scan σ (c ∷ cs) g =
      more σ c cs g.0 (along_here go Good (go σ c) cs g.1) (who σ c) refl (scan (go σ c) cs g.1)

  -- ---- a window: calls that have a step of each session busy throughout them
  module _ (σ : State) (cs : List Call) (good : Along go Good σ cs)
      (fair : Serves go who Busy σ cs) where
    calm_lower : Calm σ cs → (d : ℕ) → Level left owes (suc d) σ → Level left owes d (after go σ cs)
    calm_lower c d l i = elim (dec_lt 0 (owes (after go σ cs) i)) [
      | yes h ↦ omega (arith, l i, c.paid i h (fair i (c.held i h)))
      | no h ↦ omega arith
    ]

    calm_gains : Calm σ cs → Gains σ (after go σ cs)
    calm_gains c zero l =
        let n = c.shown (fair q (along_map go Good (λ x. Busy x q) F.open_busy σ cs good)) in
        absurd (omega (arith, n.1, l n.0))
    calm_gains c (suc d) l = (d, calm_lower c d l, omega (arith, c.ease.0))

    window : Gains σ (after go σ cs)
    window = ⊎_elim (λ a. a) calm_gains (scan σ cs good)

  -- ---- fewer than `w` times what is left and the level, together
  pub bound : (w m : ℕ) (σ : State) (cs : List Call) → Along go Good σ cs → Fair go who Busy w σ cs
      → (d : ℕ) → Level left owes d σ → left σ + d ≤ m → steps go who σ cs < w * m
  bound w zero σ cs g f d l h = absurd (omega (arith, F.open_left σ (along_here go Good σ cs g)))
  bound w (suc m) σ cs g f d l h = elim (dec_lt (steps go who σ cs) w) [
    | yes k ↦ omega (arith, mul-suc w m)
    | no k ↦
        let s = divide go who cs w σ (omega arith) in
        let a : Along go Good σ (s.front ++ s.rest) = subst (Along go Good σ) s.whole g in
        let now = f [] s.front s.rest s.whole s.many in
        let n = window σ s.front (along_front go Good σ s.front s.rest a) now d l in
        let later = bound w m (after go σ s.front) s.rest (along_rest go Good σ s.front s.rest a)
        (fair_rest go who Busy w σ cs s.front s.rest s.whole f) n.0 n.1 (omega (arith, n.2)) in
        omega (arith, mul-suc w m, s.sum, later)
  ]

  pub ends : (w m : ℕ) (σ : State) (cs : List Call) → Along go Good σ cs → Fair go who Busy w σ cs
      → (d : ℕ) → Level left owes d σ → left σ + d < m → suc (steps go who σ cs) < w * m
  ends w m σ cs g f d l h =
      last_too w (left σ + d) m (steps go who σ cs) (bound w (left σ + d) σ cs g f d l (omega arith)) h
