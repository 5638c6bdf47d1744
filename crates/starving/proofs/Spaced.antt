-- Calls that a computed test finds fair: in no `w` counted steps in a row is a session left out that is busy
-- throughout them.
-- In order: the test, by the counted steps since the session's last; a row that has a step of it; what comes later.
-- Not here: which machine. Assumes nothing.
use Prim.Native.Nat.{ℕ, suc, ◌+◌, ◌≤◌, ◌<◌}
use mathlib.Core.Path.{◌≡◌, refl, ◌∙◌, ap}
use mathlib.Core.Logic.{inl, inr}
use mathlib.Core.Bool.{Bool, true, false, cond}
use mathlib.Core.Option.{Option, none, some}
use mathlib.Core.List.{List, [], ◌∷◌, ◌++◌}
use native.Mathlib.Decide.{dec_lt, ℕ_discrete}
use native.Mathlib.Omega.{arith}
use lib.Dec.{ltb, eqb}
use borrow.Author.Tests.{lt-ltb, le-ltb, ne_eqb}
use Rattle.fairness.specs.Calls.{tell, after, Along, steps, Takes}

pub true_false : {P : Type 0} → false ≡ true → P
true_false e = let z : ◌≡◌ {A = ℕ} 0 1 = cc in absurd (omega arith)

module _ {State Call : Type 0} (go : State → Call → State) (who : State → Call → Option ℕ)
    (busy : State → ℕ → Bool) (w : ℕ) where
  abbrev Busy : State → ℕ → Type 0
  Busy σ i = busy σ i ≡ true

  module _ (i : ℕ) where
    -- ---- the test: `gap` counted steps have passed since the session's last, or since it was not busy
    abbrev pub gap_by : Option ℕ → ℕ → ℕ
    gap_by none gap = gap
    gap_by (some j) gap = cond (eqb j i) 0 (suc gap)

    abbrev pub spaced : ℕ → State → List Call → Bool
    spaced gap σ [] = true
    spaced gap σ (c ∷ cs) = cond (busy σ i)
        (cond (ltb (gap_by (who σ c) gap) w) (spaced (gap_by (who σ c) gap) (go σ c) cs) false)
        (spaced 0 (go σ c) cs)

    -- a call of a busy session's time: the gap stays below
    on : (gap : ℕ) (σ : State) (cs : List Call) → cond (ltb gap w) (spaced gap σ cs) false ≡ true
        → (gap < w) × (spaced gap σ cs ≡ true)
    on gap σ cs e = elim (dec_lt gap w) [
      | yes h ↦ (h, rw (lt-ltb gap w h) at e)
      | no h ↦ true_false (rw (le-ltb gap w (omega arith)) at e)
    ]

    on_busy : (gap : ℕ) (σ : State) (c : Call) (cs : List Call) → Busy σ i → spaced gap σ (c ∷ cs) ≡ true
        → (gap_by (who σ c) gap < w) × (spaced (gap_by (who σ c) gap) (go σ c) cs ≡ true)
    on_busy gap σ c cs b e = on (gap_by (who σ c) gap) (go σ c) cs (rw b at e)

    -- ---- a row long enough has a step of it: with one call in front, by whose it is
    module _ (gap : ℕ) (σ : State) (c : Call) (row rest : List Call)
        (later : (g : ℕ) → spaced g (go σ c) (row ++ rest) ≡ true → w ≤ g + steps go who (go σ c) row → g < w
        → Takes go who i (go σ c) row) (many : w ≤ gap + (tell (who σ c) + steps go who (go σ c) row)) (less : gap < w)
      where
        front_takes : (o : Option ℕ) → who σ c ≡ o → gap_by (who σ c) gap < w
            → spaced (gap_by (who σ c) gap) (go σ c) (row ++ rest) ≡ true → Takes go who i σ (c ∷ row)
        front_takes none is few e = inr (later gap (rw is at e) (omega (arith, many, ap tell is)) less)
        front_takes (some j) is few e = elim (ℕ_discrete j i) [
          | yes j≡i ↦ inl (is ∙ ap some j≡i)
          | no j≢i ↦
              let gap' : gap_by (who σ c) gap ≡ suc gap = rw (is, ne_eqb j i j≢i) refl in
              inr (later (suc gap) (rw gap' at e) (omega (arith, many, ap tell is)) (omega (arith, few, gap')))
        ]

    row_takes : (gap : ℕ) (σ : State) (row rest : List Call) → spaced gap σ (row ++ rest) ≡ true
        → Along go (λ x. Busy x i) σ row → w ≤ gap + steps go who σ row → gap < w → Takes go who i σ row
    row_takes gap σ [] rest e b many less = absurd (omega arith)
    row_takes gap σ (c ∷ row) rest e b many less =
        let s = on_busy gap σ c (row ++ rest) b.0 e in
        front_takes gap σ c row rest (λ g e' many' less'. row_takes g (go σ c) row rest e' b.1 many' less')
        many less (who σ c) refl s.0 s.1

    -- ---- what comes later passes too
    abbrev Later : State → List Call → Type 0
    Later σ rest = (gap : ℕ) × (gap < w) × (spaced gap σ rest ≡ true)

    by_busy : 0 < w → (gap : ℕ) (σ : State) (c : Call) (cs : List Call) → spaced gap σ (c ∷ cs) ≡ true
        → (b : Bool) → busy σ i ≡ b → Later (go σ c) cs
    by_busy some_w gap σ c cs e true is =
        let s = on_busy gap σ c cs is e in (gap_by (who σ c) gap, s.0, s.1)
    by_busy some_w gap σ c cs e false is = (0, some_w, rw is at e)

    spaced_rest : 0 < w → (gap : ℕ) (σ : State) (before rest : List Call) → gap < w
        → spaced gap σ (before ++ rest) ≡ true → Later (after go σ before) rest
    spaced_rest some_w gap σ [] rest less e = (gap, less, e)
    spaced_rest some_w gap σ (c ∷ before) rest less e =
        let s = by_busy some_w gap σ c (before ++ rest) e (busy σ i) refl in
        spaced_rest some_w s.0 (go σ c) before rest s.1 s.2

    pub spaced_serves : 0 < w → (σ : State) (cs : List Call) → spaced 0 σ cs ≡ true → (before row rest : List Call)
        → cs ≡ before ++ (row ++ rest) → steps go who (after go σ before) row ≡ w
        → Along go (λ x. Busy x i) (after go σ before) row → Takes go who i (after go σ before) row
    spaced_serves some_w σ cs e before row rest whole many throughout =
        let s = spaced_rest some_w 0 σ before (row ++ rest) some_w (rw whole at e) in
        row_takes s.0 (after go σ before) row rest s.2 throughout (omega (arith, many)) s.1
