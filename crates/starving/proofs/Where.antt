-- Calls while something holds of the states: what is said of them in one way is said in another, the same there.
-- In order: along calls; fair calls; open or ended, with a bound that is no less.
-- Assumes nothing.
use Prim.Native.Nat.{ℕ, ◌≤◌}
use mathlib.Core.Logic.{inl, inr}
use mathlib.Core.Option.{Option}
use mathlib.Core.List.{List, ◌∷◌, ◌++◌}
use native.Mathlib.Omega.{arith}
use Rattle.fairness.specs.Calls.{after, Along, FairWhile, Ended, OpenOrEnded}
use Rattle.fairness.proofs.Along.{along_here, along_last, along_map, along_both, along_front, along_rest}

module _ {State Call : Type 0} (go : State → Call → State) (who : State → Call → Option ℕ)
    (Good : State → Type 0) where
  pub along_where : (P Q : State → Type 0) → ((σ : State) → Good σ → P σ → Q σ) → (σ : State) (cs : List Call)
      → Along go Good σ cs → Along go P σ cs → Along go Q σ cs
  along_where P Q f σ cs good a =
      along_map go (λ x. Good x × P x) Q (λ x b. f x b.0 b.1) σ cs (along_both go Good P σ cs good a)

  -- ---- fair calls: asked of no more states, with no more sessions busy
  module _ (Open Open' : State → Type 0) (Busy Busy' : State → ℕ → Type 0)
      (back : (σ : State) → Good σ → Open' σ → Open σ)
      (busy : (σ : State) → Good σ → (i : ℕ) → Busy' σ i → Busy σ i) where
    pub fair_where : (w : ℕ) (σ : State) (cs : List Call) → Along go Good σ cs → FairWhile go who Open Busy w σ cs
        → FairWhile go who Open' Busy' w σ cs
    fair_where w σ cs good fair lived later e still before row rest e₂ count i throughout =
        let there = along_front go Good σ lived later (rw e at good) in
        let τ = after go σ before in
        let here = along_front go Good τ row rest (along_rest go Good σ before (row ++ rest) (rw e₂ at there)) in
        fair lived later e (along_where Open' Open back σ lived there still) before row rest e₂ count i
        (along_where (λ x. Busy' x i) (λ x. Busy x i) (λ x g. busy x g i) τ row here throughout)

  -- ---- open or ended
  module _ (Open Open' : State → Type 0) (most most' : State → ℕ)
      (on : (σ : State) → Good σ → Open σ → Open' σ) (back : (σ : State) → Good σ → Open' σ → Open σ)
      (under : (σ : State) → Good σ → most σ ≤ most' σ) where
    module _ (σ : State) (cs : List Call) (good : Along go Good σ cs) where
      good_lived : (d : Ended go Open σ cs) → Along go Good σ d.lived
      good_lived d = along_front go Good σ d.lived (d.last ∷ d.later) (rw d.whole at good)

      good_behind : (d : Ended go Open σ cs) → Good (go (after go σ d.lived) d.last)
      good_behind d = along_here go Good _ d.later
          (along_rest go Good σ d.lived (d.last ∷ d.later) (rw d.whole at good)).1

      abbrev ended_where : Ended go Open σ cs → Ended go Open' σ cs
      ended_where d = record {
        lived = d.lived;
        last = d.last;
        later = d.later;
        whole = d.whole;
        open_till = along_where Open Open' on σ d.lived (good_lived d) d.open_till;
        shut = λ o. d.shut (back _ (good_behind d) o);
      }

      pub open_or_ended_where : OpenOrEnded go Open who most σ cs → OpenOrEnded go Open' who most' σ cs
      open_or_ended_where (inl (still, few)) = inl (
        along_where Open Open' on σ cs good still,
        omega (arith, few, under (after go σ cs) (along_last go Good σ cs good)),
      )
      open_or_ended_where (inr (d, few)) = inr (
        ended_where d,
        omega (
          arith,
          few,
          under (after go σ d.lived) (along_last go Good σ d.lived (good_lived d)),
        ),
      )
