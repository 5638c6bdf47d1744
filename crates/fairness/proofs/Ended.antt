-- From "not so long while it is open" to "it has ended by then".
-- In order: the call that ends; the bound turned round.
-- Not here: the bound. Assumes nothing.
use mathlib.Core.Path.{refl, sym, ap}
use mathlib.Core.Logic.{◌⊎◌, inl, inr, ⊎_elim}
use mathlib.Core.Option.{Option}
use mathlib.Core.List.{List, [], ◌∷◌, append-nil}
use Prim.Native.Nat.{ℕ, suc, ◌≤◌, ◌<◌}
use native.Mathlib.Omega.{arith}
use Rattle.fairness.specs.Calls.{after, Along, steps, Fair, FairWhile, Ended, OpenOrEnded}
use Rattle.fairness.proofs.Along.{fair_front}

module _ {State Call : Type 0} (go : State → Call → State) (Open : State → Type 0)
    (dec : (σ : State) → Dec (Open σ)) where
  ended_here : (σ : State) (c : Call) (cs : List Call) → Open σ → ¬ Open (go σ c) → Ended go Open σ (c ∷ cs)
  ended_here σ c cs o n =
      record { lived = []; last = c; later = cs; whole = refl; open_till = o; shut = n }

  ended_later : (σ : State) (c : Call) (cs : List Call) → Open σ → Ended go Open (go σ c) cs
      → Ended go Open σ (c ∷ cs)
  ended_later σ c cs o d = record {
    lived = c ∷ d.lived;
    last = d.last;
    later = d.later;
    whole = ap (λ l. c ∷ l) d.whole;
    open_till = (o, d.open_till);
    shut = d.shut;
  }

  pub first_end : (σ : State) (cs : List Call) → Open σ → Along go Open σ cs ⊎ Ended go Open σ cs
  first_end σ [] o = inl o
  first_end σ (c ∷ cs) o = elim (dec (go σ c)) [
    | yes p ↦ ⊎_elim (λ a. inl (o, a)) (λ d. inr (ended_later σ c cs o d)) (first_end (go σ c) cs p)
    | no n ↦ inr (ended_here σ c cs o n)
  ]

  -- ---- from a bound on the time that it is open
  module _ (who : State → Call → Option ℕ) (Busy : State → ℕ → Type 0) (w : ℕ) (most : State → ℕ) (σ : State)
      (below : (cs : List Call) → Along go Open σ cs → Fair go who Busy w σ cs
      → suc (steps go who σ cs) < most (after go σ cs))
      (here : Open σ) (cs : List Call) (fair : FairWhile go who Open Busy w σ cs) where
    pub open_or_ended : OpenOrEnded go Open who most σ cs
    open_or_ended = ⊎_elim
        (λ a. inl (a, below cs a (fair cs [] (sym (append-nil cs)) a)))
        (λ d. inr (
          d,
          below d.lived d.open_till
              (fair d.lived (d.last ∷ d.later) d.whole d.open_till),
        ))
        (first_end σ cs here)

    -- by the time that the bound is reached it has ended
    pub has_ended : most (after go σ cs) ≤ suc (steps go who σ cs) → Ended go Open σ cs
    has_ended h = ⊎_elim (λ a. absurd (omega (arith, a.1))) (λ d. d.0) open_or_ended

-- calls that are fair throughout are fair while it is open
pub fair_while : {State Call : Type 0} (go : State → Call → State) (who : State → Call → Option ℕ)
    (Open : State → Type 0) (Busy : State → ℕ → Type 0) (w : ℕ) (σ : State) (cs : List Call)
    → Fair go who Busy w σ cs → FairWhile go who Open Busy w σ cs
fair_while go who Open Busy w σ cs f lived later e a = fair_front go who Busy w σ cs lived later e f
