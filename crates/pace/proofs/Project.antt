-- States that show more than is asked: what holds of the calls above holds of the calls below.
-- Above are states `S` (a register, say, with a drawing that it shows); below are states `T` (the register alone); `p`
-- forgets. In order: after and along calls; counted steps; fair calls; open or ended.
-- Assumes nothing.
use mathlib.Core.Path.{◌≡◌, refl, sym, ◌∙◌, ap, subst}
use mathlib.Core.Logic.{inl, inr, ⊎_map}
use mathlib.Core.Option.{Option}
use mathlib.Core.List.{List, [], ◌∷◌}
use Prim.Native.Nat.{ℕ, ◌+◌}
use native.Mathlib.Omega.{arith}
use Rattle.fairness.specs.Calls.{tell, after, Along, steps, Takes, FairWhile, Ended, OpenOrEnded}

module _ {S T Call : Type 0} (above : S → Call → S) (below : T → Call → T) (p : S → T)
    (same : (σ : S) (c : Call) → p (above σ c) ≡ below (p σ) c) where
  -- ---- after and along calls
  pub after_project : (σ : S) (cs : List Call) → p (after above σ cs) ≡ after below (p σ) cs
  after_project σ [] = refl
  after_project σ (c ∷ cs) = after_project (above σ c) cs ∙ ap (λ t. after below t cs) (same σ c)

  pub along_down : (P : T → Type 0) (σ : S) (cs : List Call) → Along above (λ x. P (p x)) σ cs → Along below P (p σ) cs
  along_down P σ [] a = a
  along_down P σ (c ∷ cs) a =
      (a.0, subst (λ t. Along below P t cs) (same σ c) (along_down P (above σ c) cs a.1))

  pub along_up : (P : T → Type 0) (σ : S) (cs : List Call) → Along below P (p σ) cs → Along above (λ x. P (p x)) σ cs
  along_up P σ [] a = a
  along_up P σ (c ∷ cs) a =
      (a.0, along_up P (above σ c) cs (subst (λ t. Along below P t cs) (sym (same σ c)) a.1))

  -- ---- counted steps
  module _ (who : T → Call → Option ℕ) where
    abbrev whose : S → Call → Option ℕ
    whose σ c = who (p σ) c

    pub steps_project : (σ : S) (cs : List Call) → steps above whose σ cs ≡ steps below who (p σ) cs
    steps_project σ [] = refl
    steps_project σ (c ∷ cs) = ap (λ n. tell (who (p σ) c) + n)
        (steps_project (above σ c) cs ∙ ap (λ t. steps below who t cs) (same σ c))

    takes_up : (i : ℕ) (σ : S) (cs : List Call) → Takes below who i (p σ) cs → Takes above whose i σ cs
    takes_up i σ [] k = k
    takes_up i σ (c ∷ cs) k = ⊎_map (λ e. e)
        (λ l. takes_up i (above σ c) cs (subst (λ t. Takes below who i t cs) (sym (same σ c)) l)) k

    -- ---- fair calls below are fair above
    module _ (Open : T → Type 0) (Busy : T → ℕ → Type 0) where
      pub fair_up : (w : ℕ) (σ : S) (cs : List Call) → FairWhile below who Open Busy w (p σ) cs →
          FairWhile above whose (λ x. Open (p x)) (λ x. Busy (p x)) w σ cs
      fair_up w σ cs fair lived later e still before row rest e₂ count i busy =
          let τ = after above σ before in
          let there : p τ ≡ after below (p σ) before = after_project σ before in
          let counted : steps below who (after below (p σ) before) row ≡ w =
          ap (λ t. steps below who t row) (sym there) ∙ sym (steps_project τ row) ∙ count in
          let throughout = subst (λ t. Along below (λ x. Busy x i) t row) there
          (along_down (λ x. Busy x i) τ row busy) in
          let taken = fair lived later e (along_down Open σ lived still) before row rest e₂ counted i throughout in
          takes_up i τ row (subst (λ t. Takes below who i t row) (sym there) taken)

      -- ---- open or ended above is so below
      abbrev ended_down : (σ : S) (cs : List Call) → Ended above (λ x. Open (p x)) σ cs → Ended below Open (p σ) cs
      ended_down σ cs d = record {
        lived = d.lived;
        last = d.last;
        later = d.later;
        whole = d.whole;
        open_till = along_down Open σ d.lived d.open_till;
        shut = λ o. d.shut (subst Open (sym (same (after above σ d.lived) d.last
            ∙ ap (λ t. below t d.last) (after_project σ d.lived))) o);
      }

      pub open_or_ended_down : (most : T → ℕ) (σ : S) (cs : List Call) →
          OpenOrEnded above (λ x. Open (p x)) whose (λ x. most (p x)) σ cs → OpenOrEnded below Open who most (p σ) cs
      open_or_ended_down most σ cs (inl (still, few)) = inl (
        along_down Open σ cs still,
        omega (arith, few, steps_project σ cs, ap most (after_project σ cs)),
      )
      open_or_ended_down most σ cs (inr (d, few)) = inr (
        ended_down σ cs d,
        omega (arith, few, steps_project σ d.lived, ap most (after_project σ d.lived)),
      )
