-- What calls do, put together: no calls, one call after the other, one call.
-- In order: calls after calls; going on; a call that numbers nothing, and one that numbers; reached registers.
-- Assumes nothing.
use Prim.Native.Nat.{ℕ, ◌<◌}
use mathlib.Core.Path.{◌≡◌, refl, ◌∙◌, ap}
use mathlib.Core.List.{List, [], ◌∷◌, ◌++◌, append_assoc}
use native.Mathlib.Omega.{arith}
use borrow.Author.Tests.{lt-ltb, le-ltb}
use Rattle.order.specs.Set.{Update, insert}
use Rattle.terms.specs.declared.Size.{Size}
use Rattle.terms.specs.declared.Answer.{Answer}
use Rattle.terms.specs.declared.Op.{Op}
use Rattle.sixteen.specs.declared.Call.{Call}
use Rattle.sixteen.specs.Sixteen.{Left}
use Rattle.fairness.specs.Calls.{after}
use Rattle.reached.specs.Reached.{State, stamp_of, op_of, who_of, state_in, answer_in, called, go, answer, Past, note}
use Rattle.reached.specs.Reached.{asked_of, under_by, Reached, on}
use Rattle.reached.specs.Fair.{AllInWords}
use Rattle.loaded.specs.Calls.{past_after, answers, Knows, Goes}

module _ (z : Size) where
  -- ---- calls after calls
  after_calls : (σ : State) (cs ds : List Call) → after (go z) σ (cs ++ ds) ≡ after (go z) (after (go z) σ cs) ds
  after_calls σ [] ds = refl
  after_calls σ (c ∷ cs) ds = after_calls (go z σ c) cs ds

  answers_calls : (σ : State) (cs ds : List Call) →
      answers z σ (cs ++ ds) ≡ answers z σ cs ++ answers z (after (go z) σ cs) ds
  unfolding answers
  answers_calls σ [] ds = refl
  answers_calls σ (c ∷ cs) ds = ap (λ rs. answer z σ c ∷ rs) (answers_calls (go z σ c) cs ds)

  past_calls : (σ : State) (cs ds : List Call) (h : Past) →
      past_after z σ (cs ++ ds) h ≡ past_after z (after (go z) σ cs) ds (past_after z σ cs h)
  unfolding past_after
  past_calls σ [] ds h = refl
  past_calls σ (c ∷ cs) ds h = past_calls (go z σ c) cs ds (note z σ c h)

  -- ---- going on
  pub goes_none : (σ : State) → Goes z σ [] σ [] []
  unfolding past_after answers
  goes_none σ = record { ends = refl; answered = refl; numbered = λ h k. refl; known = λ h k. k }

  pub goes_then : {σ τ υ : State} {cs ds : List Call} {rs qs : List Answer} {us ws : List Update} →
      Goes z σ cs τ rs us → Goes z τ ds υ qs ws → Goes z σ (cs ++ ds) υ (rs ++ qs) (ws ++ us)
  goes_then {σ} {τ} {υ} {cs} {ds} {rs} {qs} {us} {ws} first then = record {
    ends = rw (after_calls σ cs ds, first.ends) then.ends;
    answered = rw (answers_calls σ cs ds, first.ends, first.answered, then.answered);
    numbered = λ h k. rw (past_calls σ cs ds h, first.ends, append_assoc)
        (then.numbered (past_after z σ cs h) (first.known h k) ∙ ap (λ l. ws ++ l) (first.numbered h k));
    known = λ h k. rw (past_calls σ cs ds h, first.ends) (then.known (past_after z σ cs h) (first.known h k));
  }

  pub goes_as : {σ τ υ : State} {cs : List Call} {rs : List Answer} {us : List Update} → τ ≡ υ →
      Goes z σ cs τ rs us → Goes z σ cs υ rs us
  goes_as same goes = rw (← same) goes

  -- ---- one call: its answer tells what it leaves each session running
  abbrev pub Tells : State → Call → Left → Type 0
  Tells σ c l = (f : ℕ → Op) → ((who : ℕ) → f who ≡ op_of σ who) → (who : ℕ) →
      under_by (answer_in l) (who_of c) (asked_of c) f who ≡ op_of (state_in l) who

  module _ (σ : State) (c : Call) (l : Left) (told : called z σ c ≡ l) (tells : Tells σ c l) where
    one_call : (us : List Update) → ((h : Past) → Knows σ h → (note z σ c h).updates ≡ us ++ h.updates) →
        Goes z σ (c ∷ []) (state_in l) (answer_in l ∷ []) us
    unfolding past_after answers
    one_call us adds = record {
      ends = ap state_in told;
      answered = ap (λ x. answer_in x ∷ []) told;
      numbered = adds;
      known = λ h k who. ap (λ x. under_by (answer_in x) (who_of c) (asked_of c) h.under who) told ∙
          tells h.under k who;
    }

    pub quiet_call : stamp_of (state_in l) ≡ stamp_of σ → Goes z σ (c ∷ []) (state_in l) (answer_in l ∷ []) []
    quiet_call same = one_call [] (λ h _. rw (told, same, le-ltb (stamp_of σ) (stamp_of σ) (omega arith)))

    pub number_call : (k v : ℕ) → op_of σ (who_of c) ≡ Op.Insert k v → stamp_of σ < stamp_of (state_in l) →
        Goes z σ (c ∷ []) (state_in l) (answer_in l ∷ []) (insert k v ∷ [])
    number_call k v op up = one_call (insert k v ∷ []) (λ h knows. rw (told, lt-ltb _ _ up, knows (who_of c), op))

  -- ---- reached registers
  pub reached_after : (σ : State) (h : Past) (cs : List Call) → Reached z σ h → AllInWords cs →
      Reached z (after (go z) σ cs) (past_after z σ cs h)
  unfolding past_after
  reached_after σ h [] r w = r
  reached_after σ h (c ∷ cs) r w = reached_after (go z σ c) (note z σ c h) cs (on r c w.0) w.1
