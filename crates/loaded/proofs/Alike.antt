-- Two histories that tell the same of what is under way go on telling the same.
-- In order: an operation under way behind a call was so before it, or the call began it; one place of two tables;
-- stamps at the start; keys handed out; a call.
-- Not here: which histories are alike (Made). Assumes nothing.
use Prim.Native.Nat.{ℕ}
use mathlib.Core.Path.{◌≡◌, refl, sym, ◌∙◌, ap, subst}
use mathlib.Core.Logic.{◌⊎◌, inl, inr, ⊎_elim, ◌≢◌}
use mathlib.Core.List.{List, [], ◌∷◌, ◌++◌}
use native.Mathlib.Decide.{ℕ_discrete}
use Rattle.order.specs.Set.{Pair}
use Rattle.terms.specs.Terms.{small}
use Rattle.terms.specs.declared.Op.{Op}
use Rattle.terms.specs.declared.Refusal.{Refusal}
use Rattle.terms.specs.declared.Answer.{Answer}
use Rattle.sixteen.specs.declared.Call.{Call}
use Rattle.reached.specs.Reached.{State, stamp_of, who_of, asked_of, answer, Past, at, under_by, since_by, handed_by}
use Rattle.reached.specs.Reached.{note}
use Rattle.reached.proofs.History.{at_same, at_other}
use Rattle.loaded.specs.Made.{Alike}

-- ---- under way before it, or begun by it
abbrev Before : Answer → (t w : ℕ) → (ℕ → Op) → Type 0
Before a t w f = (f w ≢ Op.None) ⊎ ((a ≡ Answer.Started) × (w ≡ t))

ended : (a : Answer) (t : ℕ) (f : ℕ → Op) (w : ℕ) → at f t Op.None w ≢ Op.None → Before a t w f
ended a t f w some_op = elim (ℕ_discrete w t) [
  | yes e ↦ absurd (some_op (ap (at f t Op.None) e ∙ at_same f t Op.None))
  | no other ↦ inl (λ z. some_op (at_other f t Op.None w other ∙ z))
]

began : (t : ℕ) (op : Op) (f : ℕ → Op) (w : ℕ) → at f t op w ≢ Op.None → Before Answer.Started t w f
began t op f w some_op = elim (ℕ_discrete w t) [
  | yes e ↦ inr (refl, e)
  | no other ↦ inl (λ z. some_op (at_other f t op w other ∙ z))
]

before : (a : Answer) (t : ℕ) (op : Op) (f : ℕ → Op) (w : ℕ) → under_by a t op f w ≢ Op.None → Before a t w f
before Answer.Started t op f w p = began t op f w p
before Answer.Working t op f w p = inl p
before Answer.Waiting t op f w p = inl p
before (Answer.Key k v) t op f w p = inl p
before (Answer.Inserted n) t op f w p = ended _ t f w p
before (Answer.Removed n) t op f w p = ended _ t f w p
before Answer.Present t op f w p = ended _ t f w p
before Answer.Absent t op f w p = ended _ t f w p
before (Answer.End s n) t op f w p = ended _ t f w p
before (Answer.Refused Refusal.BadSession) t op f w p = inl p
before (Answer.Refused Refusal.Busy) t op f w p = inl p
before (Answer.Refused Refusal.BadKey) t op f w p = inl p
before (Answer.Refused Refusal.BadRange) t op f w p = inl p
before (Answer.Refused Refusal.Idle) t op f w p = inl p
before (Answer.Refused Refusal.Full) t op f w p = ended _ t f w p
before (Answer.Refused Refusal.BadTable) t op f w p = inl p
before (Answer.Refused Refusal.Damaged) t op f w p = inl p

-- ---- one place of two tables
at_both : {A : Type 0} (f g : ℕ → A) (t : ℕ) (a b : A) (w : ℕ) → (w ≡ t → a ≡ b) → (w ≢ t → f w ≡ g w)
    → at f t a w ≡ at g t b w
at_both f g t a b w here there = elim (ℕ_discrete w t) [
  | yes e ↦ ap (at f t a) e ∙ at_same f t a ∙ here e ∙ sym (ap (at g t b) e ∙ at_same g t b)
  | no other ↦ at_other f t a w other ∙ there other ∙ sym (at_other g t b w other)
]

at_begun : {A : Type 0} (f g : ℕ → A) (t : ℕ) (a : A) (w : ℕ) → w ≡ t → at f t a w ≡ at g t a w
at_begun f g t a w e = at_both f g t a a w (λ _. refl) (λ other. absurd (other e))

-- ---- stamps at the start
since_same : (a : Answer) (t s : ℕ) (f g : ℕ → ℕ) (w : ℕ) → f w ≡ g w → since_by a t s f w ≡ since_by a t s g w
since_same Answer.Started t s f g w e = at_both f g t s s w (λ _. refl) (λ _. e)
since_same Answer.Working t s f g w e = e
since_same Answer.Waiting t s f g w e = e
since_same (Answer.Key k v) t s f g w e = e
since_same (Answer.Inserted n) t s f g w e = e
since_same (Answer.Removed n) t s f g w e = e
since_same Answer.Present t s f g w e = e
since_same Answer.Absent t s f g w e = e
since_same (Answer.End r n) t s f g w e = e
since_same (Answer.Refused why) t s f g w e = e

-- ---- keys handed out
handed_same : (a : Answer) (t : ℕ) (f g : ℕ → List Pair) (w : ℕ) → f w ≡ g w → handed_by a t f w ≡ handed_by a t g w
handed_same Answer.Started t f g w e = at_both f g t [] [] w (λ _. refl) (λ _. e)
handed_same Answer.Working t f g w e = e
handed_same Answer.Waiting t f g w e = e
handed_same (Answer.Key k v) t f g w e = at_both f g t _ _ w
    (λ d. ap (λ l. l ++ ((k, v) ∷ [])) (subst (λ x. f x ≡ g x) d e)) (λ _. e)
handed_same (Answer.Inserted n) t f g w e = e
handed_same (Answer.Removed n) t f g w e = e
handed_same Answer.Present t f g w e = e
handed_same Answer.Absent t f g w e = e
handed_same (Answer.End r n) t f g w e = e
handed_same (Answer.Refused why) t f g w e = e

-- ---- A CALL
module _ (σ : State) (c : Call) (h k : Past) (A : Alike h k) where
  abbrev a : Answer
  a = answer small σ c

  abbrev Busy : ℕ → Type 0
  Busy w = (note small σ c k).under w ≢ Op.None

  alike_updates : (note small σ c h).updates ≡ (note small σ c k).updates
  alike_updates = rw (A.updates, A.under) refl

  alike_since : (w : ℕ) → Busy w → (note small σ c h).since w ≡ (note small σ c k).since w
  alike_since w busy = ⊎_elim
      (λ some_op. since_same a (who_of c) (stamp_of σ) h.since k.since w (A.since w some_op))
      (λ b. subst (λ x. since_by x (who_of c) (stamp_of σ) h.since w ≡ since_by x (who_of c) (stamp_of σ) k.since w)
      (sym b.0) (at_begun h.since k.since (who_of c) (stamp_of σ) w b.1))
      (before a (who_of c) (asked_of c) k.under w busy)

  alike_handed : (w : ℕ) → Busy w → (note small σ c h).handed w ≡ (note small σ c k).handed w
  alike_handed w busy = ⊎_elim
      (λ some_op. handed_same a (who_of c) h.handed k.handed w (A.handed w some_op))
      (λ b. subst (λ x. handed_by x (who_of c) h.handed w ≡ handed_by x (who_of c) k.handed w)
      (sym b.0) (at_begun h.handed k.handed (who_of c) [] w b.1))
      (before a (who_of c) (asked_of c) k.under w busy)

  pub alike_on : Alike (note small σ c h) (note small σ c k)
  alike_on = record {
    updates = alike_updates;
    under = ap (under_by a (who_of c) (asked_of c)) A.under;
    since = alike_since;
    handed = alike_handed;
  }
