-- Link and Finish keep the list's own.
-- In order: the mark; Link; Finish.
-- Assumes nothing.
use mathlib.Core.Path.{◌≡◌, refl, sym, ◌∙◌, ap}
use mathlib.Core.Logic.{inl, inr, ⊎_elim, ◌≢◌}
use mathlib.Core.Bool.{Bool, true, true≢false}
use mathlib.Core.Option.{none, some}
use mathlib.Core.List.{[], ◌∷◌}
use Prim.Native.Nat.{ℕ, ◌<◌}
use native.Mathlib.Omega.{arith}
use Rattle.order.specs.Set.{Update, insert, remove}
use Rattle.order.specs.Rows.{Row}
use Rattle.order.specs.History.{tail, Start}
use Rattle.order.proofs.Rows.{none_some, some_same}
use Rattle.drawing.specs.Phases.{Phase, idle, linking, finishing, pred_target, node_target, OfRemove}
use Rattle.drawing.specs.Drawing.{final, pending, Drawing}
use Rattle.drawing.specs.Effects.{marked, links, finishes, after}
use Rattle.drawing.proofs.Change.{change_cases, change_same, change_other, pair_cases, pair_other}
use Rattle.drawing.proofs.Change.{without_none, without_some, without_other, final_pending, one_owner, one_row}
use Rattle.drawing.proofs.Change.{final_same}
use Rattle.drawing.proofs.Inv.{At, Two, Coupled, Sound, Dated, Facts, Inv, Mine, Rely}
use Rattle.drawing.proofs.Inv.{Grant}
use Rattle.drawing.proofs.Stable.{of_remove, of_remove_map}

-- ---- the mark changes only at a remove's node
pub marked_other : (u : Update) (y : ℕ) (gone : ℕ → Bool) (x : ℕ) → OfRemove u (x ≢ y) → marked u y gone x ≡ gone x
marked_other (insert k v) y gone x n = refl
marked_other (remove k) y gone x n = change_other gone y _ x n

pub marked_here : (k y : ℕ) (gone : ℕ → Bool) → marked (remove k) y gone y ≡ true
marked_here k y gone = change_same gone y true

-- ---- what is held is sound
pub held_sound : (key val : ℕ → ℕ) (start : Start) (m : Drawing) (u : Update) (p y x : ℕ) →
    Sound key val start m u p y → Two u p y x → Coupled key val start m x
held_sound key val start m (insert k v) p y x s h = rw h s.pred
held_sound key val start m (remove k) p y x s h = ⊎_elim (λ e. rw e s.pred) (λ e. rw e s.node) h

module _ (key val : ℕ → ℕ) (start : Start) (t : ℕ) (m : Drawing) (I : Inv key val start m) where
  module _ (u : Update) (p y z c n : ℕ) where
    -- ---- Link
    module _ (F : Facts key val start m t (linking u p y z c n)) where
      abbrev φ : Phase
      φ = finishing u p y z c n

      abbrev m' : Drawing
      m' = after start m t (links u p y z) φ

      -- another's node is neither
      other : (w x : ℕ) → w ≢ t → Mine key val start m w x → (x ≢ p) × OfRemove u (x ≢ y)
      other w x w≢t (inl l) = (
        λ e. w≢t (some_same (rw e at l) F.0.lock_p),
        of_remove_map u (λ l₂ e. w≢t (some_same (rw e at l) l₂)) F.0.lock_y,
      )
      other w x w≢t (inr b) = (
        λ e. w≢t (one_owner (m.bundle p) w b.0 b.1 b.2 t c _ _ (rw e at b.3) F.1.pend_p),
        of_remove u
            (λ e. w≢t (one_owner (m.bundle y) w b.0 b.1 b.2 t c _ _ (rw e at b.3) F.1.pend_y)),
      )

      -- a free node is neither
      loose : (x : ℕ) → m.lock x ≡ none → (x ≢ p) × OfRemove u (x ≢ y)
      loose x l = (
        λ e. none_some (m.lock p) t (rw e at l) F.0.lock_p,
        of_remove_map u (λ l₂ e. none_some (m.lock y) t (rw e at l) l₂) F.0.lock_y,
      )

      link_coupled : (x : ℕ) → (x ≢ p) × OfRemove u (x ≢ y) → Coupled key val start m x → Coupled key val start m' x
      link_coupled x d coupled on stays =
          let a = coupled on (sym (marked_other u y m.gone x d.1) ∙ stays) in
          (a.0, a.1 ∙ ap some (sym (change_other m.plain p (pred_target u y z) x d.0)))

      -- a removed node is marked, so nothing is asked of it
      link_node : (w : Update) → marked u y m.gone ≡ marked w y m.gone → OfRemove w (Coupled key val start m' y)
      link_node (insert k v) e = tt
      link_node (remove k) e = λ on stays.
          absurd (true≢false (sym (ap (λ g. g y) e ∙ marked_here k y m.gone) ∙ stays))

      link_rely : (w : ℕ) → w ≢ t → Rely key val start w m m'
      link_rely w w≢t = record {
        since = refl;
        stamp = omega arith;
        on = λ x o. o;
        locks = λ x l. l;
        pends = λ x a g r b. b;
        kept = λ x mine. let d = other w x w≢t mine in record {
          plain = change_other m.plain p (pred_target u y z) x d.0;
          gone = marked_other u y m.gone x d.1;
          row = refl;
          leads = refl;
          stays = λ i. i;
          unnamed = λ o. o;
        };
        past = λ s _. (refl, refl);
      }

      link_facts : Facts key val start m' t φ
      link_facts = (
        record { lock_p = F.0.lock_p; lock_y = F.0.lock_y },
        record {
          pred = λ on stays.
              (F.2.pred_in, F.2.pred_lead ∙ ap some (sym (change_same m.plain p (pred_target u y z))));
          node = link_node u refl;
        },
        record {
          row_p = F.1.row_p;
          row_y = F.1.row_y;
          pend_p = F.1.pend_p;
          pend_y = F.1.pend_y;
          rows_p = F.1.rows_p;
          rows_y = F.1.rows_y;
          carried = F.1.carried;
          distinct = F.1.distinct;
        },
        record {
          it = F.3.it;
          this = F.3.this;
          there = F.3.there;
          late = F.3.late;
          in_log = F.3.in_log;
          was = F.3.was;
        },
      )

      link_grant : m.phase t ≡ linking u p y z c n → Grant key val start t m m'
      link_grant e = record {
        others = link_rely;
        apart = λ w w≢t. record {
          phase = change_other m.phase t _ w w≢t;
          locks = λ x l. l;
          pends = λ x a g r b. b;
        };
        once = I.own.once;
        links = λ x o. change_cases (λ q. (key x < key q) × At start m q) m.plain p (pred_target u y z) x
            (λ q. rw q (F.2.rise, F.2.target)) (λ _. I.own.links x o);
        free = λ x l. link_coupled x (loose x l) (I.own.free x l);
        held = λ x l. let a = I.own.held t x l in (rw (change_same m.phase t φ) (rw e at a.0), a.1);
        settled = I.own.settled;
        owned = λ x a g r b. rw (change_same m.phase t φ) (rw e at (I.own.owned t x a g r b));
        ends = I.own.ends;
        begun = I.own.begun t;
        facts = rw (change_same m.phase t φ) link_facts;
      }

    pub link_grants : m.phase t ≡ linking u p y z c n →
        Grant key val start t m (after start m t (links u p y z) (finishing u p y z c n))
    link_grants e = link_grant (rw e at (I.own.facts t)) e

    -- ---- Finish
    module _ (r r₂ : Row) (bp : m.bundle p ≡ pending t c (pred_target u y z) r)
        (by : m.bundle y ≡ pending t c (node_target u y z) r₂) where
      abbrev m₂ : Drawing
      m₂ = after start m t (finishes u p y z n r r₂) idle

      -- what has another's pending entry is neither node
      not_ours : (w x a g : ℕ) (r₃ : Row) → w ≢ t → m.bundle x ≡ pending w a g r₃ → (x ≢ p) × (x ≢ y)
      not_ours w x a g r₃ w≢t b = (
        λ e. w≢t (one_owner (m.bundle p) w a g r₃ t c _ _ (rw e at b) bp),
        λ e. w≢t (one_owner (m.bundle y) w a g r₃ t c _ _ (rw e at b) by),
      )

      -- what is pending after it was so before, and is neither node
      still_pending : (w x a g : ℕ) (r₃ : Row) → m₂.bundle x ≡ pending w a g r₃ →
          (m.bundle x ≡ pending w a g r₃) × (x ≢ y) × (x ≢ p)
      still_pending w x a g r₃ =
          pair_cases (λ b. b ≡ pending w a g r₃ → (m.bundle x ≡ pending w a g r₃) × (x ≢ y) × (x ≢ p))
          m.bundle p y _ _ x
          (λ _ b. final_pending _ w a g _ r₃ refl b) (λ _ _ b. final_pending _ w a g _ r₃ refl b)
          (λ x≢y x≢p b. (b, x≢y, x≢p))

      finish_rely : (w : ℕ) → w ≢ t → Rely key val start w m m₂
      finish_rely w w≢t = record {
        since = refl;
        stamp = omega arith;
        on = λ x o. o;
        locks = λ x l. without_other t (m.lock x) w w≢t l;
        pends = λ x a g r₃ b. let d = not_ours w x a g r₃ w≢t b in pair_other m.bundle p y _ _ x d.0 d.1 ∙ b;
        kept = λ x _. record { plain = refl; gone = refl; row = refl; leads = refl; stays = λ i. i; unnamed = λ o. o };
        past = λ s _. (refl, refl);
      }

      finish_settled : Dated key val start m t u p y z c n → (x : ℕ) (r₃ : Row) → m₂.bundle x ≡ final r₃ →
          m.rows x ≡ r₃
      finish_settled D x r₃ =
          pair_cases (λ b. b ≡ final r₃ → m.rows x ≡ r₃) m.bundle p y _ _ x
          (λ x≡y b. ap m.rows x≡y ∙ D.rows_y
          ∙ ap (λ l. (n, node_target u y z) ∷ l) (one_row (m.bundle y) t c _ _ t c _ _ D.pend_y by) ∙ final_same b)
          (λ _ x≡p b. ap m.rows x≡p ∙ D.rows_p
          ∙ ap (λ l. (n, pred_target u y z) ∷ l) (one_row (m.bundle p) t c _ _ t c _ _ D.pend_p bp) ∙ final_same b)
          (λ _ _ b. I.own.settled x r₃ b)

      finish_grant : Facts key val start m t (finishing u p y z c n) → m.phase t ≡ finishing u p y z c n →
          Grant key val start t m m₂
      finish_grant F e = record {
        others = finish_rely;
        apart = λ w w≢t. record {
          phase = change_other m.phase t _ w w≢t;
          locks = λ x l. (without_some t (m.lock x) w l).0;
          pends = λ x a g r₃ b. (still_pending w x a g r₃ b).0;
        };
        once = I.own.once;
        links = I.own.links;
        free = λ x l. ⊎_elim (I.own.free x)
            (λ k. held_sound key val start m u p y x F.1 (rw e at (I.own.held t x k).0))
            (without_none t (m.lock x) l);
        held = λ x l. absurd ((without_some t (m.lock x) t l).1 refl);
        settled = finish_settled F.2;
        owned = λ x a g r₃ b. let s = still_pending t x a g r₃ b in
            absurd (⊎_elim s.2 s.1 (rw e at (I.own.owned t x a g r₃ s.0)));
        ends = pair_other m.bundle p y _ _ tail
            (λ q. final_pending (m.bundle p) t c _ [] r (rw q at I.own.ends) bp)
            (λ q. final_pending (m.bundle y) t c _ [] r₂ (rw q at I.own.ends) by) ∙ I.own.ends;
        begun = I.own.begun t;
        facts = rw (change_same m.phase t idle) tt;
      }

      pub finish_grants : m.phase t ≡ finishing u p y z c n →
          Grant key val start t m (after start m t (finishes u p y z n r r₂) idle)
      finish_grants e = finish_grant (rw e at (I.own.facts t)) e
