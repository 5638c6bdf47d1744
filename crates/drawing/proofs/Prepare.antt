-- Prepare keeps the list's own: two pending entries are laid, and no effective row changes.
-- In order: what laying grants, for both kinds; an insert's Prepare; a remove's.
-- Assumes nothing.
use mathlib.Core.List.{[]}
use mathlib.Core.Path.{◌≡◌, refl, sym, ◌∙◌, ap}
use mathlib.Core.Logic.{◌⊎◌, inl, inr, ⊎_elim, ◌≢◌}
use mathlib.Core.Bool.{false}
use mathlib.Core.Option.{some}
use Prim.Native.Nat.{ℕ}
use native.Mathlib.Omega.{arith}
use Rattle.order.specs.Set.{Update, insert, remove}
use Rattle.order.specs.Rows.{Row}
use Rattle.order.specs.History.{tail, Start}
use Rattle.order.proofs.Near.{row_given}
use Rattle.drawing.specs.Phases.{Phase, preparing, numbering}
use Rattle.drawing.specs.Drawing.{change, final, pending, Drawing, now}
use Rattle.drawing.specs.Effects.{new_plain, new_gone, lays, after}
use Rattle.drawing.proofs.Change.{change_same, change_other, pair_cases, pair_other, pair_first}
use Rattle.drawing.proofs.Change.{final_pending, one_owner}
use Rattle.drawing.proofs.Inv.{On, At, Two, Holds, Pends, Coupled, Laid, Facts, Inv, Rely, Grant}

module _ (key val : ℕ → ℕ) (start : Start) (t : ℕ) (m : Drawing) (I : Inv key val start m) where
  module _ (u : Update) (p y z : ℕ) (r r₂ : Row) (final_p : m.bundle p ≡ final r) (final_y : m.bundle y ≡ final r₂)
      (same : (x : ℕ) → (x ≢ y) ⊎ At start m x →
      (new_plain u y z m.plain x ≡ m.plain x) × (new_gone u y m.gone x ≡ m.gone x)) where
    abbrev φ : Phase
    φ = numbering u p y z (now start m)

    abbrev m' : Drawing
    m' = after start m t (lays u p y z r r₂) φ

    -- what has another's pending entry is neither node
    not_ours : (w x c g : ℕ) (r₃ : Row) → m.bundle x ≡ pending w c g r₃ → (x ≢ p) × (x ≢ y)
    not_ours w x c g r₃ b = (
      λ e. final_pending (m.bundle p) w c g r r₃ final_p (rw e at b),
      λ e. final_pending (m.bundle y) w c g r₂ r₃ final_y (rw e at b),
    )

    lay_rely : (w : ℕ) → Rely key val start w m m'
    lay_rely w = record {
      since = refl;
      stamp = omega arith;
      on = λ x o. o;
      locks = λ x l. l;
      pends = λ x c g r₃ b. let n = not_ours w x c g r₃ b in pair_other m.bundle p y _ _ x n.0 n.1 ∙ b;
      kept = λ x mine.
          let s = same x (⊎_elim (λ l. inr (I.own.held w x l).1)
          (λ b. inl (not_ours w x b.0 b.1 b.2 b.3).1) mine) in
          record { plain = s.0; gone = s.1; row = refl; leads = refl; stays = λ i. i; unnamed = λ o. o };
      past = λ s _. (refl, refl);
    }

    pub lay_coupled : (x : ℕ) → Coupled key val start m x → Coupled key val start m' x
    lay_coupled x c on stays =
        let s = same x (inr (inl on)) in
        let d = c on (sym s.1 ∙ stays) in
        (d.0, d.1 ∙ ap some (sym s.0))

    -- an entry of another is as it was
    lay_apart : (w x c g : ℕ) (r₃ : Row) → w ≢ t → m'.bundle x ≡ pending w c g r₃ → m.bundle x ≡ pending w c g r₃
    lay_apart w x c g r₃ n =
        pair_cases (λ b. b ≡ pending w c g r₃ → m.bundle x ≡ pending w c g r₃) m.bundle p y _ _ x
        (λ _ b. absurd (n (one_owner _ w c g r₃ t _ _ _ b refl)))
        (λ _ _ b. absurd (n (one_owner _ w c g r₃ t _ _ _ b refl))) (λ _ _ b. b)

    pub lay_step : (φ₀ : Phase) → m.phase t ≡ φ₀ → ((x : ℕ) → Holds φ₀ x → Two u p y x) →
        ((x : ℕ) → Pends φ₀ x → ⊥) → tail ≢ p → tail ≢ y → Facts key val start m' t φ → Grant key val start t m m'
    lay_step φ₀ e holds none_pends tail≢p tail≢y F = record {
      others = λ w _. lay_rely w;
      apart = λ w n. record {
        phase = change_other m.phase t _ w n;
        locks = λ x l. l;
        pends = λ x c g r₃. lay_apart w x c g r₃ n;
      };
      once = I.own.once;
      links = λ x o. let s = same x (inr (inl o)) in rw s.0 (I.own.links x o);
      free = λ x l. lay_coupled x (I.own.free x l);
      held = λ x l. let a = I.own.held t x l in (rw (change_same m.phase t φ) (holds x (rw e at a.0)), a.1);
      settled = λ x r₃. pair_cases (λ b. b ≡ final r₃ → m.rows x ≡ r₃) m.bundle p y _ _ x
          (λ _ b. final_pending _ t _ _ r₃ _ b refl) (λ _ _ b. final_pending _ t _ _ r₃ _ b refl)
          (λ _ _ b. I.own.settled x r₃ b);
      owned = λ x c g r₃ b. rw (change_same m.phase t φ)
          (pair_cases (λ b₀. b₀ ≡ pending t c g r₃ → (x ≡ p) ⊎ (x ≡ y)) m.bundle p y _ _ x
          (λ a _. inr a) (λ _ a _. inl a)
          (λ _ _ b₁. absurd (none_pends x (rw e at (I.own.owned t x c g r₃ b₁)))) b);
      ends = pair_other m.bundle p y _ _ tail tail≢p tail≢y ∙ I.own.ends;
      begun = I.own.begun t;
      facts = rw (change_same m.phase t φ) F;
    }

  -- ---- an insert's: the new node was in no update
  module _ (k v p q : ℕ) (r : Row) (n : ℕ) (e : m.phase t ≡ preparing (insert k v) p q)
      (final_p : m.bundle p ≡ final r) (unused : m.bundle n ≡ final []) (n≢tail : n ≢ tail)
      (n_key : key n ≡ k) (n_val : val n ≡ v) where
    abbrev F : Facts key val start m t (preparing (insert k v) p q)
    F = rw e at (I.own.facts t)

    out : ¬ At start m n
    out = ⊎_elim (λ o. row_given key start m.rows m.log I.hist n o (I.own.settled n [] unused)) n≢tail

    p≢n : p ≢ n
    p≢n z = out (inl (rw z at F.0.stand.pred_on))

    tail≢p : tail ≢ p
    tail≢p z = omega (arith, ap key z, F.0.stand.below, F.0.fine)

    same_else : (x : ℕ) → (x ≢ n) ⊎ At start m x →
        (change m.plain n q x ≡ m.plain x) × (change m.gone n false x ≡ m.gone x)
    same_else x a =
        let x≢n : x ≢ n = ⊎_elim (λ h. h) (λ b z. out (rw z at b)) a in
        (change_other m.plain n q x x≢n, change_other m.gone n false x x≢n)

    insert_laid_lem : Laid key val start (m' (insert k v) p n q r [] final_p unused same_else)
        t (insert k v) p n q (now start m)
    insert_laid_lem = record {
      pend_p = rw (I.own.settled p r final_p) (pair_first m.bundle p n _ _ p≢n);
      pend_y = rw (I.own.settled n [] unused) (change_same _ n _);
      carried = omega arith;
      pred_on = F.0.stand.pred_on;
      pred_gone = (same_else p (inl p≢n)).1 ∙ F.3.0;
      pred_next = (same_else p (inl p≢n)).0 ∙ F.3.1;
      node_gone = change_same m.gone n false;
      node_next = change_same m.plain n q;
      behind = F.0.stand.curr_at;
      low = omega (arith, F.0.stand.below);
      up = omega (arith, F.0.reach, F.4);
      named = (out, n_key, n_val);
    }

    pub insert_grants : Grant key val start t m
        (after start m t (lays (insert k v) p n q r []) (numbering (insert k v) p n q (now start m)))
    insert_grants =
        lay_step (insert k v) p n q r [] final_p unused same_else (preparing (insert k v) p q) e (λ x h. h) (λ x h. h)
        tail≢p (λ z. n≢tail (sym z)) (
          record { lock_p = F.1.lock_p; lock_y = tt },
          record { pred = lay_coupled (insert k v) p n q r [] final_p unused same_else p F.2.pred; node = tt },
          insert_laid_lem,
        )

  -- ---- a remove's: curr is given, and leads on
  module _ (k p q : ℕ) (r r₂ : Row) (e : m.phase t ≡ preparing (remove k) p q)
      (final_p : m.bundle p ≡ final r) (final_q : m.bundle q ≡ final r₂) where
    abbrev G : Facts key val start m t (preparing (remove k) p q)
    G = rw e at (I.own.facts t)

    p≢q : p ≢ q
    p≢q z = omega (arith, ap key z, G.0.stand.rise)

    tail≢q : tail ≢ q
    tail≢q z = omega (arith, ap key z, G.0.fine, G.4)

    q_on : On start m q
    q_on = ⊎_elim (λ o. o) (λ z. absurd (tail≢q (sym z))) G.0.stand.curr_at

    remove_laid_lem : Laid key val start
        (m' (remove k) p q (m.plain q) r r₂ final_p final_q (λ x _. (refl, refl)))
        t (remove k) p q (m.plain q) (now start m)
    remove_laid_lem = record {
      pend_p = rw (I.own.settled p r final_p) (pair_first m.bundle p q _ _ p≢q);
      pend_y = rw (I.own.settled q r₂ final_q) (change_same _ q _);
      carried = omega arith;
      pred_on = G.0.stand.pred_on;
      pred_gone = G.3.0;
      pred_next = G.3.1;
      node_gone = G.3.2;
      node_next = refl;
      behind = (I.own.links q q_on).1;
      low = G.0.stand.rise;
      up = (I.own.links q q_on).0;
      named = (q_on, G.4);
    }

    pub remove_grants : Grant key val start t m
        (after start m t (lays (remove k) p q (m.plain q) r r₂) (numbering (remove k) p q (m.plain q) (now start m)))
    remove_grants =
        lay_step (remove k) p q (m.plain q) r r₂ final_p final_q (λ x _. (refl, refl)) (preparing (remove k) p q) e
        (λ x h. h) (λ x h. h) (λ z. omega (arith, ap key z, G.0.stand.below, G.0.fine)) tail≢q (
          record { lock_p = G.1.lock_p; lock_y = G.1.lock_y },
          record { pred = G.2.pred; node = G.2.node },
          remove_laid_lem,
        )
