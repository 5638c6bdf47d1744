-- What a step of one session leaves to the others: their records still run their phases.
-- In order: rows that a phase needs; pending entries of a phase; rows changed where all is final.
-- Not here: which rows a step changes (RowWords). Assumes nothing.
use Prim.Native.Nat.{ℕ}
use mathlib.Core.Path.{◌≡◌, refl, ◌∙◌}
use mathlib.Core.Logic.{◌⊎◌, inl, inr, ⊎_elim}
use mathlib.Core.List.{List}
use Rattle.order.specs.Rows.{Row}
use Rattle.order.specs.History.{empty}
use Rattle.steps.specs.declared.Session.{Session}
use Rattle.drawing.specs.Phases.{Phase, idle, walking, locking, locking_curr, checking, preparing}
use Rattle.drawing.specs.Phases.{numbering, linking, finishing, seeking, fixing, following, handing}
use Rattle.drawing.specs.Drawing.{final, pending, Drawing}
use Rattle.drawing.proofs.Change.{final_pending}
use Rattle.drawing.proofs.Inv.{Pends, Facts, Inv}
use Rattle.words.proofs.Show.{Laid, Runs}

-- ---- a record runs its phase still where the rows with its pending entries are as they were
module _ (own own' : ℕ → List ℕ) where
  laid_kept : (p y : ℕ) (Says : ℕ → ℕ → Type 0) → own' p ≡ own p → own' y ≡ own y → Laid own p y Says
      → Laid own' p y Says
  laid_kept p y Says same_p same_y (lo, hi, (rest_p, at_p), (rest_y, at_y), says) =
      (lo, hi, (rest_p, same_p ∙ at_p), (rest_y, same_y ∙ at_y), says)

  pub runs_kept : (φ : Phase) (s : Session) → ((x : ℕ) → Pends φ x → own' x ≡ own x) → Runs own φ s → Runs own' φ s
  runs_kept idle s same r = r
  runs_kept (walking op p q) s same r = r
  runs_kept (locking u p q) s same r = r
  runs_kept (locking_curr k p q) s same r = r
  runs_kept (checking u p q) s same r = r
  runs_kept (preparing u p q) s same r = r
  runs_kept (numbering u p y z c) s same r = laid_kept p y _ (same p (inl refl)) (same y (inr refl)) r
  runs_kept (linking u p y z c n) s same r = laid_kept p y _ (same p (inl refl)) (same y (inr refl)) r
  runs_kept (finishing u p y z c n) s same r = laid_kept p y _ (same p (inl refl)) (same y (inr refl)) r
  runs_kept (seeking k x) s same r = r
  runs_kept (fixing low high p) s same r = r
  runs_kept (following low high x t given) s same r = r
  runs_kept (handing low high x t given) s same r = r

-- ---- where a phase has its entries, they are pending
module _ (key val : ℕ → ℕ) (m : Drawing) (t : ℕ) where
  abbrev PendsAt : ℕ → Type 0
  PendsAt x = (c g : ℕ) × (r : Row) × (m.bundle x ≡ pending t c g r)

  either : (p y x : ℕ) → PendsAt p → PendsAt y → (x ≡ p) ⊎ (x ≡ y) → PendsAt x
  either p y x at_p at_y = ⊎_elim (λ e. rw e at_p) (λ e. rw e at_y)

  pends_in : (φ : Phase) → Facts key val empty m t φ → (x : ℕ) → Pends φ x → PendsAt x
  pends_in idle F x n = absurd n
  pends_in (walking op p q) F x n = absurd n
  pends_in (locking u p q) F x n = absurd n
  pends_in (locking_curr k p q) F x n = absurd n
  pends_in (checking u p q) F x n = absurd n
  pends_in (preparing u p q) F x n = absurd n
  pends_in (numbering u p y z c) F x n = either p y x (_, _, _, F.2.pend_p) (_, _, _, F.2.pend_y) n
  pends_in (linking u p y z c k) F x n = either p y x (_, _, _, F.1.pend_p) (_, _, _, F.1.pend_y) n
  pends_in (finishing u p y z c k) F x n = either p y x (_, _, _, F.2.pend_p) (_, _, _, F.2.pend_y) n
  pends_in (seeking k y) F x n = absurd n
  pends_in (fixing low high p) F x n = absurd n
  pends_in (following low high y s handed) F x n = absurd n
  pends_in (handing low high y s handed) F x n = absurd n

-- ---- so rows may change where the bundle is final
pub final_unpended : (key val : ℕ → ℕ) (m : Drawing) → Inv key val empty m → (t x : ℕ) (r : Row)
    → m.bundle x ≡ final r → ¬ Pends (m.phase t) x
final_unpended key val m I t x r is_final n =
    let (c, g, r₂, pends) = pends_in key val m t (m.phase t) (I.own.facts t) x n in
    final_pending (m.bundle x) t c g r r₂ is_final pends
