-- The nodes whose remove is laid, after Prepare: none more after an insert's, one more after a remove's.
-- In order: a node more; a cut more; the node that a remove is about to cut is not cut yet, and is no end of the
-- list. Assumes nothing.
use Prim.Native.Nat.{ℕ, ◌+◌, ◌≤◌, ◌<◌}
use mathlib.Core.Path.{◌≡◌, sym, ◌∙◌, ap, subst}
use mathlib.Core.Logic.{inr, ⊎_elim, ⊎_map, ◌≢◌}
use mathlib.Core.List.Memᴰ
use mathlib.Core.List.{◌∷◌, Memᴰ}
use native.Mathlib.Decide.{ℕ_discrete}
use native.Mathlib.Omega.{arith}
use Rattle.order.specs.Set.{remove}
use Rattle.order.specs.History.{head, tail, Removed, empty}
use Rattle.order.proofs.Rows.{some_same}
use Rattle.order.proofs.Keeps.{current}
use Rattle.reached.specs.Reached.{State, Past}
use Rattle.drawing.specs.Phases.{Phase, preparing, numbering}
use Rattle.drawing.specs.Drawing.{Drawing}
use Rattle.drawing.specs.Effects.{Effect, after}
use Rattle.drawing.proofs.Change.{change_other}
use Rattle.drawing.proofs.Inv.{On, Facts}
use Rattle.words.proofs.Show.{BeingCut, Cuts, shown_inv}
use Rattle.words.proofs.Land.{NoNumber, no_number}
use Rattle.words.proofs.Steady.{Turn, its_facts}

-- ---- a node more
pub cuts_node : (used laid : ℕ) (m : Drawing) → Cuts used laid m → Cuts (used + 1) (laid + 2) m
cuts_node used laid m C = record {
  cuts = C.cuts;
  once = C.once;
  in_use = λ x i. ((C.in_use x i).0, omega (arith, (C.in_use x i).1));
  cut = C.cut;
  count = omega (arith, C.count);
}

-- ---- a cut more, where what was cut or being cut still is
pub cuts_cut : (used laid : ℕ) (m m' : Drawing) (q : ℕ) (C : Cuts used laid m) → ¬ Memᴰ q C.cuts → 2 ≤ q
    → q < used → ((x : ℕ) → Removed x m.log → Removed x m'.log)
    → ((x : ℕ) → BeingCut m x → BeingCut m' x) → BeingCut m' q → Cuts used (laid + 2) m'
cuts_cut used laid m m' q C uncut low high removed still being = record {
  cuts = q ∷ C.cuts;
  once = (uncut, C.once);
  in_use = λ x i. ⊎_elim (λ e. (omega (arith, e), omega (arith, e))) (C.in_use x) (Memᴰ.cases_cons i);
  cut = λ x i. ⊎_elim (λ e. inr (subst (BeingCut m') (sym e) being)) (λ j. ⊎_map (removed x) (still x) (C.cut x j))
      (Memᴰ.cases_cons i);
  count = omega (arith, C.count);
}

-- what is being cut by others still is
pub being_kept : (m : Drawing) (t : ℕ) (f : Effect) (φ₀ φ : Phase) → m.phase t ≡ φ₀ → NoNumber φ₀ → (x : ℕ)
    → BeingCut m x → BeingCut (after empty m t f φ) x
being_kept m t f φ₀ φ here other x (w, k, p, z, c, e) = elim (ℕ_discrete w t) [
  | yes w≡t ↦ absurd (no_number φ₀ (remove k) p x z c (sym here ∙ ap m.phase (sym w≡t) ∙ e) other)
  | no w≢t ↦ (w, k, p, z, c, change_other m.phase t φ w w≢t ∙ e)
]

-- ---- the node of a remove at Prepare
module _ {key val : ℕ → ℕ} {σ : State} {h : Past} {m : Drawing} {t : ℕ} (T : Turn key val σ h m t) {k p q : ℕ}
    (e : m.phase t ≡ preparing (remove k) p q) where
  F : Facts key val empty m t (preparing (remove k) p q)
  F = its_facts T e

  not_tail : q ≢ tail
  not_tail q≡tail = omega (arith, ap key q≡tail, F.4, F.0.fine.1)

  pub no_end : 2 ≤ q
  no_end =
      let not_head : q ≢ head = λ q≡head. omega (arith, ap key q≡head, F.4, F.0.fine.0) in
      let other : q ≢ tail = not_tail in
      omega arith

  pub node_on : On empty m q
  node_on = ⊎_elim (λ on. on) (λ q≡tail. absurd (not_tail q≡tail)) F.0.stand.curr_at

  -- it is in the set, so no remove of it has a number
  not_removed : ¬ Removed q m.log
  not_removed removed =
      let snap = current key empty m.rows m.log (shown_inv T.shown).hist in
      let back : m.plain q ≡ head = some_same (F.2.node node_on F.3.2).1 (snap.gone q removed) in
      omega (arith, ((shown_inv T.shown).own.links q node_on).0, ap key back, T.shown.head_key)

  -- it is locked by this session, so no other has laid its remove
  not_being_cut : ¬ BeingCut m q
  not_being_cut (w, k₂, p₂, z₂, c₂, d) =
      let G : Facts key val empty m w (numbering (remove k₂) p₂ q z₂ c₂) =
      rw d at ((shown_inv T.shown).own.facts w) in
      let w≡t : w ≡ t = some_same G.0.lock_y F.1.lock_y in
      no_number (preparing (remove k) p q) (remove k₂) p₂ q z₂ c₂ (sym e ∙ ap m.phase (sym w≡t) ∙ d) tt

  pub uncut : ¬ Memᴰ q T.shown.cuts.cuts
  uncut i = ⊎_elim not_removed not_being_cut (T.shown.cuts.cut q i)
