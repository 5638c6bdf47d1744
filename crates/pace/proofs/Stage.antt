-- Where a range stands, and what sessions owe it, in a drawing that has the invariant.
-- In order: the nodes ahead are told by the links; the stage, told by the phase and by old snapshots; what is owed.
-- Assumes nothing.
use mathlib.Core.Path.{◌≡◌, refl, ap, subst}
use mathlib.Core.Bool.{cond}
use mathlib.Core.Option.{Option}
use mathlib.Core.List.{List, [], ◌∷◌}
use Prim.Native.Nat.{ℕ, ◌≤◌}
use native.Mathlib.Omega.{arith}
use lib.Dec.{ltb}
use Rattle.order.specs.History.{next, Start}
use Rattle.order.proofs.Rows.{some_same}
use Rattle.drawing.specs.Phases.{Phase, idle, walking, locking, locking_curr, checking, preparing, numbering}
use Rattle.drawing.specs.Phases.{linking, finishing, seeking, fixing, following, handing}
use Rattle.drawing.specs.Drawing.{Drawing, now}
use Rattle.drawing.proofs.Ahead.{Ahead}
use Rattle.drawing.proofs.Inv.{Facts, Inv}
use Rattle.fairness.specs.Reader
use Rattle.fairness.specs.Reader.{Stage}

-- ---- the nodes ahead are told by the links
pub ahead_unique : (key : ℕ → ℕ) (f : ℕ → Option ℕ) (high x : ℕ) (ns ms : List ℕ) →
    Ahead key f high x ns → Ahead key f high x ms → ns ≡ ms
ahead_unique key f high x [] [] a b = refl
ahead_unique key f high x [] (n ∷ ms) a b = absurd (omega (arith, ap key (some_same a.1 b.0), a.2, b.1))
ahead_unique key f high x (n ∷ ns) [] a b = absurd (omega (arith, ap key (some_same a.0 b.1), b.2, a.1))
ahead_unique key f high x (n ∷ ns) (k ∷ ms) a b =
    let e : k ≡ n = some_same b.0 a.0 in
    rw e (ap (λ l. n ∷ l) (ahead_unique key f high n ns ms a.2 (rw e at b.2)))

module _ (key val : ℕ → ℕ) (start : Start) where
  -- ---- the stage. A walk on the list makes no descents
  abbrev pub stage_in : (m : Drawing) (t : ℕ) (φ : Phase) → Facts key val start m t φ → Stage ℕ
  stage_in m t idle F = Reader.arrived
  stage_in m t (walking op p q) F = Reader.walking (key p) 0
  stage_in m t (locking u p q) F = Reader.arrived
  stage_in m t (locking_curr k p q) F = Reader.arrived
  stage_in m t (checking u p q) F = Reader.arrived
  stage_in m t (preparing u p q) F = Reader.arrived
  stage_in m t (numbering u p y z c) F = Reader.arrived
  stage_in m t (linking u p y z c n) F = Reader.arrived
  stage_in m t (finishing u p y z c n) F = Reader.arrived
  stage_in m t (seeking k x) F = Reader.arrived
  stage_in m t (fixing low high p) F = Reader.arrived
  stage_in m t (following low high x s handed) F = Reader.following F.ahead
  stage_in m t (handing low high x s handed) F = Reader.handing F.2.ahead

  abbrev pub stage_of : (m : Drawing) → Inv key val start m → ℕ → Stage ℕ
  stage_of m I t = stage_in m t (m.phase t) (I.own.facts t)

  -- ---- a drawing in which old snapshots read as before has the same stage in the same phase
  module _ (m m' : Drawing) (past : (s : ℕ) → s ≤ now start m → next m'.rows s ≡ next m.rows s) (t : ℕ) where
    pub stage_same : (φ : Phase) (F : Facts key val start m t φ) (F' : Facts key val start m' t φ) →
        stage_in m' t φ F' ≡ stage_in m t φ F
    stage_same idle F F' = refl
    stage_same (walking op p q) F F' = refl
    stage_same (locking u p q) F F' = refl
    stage_same (locking_curr k p q) F F' = refl
    stage_same (checking u p q) F F' = refl
    stage_same (preparing u p q) F F' = refl
    stage_same (numbering u p y z c) F F' = refl
    stage_same (linking u p y z c n) F F' = refl
    stage_same (finishing u p y z c n) F F' = refl
    stage_same (seeking k x) F F' = refl
    stage_same (fixing low high p) F F' = refl
    stage_same (following low high x s handed) F F' =
        ap Reader.following (ahead_unique key (next m.rows s) high x F'.ahead F.ahead
        (rw (past s F.in_past) at F'.reads) F.reads)
    stage_same (handing low high x s handed) F F' =
        ap Reader.handing (ahead_unique key (next m.rows s) high x F'.2.ahead F.2.ahead
        (rw (past s F.2.in_past) at F'.2.reads) F.2.reads)

    pub stage_kept : (I : Inv key val start m) (I' : Inv key val start m') → m'.phase t ≡ m.phase t →
        stage_of m' I' t ≡ stage_of m I t
    stage_kept I I' same = subst
        (λ φ. (F : Facts key val start m t φ) → stage_of m' I' t ≡ stage_in m t φ F) same
        (λ F. stage_same (m'.phase t) F (I'.own.facts t)) (I.own.facts t)

  -- whatever facts of its phase are taken
  pub stage_in_lem : (m : Drawing) (I : Inv key val start m) (t : ℕ) (φ : Phase) → m.phase t ≡ φ →
      (F : Facts key val start m t φ) → stage_of m I t ≡ stage_in m t φ F
  stage_in_lem m I t φ e F = subst (λ ψ. (G : Facts key val start m t ψ) → stage_of m I t ≡ stage_in m t ψ G) e
      (λ G. stage_same m m (λ s _. refl) t (m.phase t) G (I.own.facts t)) F

-- ---- what a session in this phase owes a reader at snapshot `s`: its own steps to its end, if it carries less
unfoldable pub debt : ℕ → Phase → ℕ
debt s idle = 0
debt s (walking op p q) = 0
debt s (locking u p q) = 0
debt s (locking_curr k p q) = 0
debt s (checking u p q) = 0
debt s (preparing u p q) = 0
debt s (numbering u p y z c) = cond (ltb c s) 3 0
debt s (linking u p y z c n) = cond (ltb c s) 2 0
debt s (finishing u p y z c n) = cond (ltb c s) 1 0
debt s (seeking k x) = 0
debt s (fixing low high p) = 0
debt s (following low high x s₂ handed) = 0
debt s (handing low high x s₂ handed) = 0

-- a reader is owed something behind its Fix alone
unfoldable pub owing : (reader : Phase) → (other : Phase) → ℕ
owing idle φ = 0
owing (walking op p q) φ = 0
owing (locking u p q) φ = 0
owing (locking_curr k p q) φ = 0
owing (checking u p q) φ = 0
owing (preparing u p q) φ = 0
owing (numbering u p y z c) φ = 0
owing (linking u p y z c n) φ = 0
owing (finishing u p y z c n) φ = 0
owing (seeking k x) φ = 0
owing (fixing low high p) φ = 0
owing (following low high x s handed) φ = debt s φ
owing (handing low high x s handed) φ = debt s φ
