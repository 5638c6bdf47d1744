-- What is owed: who owes is past Prepare, never waits, and owes less after each step of its own.
-- In order: bounds; steps; who owes is busy and does not wait, and has a node; whose entry is waited for owes; a
-- reader's part.
-- Assumes nothing.
use mathlib.Core.Path.{◌≡◌, refl, sym, ◌∙◌, ap}
use mathlib.Core.Logic.{◌⊎◌, ⊎_elim, ◌≢◌}
use mathlib.Core.Bool.{cond}
use mathlib.Core.List.{[], ◌∷◌, ◌++◌}
use Prim.Native.Nat.{ℕ, suc, ◌≤◌, ◌<◌}
use native.Mathlib.Decide.{ℕ_discrete}
use native.Mathlib.Omega.{arith}
use lib.Dec.{ltb}
use borrow.Author.Tests.{lt-ltb, le-ltb}
use Rattle.order.specs.Set.{Update, insert, remove}
use Rattle.order.specs.Rows.{Row, wait, read_at}
use Rattle.order.specs.History.{head, Start, entry}
use Rattle.order.proofs.Tests.{ltb_cases}
use Rattle.drawing.specs.Phases.{Op, upd, has, range, arrived, locked}
use Rattle.drawing.specs.Phases.{Phase, idle, walking, locking, locking_curr, checking, preparing, numbering}
use Rattle.drawing.specs.Phases.{linking, finishing, seeking, fixing, following, handing}
use Rattle.drawing.specs.Drawing.{Owned, final, pending, shown, Drawing, now}
use Rattle.drawing.specs.Effects.{Effect}
use Rattle.drawing.specs.Steps.{Out, Step}
use Rattle.drawing.specs.Steps.{walk_on, walk_arrive, lock_pred, lock_curr, check_again, check_present}
use Rattle.drawing.specs.Steps.{check_absent, check_pass, prepare_full, prepare_insert, prepare_remove}
use Rattle.drawing.specs.Steps.{number_it, link_it, finish_it, seek_on, seek_present, seek_absent, fix_it}
use Rattle.drawing.specs.Steps.{follow_on, follow_in, follow_end, hand_out}
use Rattle.drawing.proofs.Inv.{Pends, Facts, Inv}
use Rattle.drawing.proofs.Goes.{read_wait}
use Rattle.drawing.proofs.Room.{pends_used}
use Rattle.pace.specs.Turns.{HeldUp}
use Rattle.pace.proofs.Stage.{debt, owing}

-- ---- bounds
most : (c s n : ℕ) → n ≤ 3 → cond (ltb c s) n 0 ≤ 3
most c s n n≤3 = ltb_cases (λ k. k ≤ 3) c s n 0 (λ _. n≤3) (λ _. omega arith)

pub debt_three : (s : ℕ) (φ : Phase) → debt s φ ≤ 3
unfolding debt
debt_three s idle = omega arith
debt_three s (walking op p q) = omega arith
debt_three s (locking u p q) = omega arith
debt_three s (locking_curr k p q) = omega arith
debt_three s (checking u p q) = omega arith
debt_three s (preparing u p q) = omega arith
debt_three s (numbering u p y z c) = most c s 3 (omega arith)
debt_three s (linking u p y z c n) = most c s 2 (omega arith)
debt_three s (finishing u p y z c n) = most c s 1 (omega arith)
debt_three s (seeking k x) = omega arith
debt_three s (fixing low high p) = omega arith
debt_three s (following low high x s₂ handed) = omega arith
debt_three s (handing low high x s₂ handed) = omega arith

-- ---- a phase that owes no more than another, and less if that owes
abbrev pub Falls : ℕ → (before now : Phase) → Type 0
Falls s ψ φ = (debt s φ ≤ debt s ψ) × (0 < debt s ψ → debt s φ < debt s ψ)

pub paid : (s : ℕ) (ψ φ : Phase) → debt s φ ≡ 0 → Falls s ψ φ
paid s ψ φ e = (omega (arith, e), λ h. omega (arith, e))

less : (c s n : ℕ) → (cond (ltb c s) n 0 ≤ cond (ltb c s) (suc n) 0)
    × (0 < cond (ltb c s) (suc n) 0 → cond (ltb c s) n 0 < cond (ltb c s) (suc n) 0)
less c s n = elim (native.Mathlib.Decide.dec_lt c s) [
  | yes h ↦ rw (lt-ltb c s h) (omega arith, λ _. omega arith)
  | no h ↦ rw (le-ltb c s (omega arith)) (omega arith, λ k. k)
]

pub arrived_paid : (s : ℕ) (op : Op) (p q : ℕ) → debt s (arrived op p q) ≡ 0
unfolding debt
arrived_paid s (upd u) p q = refl
arrived_paid s (has k) p q = refl
arrived_paid s (range low high) p q = refl

pub locked_paid : (s : ℕ) (u : Update) (p q : ℕ) → debt s (locked u p q) ≡ 0
unfolding debt
locked_paid s (insert k v) p q = refl
locked_paid s (remove k) p q = refl

pub walking_paid : (s : ℕ) (op : Op) (p q : ℕ) → debt s (walking op p q) ≡ 0
unfolding debt
walking_paid s op p q = refl

-- an entry laid now is owed by no snapshot up to now
pub laid_paid : (s : ℕ) (u : Update) (p y z c : ℕ) → s ≤ c → debt s (numbering u p y z c) ≡ 0
unfolding debt
laid_paid s u p y z c s≤c = rw (le-ltb c s s≤c)

-- ---- EACH STEP OF WHO OWES PAYS
pub step_falls : (key val : ℕ → ℕ) (start : Start) (m : Drawing) (t : ℕ) {o : Out} {f : Effect} {φ : Phase} →
    Step key val start t m o f φ → (s : ℕ) → s ≤ now start m → Falls s (m.phase t) φ
unfolding debt
step_falls key val start m t (walk_on op p q e h) s s≤ = paid s (m.phase t) (walking op q (m.plain q)) refl
step_falls key val start m t (walk_arrive op p q e h) s s≤ =
    paid s (m.phase t) (arrived op p q) (arrived_paid s op p q)
step_falls key val start m t (lock_pred u p q e l) s s≤ = paid s (m.phase t) (locked u p q) (locked_paid s u p q)
step_falls key val start m t (lock_curr k p q e l) s s≤ = paid s (m.phase t) (checking (remove k) p q) refl
step_falls key val start m t (check_again u p q e a) s s≤ =
    paid s (m.phase t) (walking (upd u) head (m.plain head)) refl
step_falls key val start m t (check_present k v p q e g h) s s≤ = paid s (m.phase t) idle refl
step_falls key val start m t (check_absent k p q e g h) s s≤ = paid s (m.phase t) idle refl
step_falls key val start m t (check_pass u p q e g h) s s≤ = paid s (m.phase t) (preparing u p q) refl
step_falls key val start m t (prepare_full k v p q r e b) s s≤ = paid s (m.phase t) idle refl
step_falls key val start m t (prepare_insert k v p q r n e bp bn n≢tail nk nv) s s≤ =
    paid s (m.phase t) (numbering (insert k v) p n q (now start m)) (laid_paid s (insert k v) p n q (now start m) s≤)
step_falls key val start m t (prepare_remove k p q r r₂ e bp bq) s s≤ =
    paid s (m.phase t) (numbering (remove k) p q (m.plain q) (now start m))
    (laid_paid s (remove k) p q (m.plain q) (now start m) s≤)
step_falls key val start m t (number_it u p y z c e) s s≤ = rw e (less c s 2)
step_falls key val start m t (link_it u p y z c n e) s s≤ = rw e (less c s 1)
step_falls key val start m t (finish_it u p y z c n r r₂ e bp by) s s≤ = paid s (m.phase t) idle refl
step_falls key val start m t (seek_on k x q e answer h) s s≤ = paid s (m.phase t) (seeking k q) refl
step_falls key val start m t (seek_present k x q e answer h) s s≤ = paid s (m.phase t) idle refl
step_falls key val start m t (seek_absent k x q e answer h) s s≤ = paid s (m.phase t) idle refl
step_falls key val start m t (fix_it low high p e) s s≤ =
    paid s (m.phase t) (following low high p (now start m) []) refl
step_falls key val start m t (follow_on low high x s₂ q handed e answer h) s s≤ =
    paid s (m.phase t) (following low high q s₂ handed) refl
step_falls key val start m t (follow_in low high x s₂ q handed e answer h k) s s≤ =
    paid s (m.phase t) (handing low high q s₂ handed) refl
step_falls key val start m t (follow_end low high x s₂ q handed e answer h k) s s≤ = paid s (m.phase t) idle refl
step_falls key val start m t (hand_out low high x s₂ handed e) s s≤ =
    paid s (m.phase t) (following low high x s₂ (handed ++ (entry key val x ∷ []))) refl

-- ---- who owes is busy, and does not wait
pub debt_busy : (s : ℕ) (φ : Phase) → 0 < debt s φ → φ ≢ idle
unfolding debt
debt_busy s φ h e = omega (arith, ap (debt s) e)

pub debt_no_wait : (t : ℕ) (m : Drawing) (s : ℕ) (φ : Phase) → 0 < debt s φ → ¬ HeldUp t m φ
unfolding debt
debt_no_wait t m s idle h w = w
debt_no_wait t m s (walking op p q) h w = w
debt_no_wait t m s (locking u p q) h w = omega arith
debt_no_wait t m s (locking_curr k p q) h w = omega arith
debt_no_wait t m s (checking u p q) h w = w
debt_no_wait t m s (preparing u p q) h w = omega arith
debt_no_wait t m s (numbering u p y z c) h w = w
debt_no_wait t m s (linking u p y z c n) h w = w
debt_no_wait t m s (finishing u p y z c n) h w = w
debt_no_wait t m s (seeking k x) h w = omega arith
debt_no_wait t m s (fixing low high p) h w = w
debt_no_wait t m s (following low high x s₂ handed) h w = omega arith
debt_no_wait t m s (handing low high x s₂ handed) h w = w

module _ (key val : ℕ → ℕ) (start : Start) (m : Drawing) (I : Inv key val start m) where
  -- ---- who owes has a node in use that is not the head
  abbrev Has : Type 0
  Has = (x : ℕ) × (x ≢ head) × (m.bundle x ≢ final [])

  one_of_two : (w p y c g : ℕ) (r : Row) (c₂ g₂ : ℕ) (r₂ : Row) → p ≢ y → m.bundle p ≡ pending w c g r →
      m.bundle y ≡ pending w c₂ g₂ r₂ → Has
  one_of_two w p y c g r c₂ g₂ r₂ p≢y bp by = elim (ℕ_discrete p head) [
    | yes e ↦ (y, λ z. p≢y (e ∙ sym z), pends_used key val start m I w y c₂ g₂ r₂ by)
    | no n ↦ (p, n, pends_used key val start m I w p c g r bp)
  ]

  pub debt_node : (w s : ℕ) (φ : Phase) → Facts key val start m w φ → 0 < debt s φ → Has
  unfolding debt
  debt_node w s idle F h = absurd (omega arith)
  debt_node w s (walking op p q) F h = absurd (omega arith)
  debt_node w s (locking u p q) F h = absurd (omega arith)
  debt_node w s (locking_curr k p q) F h = absurd (omega arith)
  debt_node w s (checking u p q) F h = absurd (omega arith)
  debt_node w s (preparing u p q) F h = absurd (omega arith)
  debt_node w s (numbering u p y z c) F h =
      one_of_two w p y _ _ _ _ _ _ (λ e. omega (arith, ap key e, F.2.low)) F.2.pend_p F.2.pend_y
  debt_node w s (linking u p y z c n) F h =
      one_of_two w p y _ _ _ _ _ _ F.1.distinct F.1.pend_p F.1.pend_y
  debt_node w s (finishing u p y z c n) F h =
      one_of_two w p y _ _ _ _ _ _ F.2.distinct F.2.pend_p F.2.pend_y
  debt_node w s (seeking k x) F h = absurd (omega arith)
  debt_node w s (fixing low high p) F h = absurd (omega arith)
  debt_node w s (following low high x s₂ handed) F h = absurd (omega arith)
  debt_node w s (handing low high x s₂ handed) F h = absurd (omega arith)

  -- ---- whose entry a reader waits for, owes it
  same_carried : (b : Owned) (w c g : ℕ) (r : Row) (w₂ c₂ g₂ : ℕ) (r₂ : Row) → b ≡ pending w c g r →
      b ≡ pending w₂ c₂ g₂ r₂ → c ≡ c₂
  same_carried b w c g r w₂ c₂ g₂ r₂ d e = cc

  older : (w x c g p y c₂ g₂ g₃ : ℕ) (r r₂ r₃ : Row) → m.bundle x ≡ pending w c g r →
      m.bundle p ≡ pending w c₂ g₂ r₂ → m.bundle y ≡ pending w c₂ g₃ r₃ → (x ≡ p) ⊎ (x ≡ y) → c ≡ c₂
  older w x c g p y c₂ g₂ g₃ r r₂ r₃ b bp by = ⊎_elim
      (λ e. same_carried (m.bundle p) w c g r w c₂ g₂ r₂ (rw e at b) bp)
      (λ e. same_carried (m.bundle y) w c g r w c₂ g₃ r₃ (rw e at b) by)

  owed : (c s n : ℕ) → c < s → 0 < n → 0 < cond (ltb c s) n 0
  owed c s n c<s 0<n = rw (lt-ltb c s c<s) 0<n

  pends_debt : (w x c g s : ℕ) (r : Row) (φ : Phase) → m.bundle x ≡ pending w c g r → c < s →
      Facts key val start m w φ → Pends φ x → 0 < debt s φ
  unfolding debt
  pends_debt w x c g s r idle b c<s F h = absurd h
  pends_debt w x c g s r (walking op p q) b c<s F h = absurd h
  pends_debt w x c g s r (locking u p q) b c<s F h = absurd h
  pends_debt w x c g s r (locking_curr k p q) b c<s F h = absurd h
  pends_debt w x c g s r (checking u p q) b c<s F h = absurd h
  pends_debt w x c g s r (preparing u p q) b c<s F h = absurd h
  pends_debt w x c g s r (numbering u p y z c₂) b c<s F h =
      let e = older w x c g p y c₂ _ _ r _ _ b F.2.pend_p F.2.pend_y h in
      owed c₂ s 3 (omega (arith, e)) (omega arith)
  pends_debt w x c g s r (linking u p y z c₂ n) b c<s F h =
      let e = older w x c g p y c₂ _ _ r _ _ b F.1.pend_p F.1.pend_y h in
      owed c₂ s 2 (omega (arith, e)) (omega arith)
  pends_debt w x c g s r (finishing u p y z c₂ n) b c<s F h =
      let e = older w x c g p y c₂ _ _ r _ _ b F.2.pend_p F.2.pend_y h in
      owed c₂ s 1 (omega (arith, e)) (omega arith)
  pends_debt w x c g s r (seeking k y) b c<s F h = absurd h
  pends_debt w x c g s r (fixing low high p) b c<s F h = absurd h
  pends_debt w x c g s r (following low high y s₂ handed) b c<s F h = absurd h
  pends_debt w x c g s r (handing low high y s₂ handed) b c<s F h = absurd h

  pub wait_owed : (s x : ℕ) → read_at s (shown (m.bundle x)) ≡ wait → (w : ℕ) × (0 < debt s (m.phase w))
  wait_owed s x waits =
      let a = read_wait s (m.bundle x) waits in (
        a.0,
        pends_debt a.0 x a.1 a.2 s a.3 (m.phase a.0) a.4 a.5 (I.own.facts a.0)
            (I.own.owned a.0 x a.1 a.2 a.3 a.4),
      )

  -- ---- a reader's part: it is owed at its snapshot alone, which is not after now
  abbrev Lowers : (ψ φ φ' : Phase) → Type 0
  Lowers ψ φ φ' = (owing ψ φ' ≤ owing ψ φ) × (0 < owing ψ φ → owing ψ φ' < owing ψ φ)

  nothing : (ψ φ φ' : Phase) → owing ψ φ ≡ 0 → owing ψ φ' ≡ 0 → Lowers ψ φ φ'
  nothing ψ φ φ' a b = (omega (arith, a, b), λ h. absurd (omega (arith, a)))

  pub owing_falls : (t : ℕ) (ψ φ φ' : Phase) → Facts key val start m t ψ →
      ((s : ℕ) → s ≤ now start m → Falls s φ φ') → Lowers ψ φ φ'
  unfolding owing
  owing_falls t idle φ φ' F h = nothing idle φ φ' refl refl
  owing_falls t (walking op p q) φ φ' F h = nothing (walking op p q) φ φ' refl refl
  owing_falls t (locking u p q) φ φ' F h = nothing (locking u p q) φ φ' refl refl
  owing_falls t (locking_curr k p q) φ φ' F h = nothing (locking_curr k p q) φ φ' refl refl
  owing_falls t (checking u p q) φ φ' F h = nothing (checking u p q) φ φ' refl refl
  owing_falls t (preparing u p q) φ φ' F h = nothing (preparing u p q) φ φ' refl refl
  owing_falls t (numbering u p y z c) φ φ' F h = nothing (numbering u p y z c) φ φ' refl refl
  owing_falls t (linking u p y z c n) φ φ' F h = nothing (linking u p y z c n) φ φ' refl refl
  owing_falls t (finishing u p y z c n) φ φ' F h = nothing (finishing u p y z c n) φ φ' refl refl
  owing_falls t (seeking k x) φ φ' F h = nothing (seeking k x) φ φ' refl refl
  owing_falls t (fixing low high p) φ φ' F h = nothing (fixing low high p) φ φ' refl refl
  owing_falls t (following low high x s handed) φ φ' F h = h s F.in_past
  owing_falls t (handing low high x s handed) φ φ' F h = h s F.2.in_past

-- what is owed is some debt, and only behind Fix
pub owing_debt : (ψ φ : Phase) → 0 < owing ψ φ → (s : ℕ) × (0 < debt s φ) × (debt s ψ ≡ 0)
unfolding owing debt
owing_debt idle φ h = absurd (omega arith)
owing_debt (walking op p q) φ h = absurd (omega arith)
owing_debt (locking u p q) φ h = absurd (omega arith)
owing_debt (locking_curr k p q) φ h = absurd (omega arith)
owing_debt (checking u p q) φ h = absurd (omega arith)
owing_debt (preparing u p q) φ h = absurd (omega arith)
owing_debt (numbering u p y z c) φ h = absurd (omega arith)
owing_debt (linking u p y z c n) φ h = absurd (omega arith)
owing_debt (finishing u p y z c n) φ h = absurd (omega arith)
owing_debt (seeking k x) φ h = absurd (omega arith)
owing_debt (fixing low high p) φ h = absurd (omega arith)
owing_debt (following low high x s handed) φ h = (s, h, refl)
owing_debt (handing low high x s handed) φ h = (s, h, refl)

pub owing_three : (ψ φ : Phase) → owing ψ φ ≤ 3
unfolding owing
owing_three idle φ = omega arith
owing_three (walking op p q) φ = omega arith
owing_three (locking u p q) φ = omega arith
owing_three (locking_curr k p q) φ = omega arith
owing_three (checking u p q) φ = omega arith
owing_three (preparing u p q) φ = omega arith
owing_three (numbering u p y z c) φ = omega arith
owing_three (linking u p y z c n) φ = omega arith
owing_three (finishing u p y z c n) φ = omega arith
owing_three (seeking k x) φ = omega arith
owing_three (fixing low high p) φ = omega arith
owing_three (following low high x s handed) φ = debt_three s φ
owing_three (handing low high x s handed) φ = debt_three s φ
