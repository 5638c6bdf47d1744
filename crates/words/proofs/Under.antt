-- WHAT A SESSION HAS UNDER WAY by its calls and their answers is what its record says, at every reached register.
-- In order: a phase without an operation is idle; the operation of a record; of every session; the theorem, and a busy
-- record.
-- Not here: `under` itself (crate reached), and that calls keep it (Land, Starts). Assumes nothing.
use Prim.Native.Nat.{ℕ, ◌<◌}
use mathlib.Core.Path.{◌≡◌, refl, sym, ◌∙◌, ap}
use mathlib.Core.Logic.{⊎_elim, ◌≢◌}
use mathlib.Core.Bool.{true, false}
use mathlib.Core.List.{List}
use native.Mathlib.Decide.{dec_lt}
use native.Mathlib.Omega.{arith}
use lib.ListN.{get_or-eq_default}
use Rattle.order.specs.Set.{insert, remove}
use Rattle.nodes.specs.Nodes.{key_at, value_at}
use Rattle.terms.specs.Terms.{small}
use Rattle.terms.specs.declared.Op
use Rattle.steps.specs.declared.Session.{Session}
use Rattle.steps.specs.Steps
use Rattle.steps.specs.Steps.{busy_of}
use Rattle.reached.specs.Reached.{State, record_of, op_of, Past, Reached}
use Rattle.drawing.specs.Phases.{Op, upd, has, range, Phase, idle, walking, locking, locking_curr, checking, preparing}
use Rattle.drawing.specs.Phases.{numbering, linking, finishing, seeking, fixing, following, handing, task}
use Rattle.drawing.specs.Drawing.{Drawing}
use Rattle.words.proofs.Show.{op_word, task_word, Runs, Shown}
use Rattle.words.proofs.Land.{busy_or_idle, busy_record}
use Rattle.words.proofs.Whole.{reached_shown}

-- ---- a phase without an operation is idle
op_some : {P : Type 0} (op : Op) → op_word op ≡ Op.Op.None → P
op_some (upd (insert k v)) e = let z : ◌≡◌ {A = ℕ} 0 1 = cc in absurd (omega arith)
op_some (upd (remove k)) e = let z : ◌≡◌ {A = ℕ} 0 1 = cc in absurd (omega arith)
op_some (has k) e = let z : ◌≡◌ {A = ℕ} 0 1 = cc in absurd (omega arith)
op_some (range low high) e = let z : ◌≡◌ {A = ℕ} 0 1 = cc in absurd (omega arith)

pub none_idle : (φ : Phase) → task_word (task φ) ≡ Op.Op.None → φ ≡ idle
none_idle idle e = refl
none_idle (walking op p q) e = op_some op e
none_idle (locking u p q) e = op_some (upd u) e
none_idle (locking_curr k p q) e = op_some (upd (remove k)) e
none_idle (checking u p q) e = op_some (upd u) e
none_idle (preparing u p q) e = op_some (upd u) e
none_idle (numbering u p y z c) e = op_some (upd u) e
none_idle (linking u p y z c n) e = op_some (upd u) e
none_idle (finishing u p y z c n) e = op_some (upd u) e
none_idle (seeking k x) e = op_some (has k) e
none_idle (fixing low high p) e = op_some (range low high) e
none_idle (following low high x t given) e = op_some (range low high) e
none_idle (handing low high x t given) e = op_some (range low high) e

-- ---- the operation of a record
runs_op : (own : ℕ → List ℕ) (φ : Phase) (s : Session) → Runs own φ s → s.op ≡ task_word (task φ)
runs_op own idle s r = ap (λ (x : Session). x.op) r
runs_op own (walking op p q) s r = ap (λ (x : Session). x.op) r
runs_op own (locking u p q) s r = ap (λ (x : Session). x.op) r
runs_op own (locking_curr k p q) s r = ap (λ (x : Session). x.op) r
runs_op own (checking u p q) s r = ap (λ (x : Session). x.op) r
runs_op own (preparing u p q) s r = ap (λ (x : Session). x.op) r
runs_op own (numbering u p y z c) s (_, _, _, _, r) = ap (λ (x : Session). x.op) r
runs_op own (linking u p y z c n) s (_, _, _, _, r) = ap (λ (x : Session). x.op) r
runs_op own (finishing u p y z c n) s (_, _, _, _, r) = ap (λ (x : Session). x.op) r
runs_op own (seeking k x) s r = ap (λ (y : Session). y.op) r
runs_op own (fixing low high p) s r = ap (λ (x : Session). x.op) r
runs_op own (following low high x t given) s r = ap (λ (y : Session). y.op) r
runs_op own (handing low high x t given) s r = ap (λ (y : Session). y.op) r

nameless_idle : (s : Session) → s.op ≡ Op.Op.None → ¬ (busy_of s ≡ true)
nameless_idle s e busy =
    let calm : busy_of s ≡ false = rw e refl in
    let z : ◌≡◌ {A = ℕ} 0 1 = cc in omega arith

-- ---- of every session: one above 15 has an idle record
module _ (key val : ℕ → ℕ) (σ : State) (h : Past) (m : Drawing) (S : Shown small key val σ h m) (t : ℕ) where
  no_record : ¬ (t < 16) → record_of σ t ≡ Steps.idle
  no_record above = get_or-eq_default σ.register.sessions Steps.idle (omega (arith, S.sixteen))

  record_op : op_of σ t ≡ task_word (task (m.phase t))
  record_op = elim (dec_lt t 16) [
    | yes below ↦ runs_op S.own (m.phase t) (record_of σ t) (S.runs t below)
    | no above ↦ ap (λ (x : Session). x.op) (no_record above)
        ∙ sym (ap (λ φ. task_word (task φ)) (S.others t (omega arith)))
  ]

  record_busy : m.phase t ≢ idle → busy_of (record_of σ t) ≡ true
  record_busy some_phase = elim (dec_lt t 16) [
    | yes below ↦ ⊎_elim (λ b. busy_record S.own (m.phase t) (record_of σ t) b (S.runs t below))
        (λ e. absurd (some_phase e)) (busy_or_idle (m.phase t))
    | no above ↦ absurd (some_phase (S.others t (omega arith)))
  ]

-- ---- THE OPERATION UNDER WAY
module _ {σ : State} {h : Past} (r : Reached small σ h) (who : ℕ) where
  abbrev seen : (m : Drawing) × Shown small (key_at σ.nodes) (value_at σ.nodes) σ h m
  seen = reached_shown r (key_at σ.nodes) (value_at σ.nodes)
      (record { keyed = λ x _. refl; valued = λ x _. refl })

  pub under_way : h.under who ≡ op_of σ who
  under_way = seen.1.tells.under who ∙ sym (record_op _ _ σ h seen.0 seen.1 who)

  -- a record is busy exactly where there is one
  pub under_busy : h.under who ≢ Op.Op.None → busy_of (record_of σ who) ≡ true
  under_busy some_op = record_busy _ _ σ h seen.0 seen.1 who
      (λ e. some_op (seen.1.tells.under who ∙ ap (λ φ. task_word (task φ)) e))

  pub busy_under : busy_of (record_of σ who) ≡ true → h.under who ≢ Op.Op.None
  busy_under busy none = nameless_idle (record_of σ who) (sym under_way ∙ none) busy
