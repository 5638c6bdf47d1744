-- Lock in words: it takes the lock or waits, as in the drawing.
-- In order: the lock's word; one Lock of any node; Lock of pred; Lock of curr.
-- Assumes nothing.
use Prim.Native.Nat.{ℕ, ◌+◌, ◌<◌}
use mathlib.Core.Path.{◌≡◌, refl, sym, ◌∙◌, ap}
use mathlib.Core.Logic.{inl, inr, ⊎_elim}
use mathlib.Core.Bool.{true, false}
use mathlib.Core.Option.{Option, none, some}
use mathlib.Core.List.{List}
use native.Mathlib.Omega.{arith}
use borrow.Author.Tests.{eq-eqb, ne_eqb}
use Rattle.table.proofs.Laws.{store_length}
use Rattle.order.specs.Set.{Pair, Update, insert, remove}
use Rattle.order.specs.History.{empty}
use Rattle.order.proofs.Rows.{some_same}
use Rattle.nodes.specs.Nodes.{put_node, lock_at}
use Rattle.terms.specs.Terms.{small}
use Rattle.steps.specs.declared.Phase
use Rattle.steps.specs.Steps.{free, locked_of, over, lock_step}
use Rattle.locking.proofs.Ways.{lock_takes, lock_waits}
use Rattle.reached.specs.Reached.{State, record_of, Past}
use Rattle.drawing.specs.Phases.{upd, locked, Phase, locking, locking_curr, checking}
use Rattle.drawing.specs.Drawing.{Drawing}
use Rattle.drawing.specs.Effects.{holds, after}
use Rattle.drawing.specs.Steps.{working, Held, Free, Step, Waits, lock_pred, lock_curr}
use Rattle.drawing.proofs.Goes.{lock_cases}
use Rattle.drawing.proofs.Room.{Names}
use Rattle.words.proofs.Show.{lock_word, Nodes, op_word, running, Runs, HandedIn, Shown, Advanced}
use Rattle.words.proofs.Land.{used_of, Busy, NoNumber}
use Rattle.words.proofs.NodeWords.{as_nodes, put_lock, put_else}
use Rattle.words.proofs.Use.{nodes_fit}
use Rattle.words.proofs.Steady.{AgreesAfter, act_of, Turn, turn, its_record, its_node, its_node_in, waits_here}
use Rattle.words.proofs.Steady.{moves}

-- ---- the lock's word
free_word : (t : ℕ) (o : Option ℕ) → Free t o → true ≡ free t (lock_word o)
unfolding free
free_word t none f = refl
free_word t (some w) f =
    rw (ne_eqb (w + 1) 0 (λ e. omega arith), eq-eqb (w + 1) (t + 1) (ap (λ a. a + 1) (f w refl))) refl

held_word : (t : ℕ) (o : Option ℕ) → Held t o → false ≡ free t (lock_word o)
unfolding free
held_word t none (w, e, other) = let z : ◌≡◌ {A = ℕ} 0 1 = cc in absurd (omega arith)
held_word t (some v) (w, e, other) =
    rw (ne_eqb (v + 1) 0 (λ e. omega arith), ne_eqb (v + 1) (t + 1) (λ d. other (some_same e refl ∙ omega arith)))
    refl

-- ---- Lock of node x, from phase φ₀ to φ
module _ {key val : ℕ → ℕ} {σ : State} {h : Past} {m : Drawing} {t : ℕ} (T : Turn key val σ h m t) {φ₀ : Phase}
    (here : m.phase t ≡ φ₀) (busy : Busy φ₀) (other : NoNumber φ₀) (φ : Phase) (u : Update) (x : ℕ)
    (named : Names φ₀ x) (now then : Phase.Phase) (is : record_of σ t ≡ running (upd u) now)
    (acts : act_of σ t (running (upd u) now)
    ≡ over σ.entries (lock_step small σ.nodes σ.register.counters t (op_word (upd u)) x now then)) where
  lock_word_lem : lock_word (m.lock x) ≡ lock_at σ.nodes x
  lock_word_lem = sym (T.shown.nodes.lock x (its_node T here x named))

  lock_nodes : Nodes (used_of σ) (put_node σ.nodes x 3 (t + 1)) (after empty m t (holds x) φ)
  lock_nodes = as_nodes (used_of σ) _ _ _
      (put_lock (used_of σ) σ.nodes m T.shown.nodes x (its_node T here x named)
      (nodes_fit key val σ h m T.shown) (t + 1) (some t) refl) (λ _. refl) (λ _. refl) (λ _. refl)

  lock_goes : Free t (m.lock x) → Step key val empty t m working (holds x) φ
      → Runs T.shown.own φ (running (upd u) then) → HandedIn φ (h.handed t) → Advanced key val σ h m t
  lock_goes is_free step runs handed =
      moves T here busy other (put_node σ.nodes x 3 (t + 1)) (running (upd u) now) (running (upd u) then) working
      (holds x) φ is
      (acts ∙ ap (over σ.entries) (sym (lock_takes small σ.nodes σ.register.counters t (op_word (upd u)) x
      now then _ _ true (its_node_in T here x named) lock_word_lem (free_word t (m.lock x) is_free) _ refl refl refl)))
      step (store_length 6 σ.nodes x 3 (t + 1)) lock_nodes
      (λ y. put_else σ.nodes x 3 (t + 1) y 5 (omega arith) (omega arith) (omega arith)) (λ _. refl) refl runs
      handed

  lock_held : Held t (m.lock x) → Waits t m → Advanced key val σ h m t
  lock_held is_held_lem w = waits_here T here busy (running (upd u) now) is w
      (acts ∙ ap (over σ.entries) (sym (lock_waits small σ.nodes σ.register.counters t (op_word (upd u)) x
      now then _ _ false (its_node_in T here x named) lock_word_lem (held_word t (m.lock x) is_held_lem) refl refl)))

-- ---- after Lock of pred: a remove's curr is next, or an insert's Check
locked_runs : (own : ℕ → List ℕ) (u : Update) (p q : ℕ)
    → Runs own (locked u p q) (running (upd u) (locked_of (op_word (upd u)) p q))
locked_runs own (insert k v) p q = refl
locked_runs own (remove k) p q = refl

locked_handed : (u : Update) (p q : ℕ) (l : List Pair) → HandedIn (locked u p q) l
locked_handed (insert k v) p q l = tt
locked_handed (remove k) p q l = tt

module _ {key val : ℕ → ℕ} {σ : State} {h : Past} {m : Drawing} {t : ℕ} (T : Turn key val σ h m t) where
  locks_pred : (u : Update) (p q : ℕ) → m.phase t ≡ locking u p q → Advanced key val σ h m t
  locks_pred u p q e = ⊎_elim
      (λ f. lock_goes T e tt tt (locked u p q) u p (inl refl) (Phase.Phase.Lock p q) _ (its_record T e) refl f
      (lock_pred u p q e f) (locked_runs T.shown.own u p q) (locked_handed u p q (h.handed t)))
      (λ held. lock_held T e tt tt (locked u p q) u p (inl refl) (Phase.Phase.Lock p q) _ (its_record T e) refl held
      (rw e held)) (lock_cases t (m.lock p))

  locks_curr : (k p q : ℕ) → m.phase t ≡ locking_curr k p q → Advanced key val σ h m t
  locks_curr k p q e = ⊎_elim
      (λ f. lock_goes T e tt tt (checking (remove k) p q) (remove k) q (inr refl) (Phase.Phase.LockCurr p q)
      (Phase.Phase.Check p q) (its_record T e) refl f (lock_curr k p q e f) refl tt)
      (λ held. lock_held T e tt tt (checking (remove k) p q) (remove k) q (inr refl) (Phase.Phase.LockCurr p q)
      (Phase.Phase.Check p q) (its_record T e) refl held (rw e held)) (lock_cases t (m.lock q))

-- ---- LOCK
module _ (key val : ℕ → ℕ) (σ : State) (h : Past) (m : Drawing) (S : Shown small key val σ h m) (t : ℕ)
    (t<16 : t < 16) (agrees : AgreesAfter key val σ t) where
  pub lock_advances : (u : Update) (p q : ℕ) → m.phase t ≡ locking u p q → Advanced key val σ h m t
  lock_advances = locks_pred (turn key val σ h m S t t<16 agrees)

  pub lock_curr_advances : (k p q : ℕ) → m.phase t ≡ locking_curr k p q → Advanced key val σ h m t
  lock_curr_advances = locks_curr (turn key val σ h m S t t<16 agrees)
