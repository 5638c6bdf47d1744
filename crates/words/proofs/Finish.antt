-- Finish in words: both entries get the number, all locks are given up, and the answer is the update's.
-- In order: entries are in the table; the tests; the answer; rows after it; Finish.
-- Assumes nothing.
use Prim.Native.Nat.{ℕ, ◌<◌}
use mathlib.Core.Path.{◌≡◌, refl, sym, ◌∙◌, subst}
use mathlib.Core.Logic.{inl, inr}
use mathlib.Core.Bool.{true, false}
use mathlib.Core.List.{List, ◌∷◌}
use native.Mathlib.Omega.{arith}
use borrow.Author.Tests.{lt-ltb}
use Rattle.order.specs.Set.{Update, insert, remove}
use Rattle.order.specs.Rows.{Row}
use Rattle.bundle.specs.Bundle.{finish_of}
use Rattle.bundle.proofs.Promise.{finish_length}
use Rattle.terms.specs.Terms.{small, removes_of}
use Rattle.steps.specs.declared.Phase
use Rattle.steps.specs.Steps
use Rattle.steps.specs.Steps.{usable, finished_of, finish_step, ends}
use Rattle.finishing.proofs.Ways
use Rattle.reached.specs.Reached.{State, record_of, Past}
use Rattle.drawing.specs.Phases.{pred_target, node_target, upd, Phase, idle, finishing}
use Rattle.drawing.specs.Drawing.{change, final, pending, Drawing}
use Rattle.drawing.specs.Effects.{finishes}
use Rattle.drawing.specs.Steps.{done, finish_it}
use Rattle.drawing.proofs.Change.{change_other}
use Rattle.drawing.proofs.Room.{Names}
use Rattle.words.proofs.Show.{Sinks, Rows, op_word, running, Newest, out_word, Shown, Advanced}
use Rattle.words.proofs.Land.{used_of}
use Rattle.words.proofs.NodeWords.{unlocked_length}
use Rattle.words.proofs.RowWords.{bundled, rows_kept, finish_rows}
use Rattle.words.proofs.Use.{entries_most}
use Rattle.words.proofs.Leave.{unlocked_for, left_nodes, left_newest}
use Rattle.words.proofs.Steady.{AgreesAfter, Turn, turn, its_facts, its_record, its_node, its_node_in, steady}

-- ---- a newest entry is below the counter
newest_below : (e b : ℕ) (own : List ℕ) → Newest e own → Sinks b own → e < b
newest_below e b own (rest, is) s = (subst (λ o. Sinks b o) is s).0

-- ---- the tests of numbers, and the answer
usable_both : (u : Update) (p y lower upper : ℕ) → lower < 2048 → upper < 2048 → p < 512 → y < 512
    → true ≡ usable small (op_word (upd u)) p y lower upper
usable_both (insert k v) p y lower upper lower_in upper_in p_in y_in =
    Ways.usable_insert small _ p y lower upper lower_in upper_in p_in false refl refl
usable_both (remove k) p y lower upper lower_in upper_in p_in y_in =
    sym (lt-ltb y 512 y_in) ∙ Ways.usable_remove small _ p y lower upper lower_in upper_in p_in true refl refl

answer_is : (u : Update) (n : ℕ) → out_word (done u n) ≡ finished_of (op_word (upd u)) n
answer_is (insert k v) n = refl
answer_is (remove k) n = refl

-- ---- Finish, of a session whose record names its two entries
module _ {key val : ℕ → ℕ} {σ : State} {h : Past} {m : Drawing} {t : ℕ} (T : Turn key val σ h m t)
    {u : Update} {p y z c n : ℕ} (e : m.phase t ≡ finishing u p y z c n) {lower upper : ℕ}
    (is : record_of σ t ≡ running (upd u) (Phase.Phase.Finish p y lower upper n))
    (newest_p : Newest lower (T.shown.own p)) (newest_y : Newest upper (T.shown.own y)) where
  entry_in : (x i : ℕ) → Names (finishing u p y z c n) x → Newest i (T.shown.own x) → i < 2048
  entry_in x i named newest = omega (
    arith,
    newest_below i _ (T.shown.own x) newest (T.shown.rows.sinks x (its_node T e x named)),
    entries_most key val σ h m T.shown,
  )

  -- the two bundles' final rows
  abbrev pred_row : Row
  pred_row = (its_facts T e).2.row_p

  abbrev node_row : Row
  node_row = (its_facts T e).2.row_y

  pends_p : m.bundle p ≡ pending t c (pred_target u y z) pred_row
  pends_p = (its_facts T e).2.pend_p

  pends_y : m.bundle y ≡ pending t c (node_target u y z) node_row
  pends_y = (its_facts T e).2.pend_y

  -- ---- rows: pred's newest is final, then the node's
  abbrev after_p : Drawing
  after_p = bundled m (change m.bundle p (final ((n, pred_target u y z) ∷ pred_row)))

  abbrev finished : List ℕ
  finished = finish_of (finish_of σ.entries lower n) upper n

  pred_rows : Rows 2048 (used_of σ) σ.register.counters.entries σ.nodes (finish_of σ.entries lower n)
      T.shown.own after_p
  pred_rows = finish_rows 2048 _ _ σ.nodes σ.entries T.shown.own m T.shown.rows p lower n t c
      (pred_target u y z) pred_row (its_node T e p (inl refl)) pends_p T.shown.whole_entries newest_p

  both_rows : Rows 2048 (used_of σ) σ.register.counters.entries σ.nodes finished T.shown.own
      (bundled after_p (change after_p.bundle y (final ((n, node_target u y z) ∷ node_row))))
  both_rows = finish_rows 2048 _ _ σ.nodes (finish_of σ.entries lower n) T.shown.own after_p pred_rows y
      upper n t c (node_target u y z) node_row (its_node T e y (inr refl))
      (change_other m.bundle p _ y (λ same. (its_facts T e).2.distinct (sym same)) ∙ pends_y)
      (finish_length σ.entries lower n ∙ T.shown.whole_entries) newest_y

  -- ---- what the step is
  finish_acts : Steps.done (unlocked_for σ.nodes u p y) finished
      (ends σ.register.counters (out_word (done u n)))
      ≡ finish_step small σ.nodes σ.entries σ.register.counters (op_word (upd u)) p y lower upper n
  finish_acts = Ways.finishes small σ.nodes σ.entries σ.register.counters (op_word (upd u)) p y lower upper n
      true (usable_both u p y lower upper (entry_in p lower (inl refl) newest_p)
      (entry_in y upper (inr refl) newest_y) (its_node_in T e p (inl refl)) (its_node_in T e y (inr refl)))
      _ _ _ _ _ _ refl refl refl refl refl (answer_is u n) refl

  finishes_it : Advanced key val σ h m t
  finishes_it =
      steady T e tt tt (unlocked_for σ.nodes u p y) finished
      (running (upd u) (Phase.Phase.Finish p y lower upper n)) Steps.idle (done u n)
      (finishes u p y z n pred_row node_row) idle is (sym finish_acts)
      (finish_it u p y z c n pred_row node_row e pends_p pends_y)
      (unlocked_length σ.nodes p y (removes_of (op_word (upd u))))
      (finish_length (finish_of σ.entries lower n) upper n ∙ finish_length σ.entries lower n)
      (left_nodes T e u p y (inl refl) (inr refl) (its_facts T e).0 (λ x a. a) _ (λ _. refl) (λ _. refl) (λ _. refl))
      (rows_kept _ _ _ σ.nodes _ T.shown.own _ both_rows _ _
      (λ x _. left_newest T e u p y (inl refl) (inr refl) (its_facts T e).0 (λ x a. a) x) (λ _. refl))
      refl refl tt

-- ---- FINISH
module _ (key val : ℕ → ℕ) (σ : State) (h : Past) (m : Drawing) (S : Shown small key val σ h m) (t : ℕ)
    (t<16 : t < 16) (agrees : AgreesAfter key val σ t) where
  pub finish_advances : (u : Update) (p y z c n : ℕ) → m.phase t ≡ finishing u p y z c n → Advanced key val σ h m t
  finish_advances u p y z c n e =
      let T = turn key val σ h m S t t<16 agrees in
      let (lower, upper, newest_p, newest_y, is) = its_record T e in
      finishes_it T e is newest_p newest_y
