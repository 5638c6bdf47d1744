-- Link in words: pred's plain next moves on, and a removed node is marked, as in the drawing.
-- In order: the words after it; what the step is; Link.
-- Assumes nothing.
use Prim.Native.Nat.{ℕ, ◌*◌, ◌≤◌, ◌<◌}
use mathlib.Core.Path.{◌≡◌, refl, sym, ◌∙◌, ap}
use mathlib.Core.Logic.{inl, inr}
use mathlib.Core.Bool.{true, false}
use mathlib.Core.List.{List}
use native.Mathlib.Omega.{arith}
use lib.ListN.{length}
use Rattle.table.proofs.Laws.{store_length}
use Rattle.order.specs.Set.{Update, insert, remove}
use Rattle.order.specs.History.{empty}
use Rattle.nodes.specs.Nodes.{put_node, next_at, newest_at}
use Rattle.terms.specs.Terms.{small}
use Rattle.terms.specs.declared.Counters.{Counters}
use Rattle.steps.specs.declared.Phase
use Rattle.steps.specs.Steps.{moved, works, over, link_step}
use Rattle.finishing.proofs.Ways
use Rattle.reached.specs.Reached.{State, record_of, Past}
use Rattle.drawing.specs.Phases.{upd, Phase, linking, finishing}
use Rattle.drawing.specs.Drawing.{change, Drawing}
use Rattle.drawing.specs.Effects.{links, after}
use Rattle.drawing.specs.Steps.{working, link_it}
use Rattle.words.proofs.Show.{Nodes, op_word, running, Newest, Shown, Advanced}
use Rattle.words.proofs.Land.{used_of}
use Rattle.words.proofs.NodeWords.{redrawn, as_nodes, put_else, put_plain, put_gone}
use Rattle.words.proofs.Use.{nodes_fit}
use Rattle.words.proofs.Steady.{AgreesAfter, Turn, turn, its_facts, its_record, its_node, its_node_in, moves}

-- ---- the node table after Link
abbrev pub linked_words : Update → List ℕ → (p y : ℕ) → List ℕ
linked_words (insert k v) ns p y = put_node ns p 2 y
linked_words (remove k) ns p y = put_node (put_node ns y 4 1) p 2 (next_at ns y)

module _ (ns : List ℕ) (p y : ℕ) where
  linked_length : (u : Update) → length (linked_words u ns p y) ≡ length ns
  linked_length (insert k v) = store_length 6 ns p 2 y
  linked_length (remove k) = store_length 6 (put_node ns y 4 1) p 2 (next_at ns y) ∙ store_length 6 ns y 4 1

  linked_newest : (u : Update) (x : ℕ) → newest_at (linked_words u ns p y) x ≡ newest_at ns x
  linked_newest (insert k v) x = put_else ns p 2 y x 5 (omega arith) (omega arith) (omega arith)
  linked_newest (remove k) x =
      put_else (put_node ns y 4 1) p 2 (next_at ns y) x 5 (omega arith) (omega arith) (omega arith)
      ∙ put_else ns y 4 1 x 5 (omega arith) (omega arith) (omega arith)

  module _ (used : ℕ) (m : Drawing) (N : Nodes used ns m) (p<used : p < used) (y<used : y < used)
      (fits : used * 6 ≤ length ns) (t z : ℕ) (φ : Phase) (leads : m.plain y ≡ z) where
    linked_nodes : (u : Update) → Nodes used (linked_words u ns p y) (after empty m t (links u p y z) φ)
    linked_nodes (insert k v) = as_nodes used _ (redrawn m (change m.plain p y) m.lock m.gone) _
        (put_plain used ns m N p p<used fits y) (λ _. refl) (λ _. refl) (λ _. refl)
    linked_nodes (remove k) =
        let marked = redrawn m m.plain m.lock (change m.gone y true) in
        as_nodes used _ (redrawn marked (change m.plain p (next_at ns y)) m.lock (change m.gone y true)) _
        (put_plain used (put_node ns y 4 1) marked (put_gone used ns m N y y<used fits 1 true refl) p p<used
        (omega (arith, store_length 6 ns y 4 1)) (next_at ns y))
        (λ x. ap (λ a. change m.plain p a x) (sym (N.plain y y<used ∙ leads))) (λ _. refl) (λ _. refl)

-- ---- what the step is
link_acts : (ns : List ℕ) (c : Counters) (u : Update) (p y lower upper n : ℕ) → p < 512 → y < 512
    → moved (linked_words u ns p y) (works c (op_word (upd u)) (Phase.Phase.Finish p y lower upper n))
    ≡ link_step small ns c (op_word (upd u)) p y lower upper n
link_acts ns c (insert k v) p y lower upper n p_in y_in =
    Ways.link_insert small ns c _ p y lower upper n false refl _ refl
    (Ways.insert_links small ns c _ p y lower upper n _ _ p_in refl refl)
link_acts ns c (remove k) p y lower upper n p_in y_in =
    Ways.link_remove small ns c _ p y lower upper n true refl _ refl
    (Ways.remove_links small ns c _ p y lower upper n _ _ _ _ p_in y_in refl refl refl refl)

-- ---- Link, of a session whose record names its two entries
module _ {key val : ℕ → ℕ} {σ : State} {h : Past} {m : Drawing} {t : ℕ} (T : Turn key val σ h m t)
    {u : Update} {p y z c n : ℕ} (e : m.phase t ≡ linking u p y z c n) {lower upper : ℕ}
    (is : record_of σ t ≡ running (upd u) (Phase.Phase.Link p y lower upper n)) where
  links_it : Newest lower (T.shown.own p) → Newest upper (T.shown.own y) → Advanced key val σ h m t
  links_it newest_p newest_y =
      moves T e tt tt (linked_words u σ.nodes p y) (running (upd u) (Phase.Phase.Link p y lower upper n))
      (running (upd u) (Phase.Phase.Finish p y lower upper n)) working (links u p y z) (finishing u p y z c n) is
      (ap (over σ.entries) (sym (link_acts σ.nodes σ.register.counters u p y lower upper n
      (its_node_in T e p (inl refl)) (its_node_in T e y (inr refl)))))
      (link_it u p y z c n e) (linked_length σ.nodes p y u)
      (linked_nodes σ.nodes p y (used_of σ) m T.shown.nodes (its_node T e p (inl refl))
      (its_node T e y (inr refl)) (nodes_fit key val σ h m T.shown) t z (finishing u p y z c n)
      (its_facts T e).2.node_next u)
      (linked_newest σ.nodes p y u) (λ _. refl) refl (lower, upper, newest_p, newest_y, refl) tt

-- ---- LINK
module _ (key val : ℕ → ℕ) (σ : State) (h : Past) (m : Drawing) (S : Shown small key val σ h m) (t : ℕ)
    (t<16 : t < 16) (agrees : AgreesAfter key val σ t) where
  pub link_advances : (u : Update) (p y z c n : ℕ) → m.phase t ≡ linking u p y z c n → Advanced key val σ h m t
  link_advances u p y z c n e =
      let T = turn key val σ h m S t t<16 agrees in
      let (lower, upper, newest_p, newest_y, is) = its_record T e in
      links_it T e is newest_p newest_y
