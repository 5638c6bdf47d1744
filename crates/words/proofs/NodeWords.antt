-- The words of the nodes in use after each effect: plain links, locks and marks.
-- In order: locks given up; one word stored; a drawing with other links, locks or marks; each kind of store;
-- unlocking; a new node.
-- Not here: rows (RowWords). Assumes nothing.
use Prim.Native.Nat.{ℕ, ◌+◌, ◌*◌, ◌≤◌, ◌<◌}
use mathlib.Core.Path.{◌≡◌, refl, sym, ◌∙◌, ap}
use mathlib.Core.Logic.{inl, inr, ⊎_elim, ◌≢◌}
use mathlib.Core.Bool.{Bool, true, false}
use mathlib.Core.Option.{Option, none, some}
use mathlib.Core.List.{List}
use native.Mathlib.Decide.{ℕ_discrete}
use native.Mathlib.Omega.{arith}
use lib.ListN.{length}
use borrow.Author.Tests.{eq-eqb, ne_eqb}
use Rattle.table.proofs.Laws.{word_stored, word_else, store_length}
use Rattle.nodes.specs.Nodes.{node_at, put_node, key_at, value_at, next_at, lock_at, removed_at, newest_at}
use Rattle.nodes.specs.Nodes.{unlocked_both}
use Rattle.nodes.specs.Nodes.{named_node, clear_node, new_node}
use Rattle.order.specs.Set.{Update, insert, remove}
use Rattle.terms.specs.Terms.{removes_of}
use Rattle.drawing.specs.Phases.{OfRemove, upd}
use Rattle.drawing.specs.Drawing.{change, without, release, Drawing}
use Rattle.drawing.proofs.Change.{change_cases, pair_cases}
use Rattle.drawing.proofs.Inv.{Two}
use Rattle.words.proofs.Show.{lock_word, gone_word, Nodes, op_word}

-- ---- locks given up: those of `t`, and no others
without_own : (t : ℕ) → without t (some t) ≡ none
unfolding without
without_own t = rw (eq-eqb t t refl)

without_else : (t : ℕ) (o : Option ℕ) → o ≢ some t → without t o ≡ o
unfolding without
without_else t none other = refl
without_else t (some w) other = rw (ne_eqb w t (λ e. other (ap some e)))

-- the locks of an update's one or two nodes are free
abbrev pub freed : Update → (p y : ℕ) → (ℕ → Option ℕ) → ℕ → Option ℕ
freed (insert k v) p y lock = change lock p none
freed (remove k) p y lock = change (change lock p none) y none

module _ (t : ℕ) (lock : ℕ → Option ℕ) where
  own_given : (x y : ℕ) → x ≡ y → lock y ≡ some t → without t (lock x) ≡ none
  own_given x y x≡y l = ap (λ a. without t (lock a)) x≡y ∙ ap (without t) l ∙ without_own t

  pub release_frees : (u : Update) (p y : ℕ) → lock p ≡ some t → OfRemove u (lock y ≡ some t)
      → ((x : ℕ) → lock x ≡ some t → Two u p y x) → (x : ℕ) → release t lock x ≡ freed u p y lock x
  release_frees (insert k v) p y lp ly only x =
      change_cases (λ o. without t (lock x) ≡ o) lock p none x (λ e. own_given x p e lp)
      (λ d. without_else t (lock x) (λ l. d (only x l)))
  release_frees (remove k) p y lp ly only x =
      pair_cases (λ o. without t (lock x) ≡ o) lock p y none none x (λ e. own_given x y e ly)
      (λ d e. own_given x p e lp) (λ d d₂. without_else t (lock x) (λ l. ⊎_elim d₂ d (only x l)))

-- ---- one word stored
module _ (ns : List ℕ) (n k v : ℕ) where
  pub put_else : (x j : ℕ) → k < 6 → j < 6 → j ≢ k → node_at (put_node ns n k v) x j ≡ node_at ns x j
  put_else x j k<6 j<6 other = word_else 6 ns n k v x j k<6 j<6 (inr other)

  pub put_other : (x j : ℕ) → k < 6 → j < 6 → x ≢ n → node_at (put_node ns n k v) x j ≡ node_at ns x j
  put_other x j k<6 j<6 other = word_else 6 ns n k v x j k<6 j<6 (inl other)

  -- the word means a value of the drawing, which is changed alike
  pub put_change : {A : Type 0} (word : A → ℕ) (g : ℕ → A) (a : A) (x : ℕ) → k < 6 → n * 6 + k < length ns
      → v ≡ word a → node_at ns x k ≡ word (g x) → node_at (put_node ns n k v) x k ≡ word (change g n a x)
  put_change word g a x k<6 inside is rest =
      change_cases (λ b. node_at (put_node ns n k v) x k ≡ word b) g n a x
      (λ e. ap (λ y. node_at (put_node ns n k v) y k) e ∙ word_stored 6 ns n k v inside ∙ is)
      (λ d. put_other x k k<6 k<6 d ∙ rest)

-- ---- a drawing with other plain links, locks and marks
abbrev pub redrawn : Drawing → (ℕ → ℕ) → (ℕ → Option ℕ) → (ℕ → Bool) → Drawing
redrawn m plain lock gone = record {
  plain = plain;
  lock = lock;
  gone = gone;
  bundle = m.bundle;
  log = m.log;
  rows = m.rows;
  phase = m.phase;
  since = m.since;
}

pub as_nodes : (used : ℕ) (ns : List ℕ) (m m' : Drawing) → Nodes used ns m → ((x : ℕ) → m'.plain x ≡ m.plain x)
    → ((x : ℕ) → m'.lock x ≡ m.lock x) → ((x : ℕ) → m'.gone x ≡ m.gone x) → Nodes used ns m'
as_nodes used ns m m' N plain lock gone = record {
  plain = λ x h. N.plain x h ∙ sym (plain x);
  lock = λ x h. N.lock x h ∙ ap lock_word (sym (lock x));
  gone = λ x h. N.gone x h ∙ ap gone_word (sym (gone x));
}

-- ---- each kind of store at a node in use
module _ (used : ℕ) (ns : List ℕ) (m : Drawing) (N : Nodes used ns m) (y : ℕ) where
  pub put_newest : (v : ℕ) → Nodes used (put_node ns y 5 v) m
  put_newest v = record {
    plain = λ x h. put_else ns y 5 v x 2 (omega arith) (omega arith) (omega arith) ∙ N.plain x h;
    lock = λ x h. put_else ns y 5 v x 3 (omega arith) (omega arith) (omega arith) ∙ N.lock x h;
    gone = λ x h. put_else ns y 5 v x 4 (omega arith) (omega arith) (omega arith) ∙ N.gone x h;
  }

  module _ (y<used : y < used) (fits : used * 6 ≤ length ns) where
    pub put_plain : (v : ℕ) → Nodes used (put_node ns y 2 v) (redrawn m (change m.plain y v) m.lock m.gone)
    put_plain v = record {
      plain = λ x h. put_change ns y 2 v (λ a. a) m.plain v x (omega arith) (omega arith) refl (N.plain x h);
      lock = λ x h. put_else ns y 2 v x 3 (omega arith) (omega arith) (omega arith) ∙ N.lock x h;
      gone = λ x h. put_else ns y 2 v x 4 (omega arith) (omega arith) (omega arith) ∙ N.gone x h;
    }

    pub put_lock : (v : ℕ) (o : Option ℕ) → v ≡ lock_word o
        → Nodes used (put_node ns y 3 v) (redrawn m m.plain (change m.lock y o) m.gone)
    put_lock v o is = record {
      plain = λ x h. put_else ns y 3 v x 2 (omega arith) (omega arith) (omega arith) ∙ N.plain x h;
      lock = λ x h. put_change ns y 3 v lock_word m.lock o x (omega arith) (omega arith) is (N.lock x h);
      gone = λ x h. put_else ns y 3 v x 4 (omega arith) (omega arith) (omega arith) ∙ N.gone x h;
    }

    pub put_gone : (v : ℕ) (b : Bool) → v ≡ gone_word b
        → Nodes used (put_node ns y 4 v) (redrawn m m.plain m.lock (change m.gone y b))
    put_gone v b is = record {
      plain = λ x h. put_else ns y 4 v x 2 (omega arith) (omega arith) (omega arith) ∙ N.plain x h;
      lock = λ x h. put_else ns y 4 v x 3 (omega arith) (omega arith) (omega arith) ∙ N.lock x h;
      gone = λ x h. put_change ns y 4 v gone_word m.gone b x (omega arith) (omega arith) is (N.gone x h);
    }

-- ---- unlocking an update's nodes is giving up every lock, where they are all that it holds
module _ (used : ℕ) (ns : List ℕ) (m : Drawing) (N : Nodes used ns m) (fits : used * 6 ≤ length ns) (p y : ℕ)
    (p<used : p < used) (y<used : y < used) where
  freed_nodes : (u : Update) → Nodes used (unlocked_both ns p y (removes_of (op_word (upd u))))
      (redrawn m m.plain (freed u p y m.lock) m.gone)
  freed_nodes (insert k v) = put_lock used ns m N p p<used fits 0 none refl
  freed_nodes (remove k) =
      put_lock used (put_node ns p 3 0) (redrawn m m.plain (change m.lock p none) m.gone)
      (put_lock used ns m N p p<used fits 0 none refl) y y<used (omega (arith, store_length 6 ns p 3 0)) 0 none refl

  pub released_nodes : (u : Update) (t : ℕ) (m' : Drawing) → m.lock p ≡ some t → OfRemove u (m.lock y ≡ some t)
      → ((x : ℕ) → m.lock x ≡ some t → Two u p y x) → ((x : ℕ) → m'.plain x ≡ m.plain x)
      → ((x : ℕ) → m'.lock x ≡ release t m.lock x) → ((x : ℕ) → m'.gone x ≡ m.gone x)
      → Nodes used (unlocked_both ns p y (removes_of (op_word (upd u)))) m'
  released_nodes u t m' lp ly only plain lock gone =
      as_nodes used _ (redrawn m m.plain (freed u p y m.lock) m.gone) m' (freed_nodes u) plain
      (λ x. lock x ∙ release_frees t m.lock u p y lp ly only x) gone

-- unlocking leaves the other words
pub unlocked_else : (ns : List ℕ) (p y : ℕ) (both : Bool) (x j : ℕ) → j < 6 → j ≢ 3
    → node_at (unlocked_both ns p y both) x j ≡ node_at ns x j
unlocked_else ns p y false x j j<6 other = put_else ns p 3 0 x j (omega arith) j<6 other
unlocked_else ns p y true x j j<6 other =
    put_else (put_node ns p 3 0) y 3 0 x j (omega arith) j<6 other ∙ put_else ns p 3 0 x j (omega arith) j<6 other

pub unlocked_length : (ns : List ℕ) (p y : ℕ) (both : Bool) → length (unlocked_both ns p y both) ≡ length ns
unlocked_length ns p y false = store_length 6 ns p 3 0
unlocked_length ns p y true = store_length 6 (put_node ns p 3 0) y 3 0 ∙ store_length 6 ns p 3 0

-- ---- a new node's words, and the others
module _ (ns : List ℕ) (n k v q : ℕ) where
  pub new_length : length (new_node ns n k v q) ≡ length ns
  unfolding named_node clear_node
  new_length =
      store_length 6 _ n 5 0 ∙ store_length 6 _ n 4 0 ∙ store_length 6 _ n 3 0 ∙ store_length 6 _ n 2 q
      ∙ store_length 6 _ n 1 v ∙ store_length 6 ns n 0 k

  named_length : length (named_node ns n k v q) ≡ length ns
  unfolding named_node
  named_length = store_length 6 _ n 2 q ∙ store_length 6 _ n 1 v ∙ store_length 6 ns n 0 k

  pub new_other : (x j : ℕ) → j < 6 → x ≢ n → node_at (new_node ns n k v q) x j ≡ node_at ns x j
  unfolding named_node clear_node
  new_other x j j<6 other =
      put_other _ n 5 0 x j (omega arith) j<6 other ∙ put_other _ n 4 0 x j (omega arith) j<6 other
      ∙ put_other _ n 3 0 x j (omega arith) j<6 other ∙ put_other _ n 2 q x j (omega arith) j<6 other
      ∙ put_other _ n 1 v x j (omega arith) j<6 other ∙ put_other ns n 0 k x j (omega arith) j<6 other

  -- clearing leaves key, value and plain link
  cleared_else : (j : ℕ) → j < 3 → node_at (new_node ns n k v q) n j ≡ node_at (named_node ns n k v q) n j
  unfolding clear_node
  cleared_else j j<3 =
      put_else _ n 5 0 n j (omega arith) (omega arith) (omega arith)
      ∙ put_else _ n 4 0 n j (omega arith) (omega arith) (omega arith)
      ∙ put_else _ n 3 0 n j (omega arith) (omega arith) (omega arith)

  module _ (inside : n * 6 + 5 < length ns) where
    pub new_key : key_at (new_node ns n k v q) n ≡ k
    unfolding named_node
    new_key =
        cleared_else 0 (omega arith) ∙ put_else _ n 2 q n 0 (omega arith) (omega arith) (omega arith)
        ∙ put_else _ n 1 v n 0 (omega arith) (omega arith) (omega arith) ∙ word_stored 6 ns n 0 k (omega arith)

    pub new_value : value_at (new_node ns n k v q) n ≡ v
    unfolding named_node
    new_value =
        cleared_else 1 (omega arith) ∙ put_else _ n 2 q n 1 (omega arith) (omega arith) (omega arith)
        ∙ word_stored 6 _ n 1 v (omega (arith, store_length 6 ns n 0 k))

    pub new_next : next_at (new_node ns n k v q) n ≡ q
    unfolding named_node
    new_next =
        cleared_else 2 (omega arith)
        ∙ word_stored 6 _ n 2 q
        (omega (arith, store_length 6 ns n 0 k, store_length 6 (put_node ns n 0 k) n 1 v))

    pub new_lock : lock_at (new_node ns n k v q) n ≡ 0
    unfolding clear_node
    new_lock =
        put_else _ n 5 0 n 3 (omega arith) (omega arith) (omega arith)
        ∙ put_else _ n 4 0 n 3 (omega arith) (omega arith) (omega arith)
        ∙ word_stored 6 _ n 3 0 (omega (arith, named_length))

    pub new_gone : removed_at (new_node ns n k v q) n ≡ 0
    unfolding clear_node
    new_gone =
        put_else _ n 5 0 n 4 (omega arith) (omega arith) (omega arith)
        ∙ word_stored 6 _ n 4 0 (omega (arith, named_length, store_length 6 (named_node ns n k v q) n 3 0))

    pub new_newest : newest_at (new_node ns n k v q) n ≡ 0
    unfolding clear_node
    new_newest =
        word_stored 6 _ n 5 0
        (omega (
          arith,
          named_length,
          store_length 6 (named_node ns n k v q) n 3 0,
          store_length 6 (put_node (named_node ns n k v q) n 3 0) n 4 0,
        ))

-- the first node not in use is new: unlocked and not removed
pub new_nodes : (used : ℕ) (ns : List ℕ) (m : Drawing) (k v q : ℕ) → Nodes used ns m → used * 6 + 5 < length ns
    → m.lock used ≡ none → Nodes (used + 1) (new_node ns used k v q)
    (redrawn m (change m.plain used q) m.lock (change m.gone used false))
new_nodes used ns m k v q N inside unlocked = record {
  plain = λ x h. change_cases (λ a. next_at (new_node ns used k v q) x ≡ a) m.plain used q x
      (λ e. ap (next_at (new_node ns used k v q)) e ∙ new_next ns used k v q inside)
      (λ d. new_other ns used k v q x 2 (omega arith) d ∙ N.plain x (omega arith));
  lock = λ x h. elim (ℕ_discrete x used) [
    | yes e ↦ ap (lock_at (new_node ns used k v q)) e ∙ new_lock ns used k v q inside
        ∙ ap lock_word (sym (ap m.lock e ∙ unlocked))
    | no d ↦ new_other ns used k v q x 3 (omega arith) d ∙ N.lock x (omega arith)
  ];
  gone = λ x h. change_cases (λ a. removed_at (new_node ns used k v q) x ≡ gone_word a) m.gone used false x
      (λ e. ap (removed_at (new_node ns used k v q)) e ∙ new_gone ns used k v q inside)
      (λ d. new_other ns used k v q x 4 (omega arith) d ∙ N.gone x (omega arith));
}
