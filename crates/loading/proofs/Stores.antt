-- What the words of the tables are after one key more, after all keys, and fresh.
-- In order: one store; a new node; one key more, in the nodes and in the entries; all keys; fresh tables.
-- Not here: where nodes lead (Chain). Assumes nothing.
use Prim.Native.Nat.{ℕ, ◌+◌, ◌*◌, ◌≤◌, ◌<◌}
use mathlib.Core.Path.{◌≡◌, refl, ◌∙◌}
use mathlib.Core.Logic.{◌≢◌}
use mathlib.Core.List.{List, [], ◌∷◌}
use native.Mathlib.Omega.{arith}
use lib.ListN.{length, length-replicate, get_or-replicate}
use lib.Seq.{get_or-set_other}
use borrow.Author.Tests.{ne_eqb}
use Rattle.table.specs.Table.{word_of, store_of, clear_of}
use Rattle.table.proofs.Laws.{word_stored, store_length}
use Rattle.bundle.specs.Bundle.{word_at}
use Rattle.bundle.proofs.Promise.{lay_length, lay_else, lay_target}
use Rattle.bundle.proofs.Promise.{finish_length, finish_else, finish_target, finish_final}
use Rattle.nodes.specs.Nodes.{node_at, put_node, key_at, value_at, next_at, lock_at, removed_at, newest_at, new_node}
use Rattle.nodes.specs.Nodes.{named_node, clear_node}
use Rattle.terms.specs.Terms.{tail_key}
use Rattle.terms.specs.declared.Counters.{Counters}
use Rattle.steps.specs.Steps.{Tables, tables}
use Rattle.register.specs.Register.{fresh_nodes, fresh_entries}
use Rattle.loading.specs.Filing.{used, pred_of, prepared_nodes, filed_nodes, prepared_entries}
use Rattle.loading.specs.Filing.{filed_entries, filed_all}
use Rattle.loading.proofs.Words.{pred_below}

abbrev pub nodes_in : Tables → List ℕ
nodes_in (tables ns es) = ns

abbrev pub entries_in : Tables → List ℕ
entries_in (tables ns es) = es

-- ---- one store: a word at another place stays
pub put_off : (ns : List ℕ) (n k v j l : ℕ) → j * 6 + l ≢ n * 6 + k → node_at (put_node ns n k v) j l ≡ node_at ns j l
unfolding word_of store_of
put_off ns n k v j l apart = get_or-set_other ns (n * 6 + k) (j * 6 + l) v 0 apart

-- ---- a new node
module _ (ns : List ℕ) (n key value next : ℕ) where
  pub new_length : length (new_node ns n key value next) ≡ length ns
  unfolding named_node clear_node
  new_length = simp store_length

  pub new_off : (j l : ℕ) → j * 6 + l < n * 6 → node_at (new_node ns n key value next) j l ≡ node_at ns j l
  unfolding named_node clear_node
  new_off j l h =
      put_off _ n 5 0 j l (omega arith) ∙ put_off _ n 4 0 j l (omega arith) ∙ put_off _ n 3 0 j l (omega arith) ∙
      put_off _ n 2 next j l (omega arith) ∙ put_off _ n 1 value j l (omega arith) ∙
      put_off ns n 0 key j l (omega arith)

  module _ (room : n * 6 + 5 < length ns) where
    new_named : (l : ℕ) → l < 3 →
        node_at (new_node ns n key value next) n l ≡ node_at (named_node ns n key value next) n l
    unfolding clear_node
    new_named l h =
        put_off _ n 5 0 n l (omega arith) ∙ put_off _ n 4 0 n l (omega arith) ∙ put_off _ n 3 0 n l (omega arith)

    pub new_key : key_at (new_node ns n key value next) n ≡ key
    unfolding named_node
    new_key =
        new_named 0 (omega arith) ∙ put_off _ n 2 next n 0 (omega arith) ∙ put_off _ n 1 value n 0 (omega arith) ∙
        word_stored 6 ns n 0 key (omega arith)

    pub new_value : value_at (new_node ns n key value next) n ≡ value
    unfolding named_node
    new_value =
        new_named 1 (omega arith) ∙ put_off _ n 2 next n 1 (omega arith) ∙
        word_stored 6 _ n 1 value (simp store_length (omega arith))

    pub new_next : next_at (new_node ns n key value next) n ≡ next
    unfolding named_node
    new_next = new_named 2 (omega arith) ∙ word_stored 6 _ n 2 next (simp store_length (omega arith))

    pub new_lock : lock_at (new_node ns n key value next) n ≡ 0
    unfolding named_node clear_node
    new_lock =
        put_off _ n 5 0 n 3 (omega arith) ∙ put_off _ n 4 0 n 3 (omega arith) ∙
        word_stored 6 _ n 3 0 (simp store_length (omega arith))

    pub new_removed : removed_at (new_node ns n key value next) n ≡ 0
    unfolding named_node clear_node
    new_removed = put_off _ n 5 0 n 4 (omega arith) ∙ word_stored 6 _ n 4 0 (simp store_length (omega arith))

    pub new_newest : newest_at (new_node ns n key value next) n ≡ 0
    unfolding named_node clear_node
    new_newest = word_stored 6 _ n 5 0 (simp store_length (omega arith))

-- ---- one key more, in the nodes: pred stands before the new node
module _ (c : Counters) (p k v : ℕ) (ns : List ℕ) where
  pub filed_length : length (filed_nodes c p k v ns) ≡ length ns
  unfolding filed_nodes prepared_nodes named_node clear_node
  filed_length = simp store_length

  module _ (before : p < c.nodes) where
    -- nodes before the new one stay, but for pred's plain next, lock and newest entry
    pub filed_off : (j l : ℕ) → j * 6 + l < c.nodes * 6 → j * 6 + l ≢ p * 6 + 2 → j * 6 + l ≢ p * 6 + 3 →
        j * 6 + l ≢ p * 6 + 5 → node_at (filed_nodes c p k v ns) j l ≡ node_at ns j l
    unfolding filed_nodes prepared_nodes
    filed_off j l below next lock newest =
        put_off _ p 3 0 j l lock ∙ put_off _ p 2 c.nodes j l next ∙
        put_off _ c.nodes 5 (c.entries + 2) j l (omega arith) ∙ put_off _ p 5 (c.entries + 1) j l newest ∙
        new_off ns c.nodes k v 1 j l below

    module _ (room : c.nodes * 6 + 5 < length ns) where
      pub filed_next : next_at (filed_nodes c p k v ns) p ≡ c.nodes
      unfolding filed_nodes prepared_nodes named_node clear_node
      filed_next = put_off _ p 3 0 p 2 (omega arith) ∙ word_stored 6 _ p 2 c.nodes (simp store_length (omega arith))

      pub filed_newest : newest_at (filed_nodes c p k v ns) p ≡ c.entries + 1
      unfolding filed_nodes prepared_nodes named_node clear_node
      filed_newest =
          put_off _ p 3 0 p 5 (omega arith) ∙ put_off _ p 2 c.nodes p 5 (omega arith) ∙
          put_off _ c.nodes 5 (c.entries + 2) p 5 (omega arith) ∙
          word_stored 6 _ p 5 (c.entries + 1) (simp store_length (omega arith))

      -- the new node
      pub filed_own_newest : newest_at (filed_nodes c p k v ns) c.nodes ≡ c.entries + 2
      unfolding filed_nodes prepared_nodes named_node clear_node
      filed_own_newest =
          put_off _ p 3 0 c.nodes 5 (omega arith) ∙ put_off _ p 2 c.nodes c.nodes 5 (omega arith) ∙
          word_stored 6 _ c.nodes 5 (c.entries + 2) (simp store_length (omega arith))

      filed_own : (l : ℕ) → l < 5 →
          node_at (filed_nodes c p k v ns) c.nodes l ≡ node_at (new_node ns c.nodes k v 1) c.nodes l
      unfolding filed_nodes prepared_nodes
      filed_own l h =
          put_off _ p 3 0 c.nodes l (omega arith) ∙ put_off _ p 2 c.nodes c.nodes l (omega arith) ∙
          put_off _ c.nodes 5 (c.entries + 2) c.nodes l (omega arith) ∙
          put_off _ p 5 (c.entries + 1) c.nodes l (omega arith)

      pub filed_own_key : key_at (filed_nodes c p k v ns) c.nodes ≡ k
      filed_own_key = filed_own 0 (omega arith) ∙ new_key ns c.nodes k v 1 room

      pub filed_own_value : value_at (filed_nodes c p k v ns) c.nodes ≡ v
      filed_own_value = filed_own 1 (omega arith) ∙ new_value ns c.nodes k v 1 room

      pub filed_own_next : next_at (filed_nodes c p k v ns) c.nodes ≡ 1
      filed_own_next = filed_own 2 (omega arith) ∙ new_next ns c.nodes k v 1 room

      pub filed_own_lock : lock_at (filed_nodes c p k v ns) c.nodes ≡ 0
      filed_own_lock = filed_own 3 (omega arith) ∙ new_lock ns c.nodes k v 1 room

      pub filed_own_removed : removed_at (filed_nodes c p k v ns) c.nodes ≡ 0
      filed_own_removed = filed_own 4 (omega arith) ∙ new_removed ns c.nodes k v 1 room

-- ---- and in the entries
module _ (c : Counters) (older : ℕ) (es : List ℕ) where
  pub entries_length : length (filed_entries c older es) ≡ length es
  unfolding filed_entries prepared_entries
  entries_length = simp (finish_length, lay_length)

  pub entries_below : (d l : ℕ) → d < c.entries → l < 4 → word_at (filed_entries c older es) d l ≡ word_at es d l
  unfolding filed_entries prepared_entries
  entries_below d l below l<4 =
      finish_else _ (c.entries + 1) (c.stamp + 1) d l l<4 (omega arith) ∙
      finish_else _ c.entries (c.stamp + 1) d l l<4 (omega arith) ∙
      lay_else _ (c.entries + 1) 1 c.stamp 0 d l l<4 (omega arith) ∙
      lay_else es c.entries c.nodes c.stamp older d l l<4 (omega arith)

  module _ (room : (c.entries + 1) * 4 + 3 < length es) where
    -- pred's new entry leads to the new node
    pub entry_before : word_at (filed_entries c older es) c.entries 0 ≡ c.nodes
    unfolding filed_entries prepared_entries
    entry_before =
        finish_else _ (c.entries + 1) (c.stamp + 1) c.entries 0 (omega arith) (omega arith) ∙
        finish_target _ c.entries (simp lay_length (omega arith)) (c.stamp + 1) ∙
        lay_else _ (c.entries + 1) 1 c.stamp 0 c.entries 0 (omega arith) (omega arith) ∙
        lay_target es c.entries (omega arith) c.nodes c.stamp older

    -- and the new node's own to the tail; it is final
    pub entry_own : word_at (filed_entries c older es) (c.entries + 1) 0 ≡ 1
    unfolding filed_entries prepared_entries
    entry_own =
        finish_target _ (c.entries + 1) (simp (finish_length, lay_length) (omega arith)) (c.stamp + 1) ∙
        finish_else _ c.entries (c.stamp + 1) (c.entries + 1) 0 (omega arith) (omega arith) ∙
        lay_target _ (c.entries + 1) (simp lay_length (omega arith)) 1 c.stamp 0

    pub entry_own_final : word_at (filed_entries c older es) (c.entries + 1) 2 ≡ 0
    unfolding filed_entries prepared_entries
    entry_own_final =
        finish_final _ (c.entries + 1) (simp (finish_length, lay_length) (omega arith)) (c.stamp + 1)

-- ---- all keys: what lies before stays
pub pred_next : (i : ℕ) → pred_of (i + 1) ≡ i + 2
unfolding pred_of
pred_next i = rw (ne_eqb (i + 1) 0 (λ e. omega arith)) (omega arith)

-- the tables with one key more
abbrev pub nodes_with : ℕ → ℕ → ℕ → List ℕ → List ℕ
nodes_with i k v ns = filed_nodes (used i) (pred_of i) k v ns

abbrev pub entries_with : ℕ → List ℕ → List ℕ → List ℕ
entries_with i ns es = filed_entries (used i) (newest_at ns (pred_of i)) es

pub all_nodes_below : (ks vs ns es : List ℕ) (i j l : ℕ) → j * 6 + l < pred_of i * 6 + 2 →
    node_at (nodes_in (filed_all i ks vs (tables ns es))) j l ≡ node_at ns j l
unfolding filed_all
all_nodes_below [] vs ns es i j l h = refl
all_nodes_below (k ∷ ks) [] ns es i j l h = refl
all_nodes_below (k ∷ ks) (v ∷ vs) ns es i j l h =
    let low = pred_below i in
    all_nodes_below ks vs (nodes_with i k v ns) (entries_with i ns es) (i + 1) j l (rw pred_next (omega arith)) ∙
    filed_off (used i) (pred_of i) k v ns (omega arith) j l (omega arith) (omega arith) (omega arith) (omega arith)

pub all_entries_below : (ks vs ns es : List ℕ) (i d l : ℕ) → d < 2 * i + 1 → l < 4 →
    word_at (entries_in (filed_all i ks vs (tables ns es))) d l ≡ word_at es d l
unfolding filed_all
all_entries_below [] vs ns es i d l h l<4 = refl
all_entries_below (k ∷ ks) [] ns es i d l h l<4 = refl
all_entries_below (k ∷ ks) (v ∷ vs) ns es i d l h l<4 =
    all_entries_below ks vs (nodes_with i k v ns) (entries_with i ns es) (i + 1) d l (omega arith) l<4 ∙
    entries_below (used i) (newest_at ns (pred_of i)) es d l h l<4

-- ---- fresh tables
pub fresh_nodes_length : (ns : List ℕ) → length (fresh_nodes ns) ≡ length ns
unfolding fresh_nodes
fresh_nodes_length ns = simp (store_length, length-replicate)

pub fresh_entries_length : (es : List ℕ) → length (fresh_entries es) ≡ length es
unfolding fresh_entries
fresh_entries_length es = simp (finish_length, lay_length, length-replicate)

module _ (ns : List ℕ) (room : 12 ≤ length ns) where
  cleared : (j l : ℕ) → j * 6 + l < 12 → node_at (clear_of ns) j l ≡ 0
  unfolding word_of
  cleared j l h = get_or-replicate (length ns) (j * 6 + l) 0 0 (omega arith)

  pub fresh_next : next_at (fresh_nodes ns) 0 ≡ 1
  unfolding fresh_nodes
  fresh_next =
      put_off _ 1 0 tail_key 0 2 (omega arith) ∙ put_off _ 0 5 1 0 2 (omega arith) ∙
      word_stored 6 _ 0 2 1 (simp length-replicate (omega arith))

  pub fresh_newest : newest_at (fresh_nodes ns) 0 ≡ 1
  unfolding fresh_nodes
  fresh_newest =
      put_off _ 1 0 tail_key 0 5 (omega arith) ∙
      word_stored 6 _ 0 5 1 (simp (store_length, length-replicate) (omega arith))

  pub fresh_tail : key_at (fresh_nodes ns) 1 ≡ tail_key
  unfolding fresh_nodes
  fresh_tail = word_stored 6 _ 1 0 tail_key (simp (store_length, length-replicate) (omega arith))

  -- the head is free and not removed
  pub fresh_marks : (l : ℕ) → 2 < l → l < 5 → node_at (fresh_nodes ns) 0 l ≡ 0
  unfolding fresh_nodes
  fresh_marks l low high =
      put_off _ 1 0 tail_key 0 l (omega arith) ∙ put_off _ 0 5 1 0 l (omega arith) ∙
      put_off _ 0 2 1 0 l (omega arith) ∙ cleared 0 l (omega arith)

module _ (es : List ℕ) (room : 4 ≤ length es) where
  pub fresh_leads_to : word_at (fresh_entries es) 0 0 ≡ 1
  unfolding fresh_entries
  fresh_leads_to =
      finish_target _ 0 (simp (lay_length, length-replicate) (omega arith)) 0 ∙
      lay_target _ 0 (simp length-replicate (omega arith)) 1 0 0

  pub fresh_final : word_at (fresh_entries es) 0 2 ≡ 0
  unfolding fresh_entries
  fresh_final = finish_final _ 0 (simp (lay_length, length-replicate) (omega arith)) 0
