-- The insert of a key above all others, call by call, leaves the tables with that key filed; so do all of them.
-- In order: the lock forgotten; what Prepare lays; the walk; the seven steps; one insert; all of them.
-- Not here: listings (Loaded). Assumes nothing.
use Rattle.std.specs.Prelude.{Ok}
use Prim.Native.Nat.{ℕ, zero, suc, ◌+◌, ◌-◌, ◌*◌, ◌≤◌, ◌<◌}
use mathlib.Core.Path.{◌≡◌, refl, ◌∙◌, ap}
use mathlib.Core.Logic.{◌≢◌}
use mathlib.Core.Bool.{true}
use mathlib.Core.List.{List, [], ◌∷◌, ◌++◌}
use native.Mathlib.Omega.{arith}
use lib.ListN.{length, replicate}
use lib.Seq.{set-set, set_comm}
use borrow.Author.Tests.{lt-ltb, le-leb, ne_eqb}
use Rattle.table.specs.Table.{store_of}
use Rattle.table.proofs.Laws.{store_length}
use Rattle.order.specs.Set.{insert}
use Rattle.bundle.specs.Bundle.{held_of, lay_of, finish_of}
use Rattle.bundle.specs.declared.Held.{Held}
use Rattle.bundle.proofs.Promise.{lay_length}
use Rattle.nodes.specs.Nodes.{node_at, put_node, key_at, next_at, newest_at, unlocked, new_node}
use Rattle.nodes.specs.Nodes.{named_node, clear_node}
use Rattle.terms.specs.Terms.{tail_key}
use Rattle.terms.specs.declared.Size.{Size}
use Rattle.terms.specs.declared.Counters.{Counters}
use Rattle.terms.specs.declared.Op.{Op}
use Rattle.terms.specs.declared.Answer.{Answer}
use Rattle.steps.specs.declared.Phase.{Phase}
use Rattle.steps.specs.declared.Session.{Session}
use Rattle.steps.specs.Steps.{done, Tables, tables, idle, counted, raised, lay_in, insert_laid, held_at}
use Rattle.register.specs.Register.{fits}
use Rattle.sixteen.specs.declared.Call.{Call}
use Rattle.reached.specs.Reached.{State}
use Rattle.reached.proofs.History.{at_same}
use Rattle.listing.specs.Listing.{rising}
use Rattle.listing.proofs.Pairs.{rising_on}
use Rattle.loading.specs.Filing.{used, pred_of, prepared_nodes, filed_nodes, prepared_entries}
use Rattle.loading.specs.Filing.{filed_entries, filed_all}
use Rattle.loading.proofs.Words.{pred_below}
use Rattle.loading.proofs.Refusals.{lengths_fit}
use Rattle.loading.proofs.Stores.{nodes_in, entries_in, nodes_with, entries_with, pred_next, put_off, new_off}
use Rattle.loading.proofs.Stores.{new_newest}
use Rattle.loaded.specs.Calls.{inserting, filing, inserted_so, filed_so, inserts, alone, Goes}
use Rattle.loaded.proofs.Goes.{goes_none, goes_then, goes_as}
use Rattle.loaded.proofs.Steps.{at, starts, steps_on, steps_numbered, walk_moves, walk_arrives, locks, checks}
use Rattle.loaded.proofs.Steps.{prepares, numbers, links, finishes}
use Rattle.loaded.proofs.Filed.{Filed, fits_as, filed_on}

-- ---- the lock that Lock set is forgotten where Finish frees it
put_swap : (p n k v : ℕ) → p * 6 + 3 ≢ n * 6 + k → (ns : List ℕ) →
    put_node (put_node ns p 3 1) n k v ≡ put_node (put_node ns n k v) p 3 1
unfolding store_of
put_swap p n k v apart ns = set_comm ns (p * 6 + 3) (n * 6 + k) 1 v apart

put_twice : (p : ℕ) (ns : List ℕ) → put_node (put_node ns p 3 1) p 3 0 ≡ put_node ns p 3 0
unfolding store_of
put_twice p ns = set-set ns (p * 6 + 3) 1 0

new_swap : (p n k v : ℕ) → p < n → (ns : List ℕ) →
    new_node (put_node ns p 3 1) n k v 1 ≡ put_node (new_node ns n k v 1) p 3 1
unfolding named_node clear_node
new_swap p n k v before ns =
    rw (
      put_swap p n 0 k (omega arith),
      put_swap p n 1 v (omega arith),
      put_swap p n 2 1 (omega arith),
      put_swap p n 3 0 (omega arith),
      put_swap p n 4 0 (omega arith),
      put_swap p n 5 0 (omega arith),
    )

pub lock_forgotten : (c : Counters) (p k v : ℕ) → p < c.nodes → (ns : List ℕ) →
    filed_nodes c p k v (put_node ns p 3 1) ≡ filed_nodes c p k v ns
unfolding filed_nodes prepared_nodes
lock_forgotten c p k v before ns =
    rw (
      new_swap p c.nodes k v before ns,
      put_swap p p 5 (c.entries + 1) (omega arith),
      put_swap p c.nodes 5 (c.entries + 2) (omega arith),
      put_swap p p 2 c.nodes (omega arith),
      put_twice p,
    )

-- ---- what Prepare lays
module _ (c : Counters) (p k v : ℕ) (ns es : List ℕ) (before : p < c.nodes)
    (room : c.nodes * 6 + 5 < length ns) where
  pred_newest : newest_at (new_node ns c.nodes k v 1) p ≡ newest_at ns p
  pred_newest = new_off ns c.nodes k v 1 p 5 (omega arith)

  own_newest : newest_at (put_node (new_node ns c.nodes k v 1) p 5 (c.entries + 1)) c.nodes ≡ 0
  own_newest =
      put_off (new_node ns c.nodes k v 1) p 5 (c.entries + 1) c.nodes 5 (omega arith) ∙
      new_newest ns c.nodes k v 1 room

  pub laid : insert_laid ns es c (Op.Insert k v) p 1 ≡
      tables (prepared_nodes c p k v ns)
      (lay_of (lay_of es c.entries c.nodes c.stamp (newest_at ns p)) (c.entries + 1) 1 c.stamp 0)
  unfolding insert_laid lay_in prepared_nodes
  laid =
      let two : c.entries + 1 + 1 ≡ c.entries + 2 = omega arith in rw (own_newest, pred_newest, two)

pub prepared_length : (c : Counters) (p k v : ℕ) (ns : List ℕ) → length (prepared_nodes c p k v ns) ≡ length ns
unfolding prepared_nodes named_node clear_node
prepared_length c p k v ns = simp store_length

-- ---- where an insert begins and ends
pred_zero : pred_of 0 ≡ 0
unfolding pred_of
pred_zero = refl

used_next : (i : ℕ) → raised (counted (used i) (i + 2 + 1)) ≡ used (i + 1)
used_next i =
    let nodes : i + 2 + 1 ≡ i + 1 + 2 = omega arith in
    let entries : 2 * i + 1 + 2 ≡ 2 * (i + 1) + 1 = omega arith in rw (nodes, entries)

left_filed : {ns ns' es es' : List ℕ} {c c' : Counters} → ns ≡ ns' → es ≡ es' → c ≡ c' →
    alone ns es c idle ≡ alone ns' es' c' idle
left_filed e f g = cc

-- ---- on tables with i keys filed
module _ (z : Size) (i top k v : ℕ) (ns es : List ℕ) (F : Filed z i top ns es) (above : top < k) (key : k < tail_key)
    (rn : i + 3 ≤ z.nodes) (re : 2 * i + 3 ≤ z.entries) (ru : i < z.updates) where
  -- working leaves session 0 its operation
  follow : (f : ℕ → Op) → f 0 ≡ Op.Insert k v → f 0 ≡ Op.Insert k v
  follow f e = e

  -- ---- the walk: i moves
  abbrev walk_at : ℕ → Session
  walk_at j = at k v (Phase.Walk (pred_of j) (next_at ns (pred_of j)))

  moves : (j : ℕ) → j < i →
      Goes z (alone ns es (used i) (walk_at j)) (Call.Step 0 ∷ []) (alone ns es (used i) (walk_at (j + 1)))
      (Answer.Working ∷ []) []
  moves j h =
      let below : next_at ns (pred_of j) < z.nodes = omega (arith, F.next j h, pred_next j) in
      let lower : key_at ns (next_at ns (pred_of j)) < k = rw (F.next j h) (omega (arith, F.keys j h)) in
      rw (← F.next j h)
      (steps_on z ns es (used i) F.fit (walk_at j) refl ns es _
      (ap (λ r. done ns es r) (walk_moves z ns es (used i) k v (pred_of j) (next_at ns (pred_of j)) below lower))
      follow refl)

  walks : (m j : ℕ) → j + m ≡ i →
      Goes z (alone ns es (used i) (walk_at j)) (replicate m (Call.Step 0)) (alone ns es (used i) (walk_at i))
      (replicate m Answer.Working) []
  walks zero j e = let same : j ≡ i = omega arith in rw same (goes_none z (alone ns es (used i) (walk_at i)))
  walks (suc m) j e = goes_then z (moves j (omega arith)) (walks m (j + 1) (omega arith))

  -- ---- the seven steps after it
  abbrev p : ℕ
  p = pred_of i

  abbrev op : Op
  op = Op.Insert k v

  low : pred_of i < i + 2
  low = omega (arith, pred_below i)

  in_table : pred_of i < z.nodes
  in_table = omega (arith, pred_below i)

  room : (i + 2) * 6 + 5 < length ns
  room = omega (arith, (lengths_fit z ns es F.fit).0)

  -- the tables after Lock, after Prepare, and after Link
  abbrev locked : List ℕ
  locked = put_node ns p 3 1

  abbrev laid_nodes : List ℕ
  laid_nodes = prepared_nodes (used i) p k v locked

  abbrev laid_entries : List ℕ
  laid_entries = lay_of (lay_of es (2 * i + 1) (i + 2) i (newest_at ns p)) (2 * i + 1 + 1) 1 i 0

  abbrev linked_nodes : List ℕ
  linked_nodes = put_node laid_nodes p 2 (i + 2)

  locked_fits : fits z locked es ≡ true
  locked_fits = fits_as z ns es locked es (store_length 6 ns p 3 1) refl F.fit

  laid_fits : fits z laid_nodes laid_entries ≡ true
  laid_fits =
      fits_as z locked es laid_nodes laid_entries (prepared_length (used i) p k v locked) (simp lay_length) locked_fits

  linked_fits : fits z linked_nodes laid_entries ≡ true
  linked_fits =
      fits_as z laid_nodes laid_entries linked_nodes laid_entries (store_length 6 laid_nodes p 2 (i + 2)) refl
      laid_fits

  locked_else : (j l : ℕ) → j * 6 + l ≢ pred_of i * 6 + 3 → node_at locked j l ≡ node_at ns j l
  locked_else j l apart = put_off ns p 3 1 j l apart

  held_free : held_at z locked es p ≡ Ok tt
  unfolding held_at held_of
  held_free =
      let newest : newest_at locked p ≡ 2 * i + 1 = locked_else p 5 (omega arith) ∙ F.newest in
      let entry : 2 * i + 1 - 1 ≡ 2 * i = omega arith in
      rw (
        lt-ltb _ _ in_table,
        newest,
        ne_eqb (2 * i + 1) 0 (λ e. omega arith),
        le-leb (2 * i + 1) z.entries (omega arith),
        entry,
        F.final,
      )

  lays : insert_laid locked es (used i) op p 1 ≡ tables laid_nodes laid_entries
  lays =
      let size : length locked ≡ length ns = store_length 6 ns p 3 1 in
      let here = room in
      laid (used i) p k v locked es low (omega arith) ∙
      ap (λ older. tables laid_nodes (lay_of (lay_of es (2 * i + 1) (i + 2) i older) (2 * i + 1 + 1) 1 i 0))
      (locked_else p 5 (omega arith))

  arrives : Goes z (alone ns es (used i) (walk_at i)) (Call.Step 0 ∷ [])
      (alone ns es (used i) (at k v (Phase.Lock p 1))) (Answer.Working ∷ []) []
  arrives =
      let high : k ≤ key_at ns 1 = rw F.tail (omega arith) in
      rw F.last
      (steps_on z ns es (used i) F.fit (at k v (Phase.Walk p 1)) refl ns es _
      (ap (λ r. done ns es r) (walk_arrives z ns es (used i) k v p 1 (omega arith) high))
      follow refl)

  takes_lock : Goes z (alone ns es (used i) (at k v (Phase.Lock p 1))) (Call.Step 0 ∷ [])
      (alone locked es (used i) (at k v (Phase.Check p 1))) (Answer.Working ∷ []) []
  takes_lock =
      steps_on z ns es (used i) F.fit (at k v (Phase.Lock p 1)) refl locked es _
      (locks z ns es (used i) k v p in_table F.lock) follow refl

  passes_check : Goes z (alone locked es (used i) (at k v (Phase.Check p 1))) (Call.Step 0 ∷ [])
      (alone locked es (used i) (at k v (Phase.Prepare p 1))) (Answer.Working ∷ []) []
  passes_check =
      let tail : key_at locked 1 ≡ tail_key = locked_else 1 0 (omega arith) ∙ F.tail in
      steps_on z locked es (used i) locked_fits (at k v (Phase.Check p 1)) refl locked es _
      (checks z locked es (used i) k v p in_table (locked_else p 4 (omega arith) ∙ F.removed)
      (locked_else p 2 (omega arith) ∙ F.last) (omega arith) (λ e. omega arith)) follow refl

  lays_both : Goes z (alone locked es (used i) (at k v (Phase.Prepare p 1))) (Call.Step 0 ∷ [])
      (alone laid_nodes laid_entries (counted (used i) (i + 2 + 1))
      (at k v (Phase.Number p (i + 2) (2 * i + 1) (2 * i + 1 + 1)))) (Answer.Working ∷ []) []
  lays_both =
      steps_on z locked es (used i) locked_fits (at k v (Phase.Prepare p 1)) refl laid_nodes laid_entries _
      (prepares z locked es (used i) k v p in_table held_free (omega arith) (omega arith) laid_nodes laid_entries lays)
      follow refl

  abbrev after : Counters
  after = raised (counted (used i) (i + 2 + 1))

  takes_number : Goes z
      (alone laid_nodes laid_entries (counted (used i) (i + 2 + 1))
      (at k v (Phase.Number p (i + 2) (2 * i + 1) (2 * i + 1 + 1)))) (Call.Step 0 ∷ [])
      (alone laid_nodes laid_entries after (at k v (Phase.Link p (i + 2) (2 * i + 1) (2 * i + 1 + 1) (i + 1))))
      (Answer.Working ∷ []) (insert k v ∷ [])
  takes_number =
      steps_numbered z laid_nodes laid_entries (counted (used i) (i + 2 + 1)) laid_fits
      (at k v (Phase.Number p (i + 2) (2 * i + 1) (2 * i + 1 + 1))) refl laid_nodes laid_entries _
      (numbers z laid_nodes laid_entries (counted (used i) (i + 2 + 1)) k v p (i + 2) (2 * i + 1) (2 * i + 1 + 1) ru)
      follow k v refl (omega arith)

  links_on : Goes z
      (alone laid_nodes laid_entries after (at k v (Phase.Link p (i + 2) (2 * i + 1) (2 * i + 1 + 1) (i + 1))))
      (Call.Step 0 ∷ [])
      (alone linked_nodes laid_entries after (at k v (Phase.Finish p (i + 2) (2 * i + 1) (2 * i + 1 + 1) (i + 1))))
      (Answer.Working ∷ []) []
  links_on =
      steps_on z laid_nodes laid_entries after laid_fits
      (at k v (Phase.Link p (i + 2) (2 * i + 1) (2 * i + 1 + 1) (i + 1))) refl linked_nodes laid_entries _
      (links z laid_nodes laid_entries after k v p in_table (i + 2) (2 * i + 1) (2 * i + 1 + 1) (i + 1)) follow refl

  ends_inserted : Goes z
      (alone linked_nodes laid_entries after (at k v (Phase.Finish p (i + 2) (2 * i + 1) (2 * i + 1 + 1) (i + 1))))
      (Call.Step 0 ∷ [])
      (alone (unlocked linked_nodes p) (finish_of (finish_of laid_entries (2 * i + 1) (i + 1)) (2 * i + 1 + 1) (i + 1))
      after idle) (Answer.Inserted (i + 1) ∷ []) []
  ends_inserted =
      steps_on z linked_nodes laid_entries after linked_fits
      (at k v (Phase.Finish p (i + 2) (2 * i + 1) (2 * i + 1 + 1) (i + 1))) refl _ _ _
      (finishes z linked_nodes laid_entries after k v p in_table (i + 2) (2 * i + 1) (2 * i + 1 + 1) (i + 1)
      (omega arith) (omega arith)) (λ f _. at_same f 0 Op.None) refl

  -- they leave the tables with the key filed
  nodes_filed : unlocked linked_nodes p ≡ nodes_with i k v ns
  unfolding filed_nodes
  nodes_filed = lock_forgotten (used i) p k v low ns

  entries_filed : finish_of (finish_of laid_entries (2 * i + 1) (i + 1)) (2 * i + 1 + 1) (i + 1) ≡ entries_with i ns es
  unfolding filed_entries prepared_entries
  entries_filed = refl

  sets_out : Goes z (alone ns es (used i) idle) (Call.Start 0 op ∷ []) (alone ns es (used i) (walk_at 0))
      (Answer.Started ∷ []) []
  sets_out = rw pred_zero (starts z ns es (used i) F.fit k v (omega arith) key)

  seven : Goes z (alone ns es (used i) (walk_at i)) (replicate 7 (Call.Step 0))
      (alone (unlocked linked_nodes p) (finish_of (finish_of laid_entries (2 * i + 1) (i + 1)) (2 * i + 1 + 1) (i + 1))
      after idle) (replicate 6 Answer.Working ++ (Answer.Inserted (i + 1) ∷ [])) (insert k v ∷ [])
  seven =
      goes_then z arrives (goes_then z takes_lock (goes_then z passes_check (goes_then z lays_both
      (goes_then z takes_number (goes_then z links_on ends_inserted)))))

  pub inserts_one : Goes z (alone ns es (used i) idle) (inserting i k v)
      (alone (nodes_with i k v ns) (entries_with i ns es) (used (i + 1)) idle) (inserted_so i) (insert k v ∷ [])
  inserts_one =
      goes_as z (left_filed nodes_filed entries_filed (used_next i))
      (goes_then z sets_out (goes_then z (walks i 0 (omega arith)) seven))

-- ---- all of them

-- a register with these tables and counters, all sessions idle
abbrev pub holding : Tables → Counters → State
holding t c = alone (nodes_in t) (entries_in t) c idle

-- the tables hold n keys, and the updates are as many
abbrev pub Room : Size → ℕ → Type 0
Room z n = (n + 2 ≤ z.nodes) × (2 * n + 1 ≤ z.entries) × (n ≤ z.updates)

pub inserts_all : (z : Size) (ks vs ns es : List ℕ) (i top n : ℕ) → Filed z i top ns es → rising top ks ≡ true →
    length ks ≡ length vs → n ≡ i + length ks → Room z n →
    Goes z (alone ns es (used i) idle) (filing i ks vs) (holding (filed_all i ks vs (tables ns es)) (used n))
    (filed_so i ks vs) (inserts ks vs)
unfolding filing filed_all filed_so inserts
inserts_all z [] vs ns es i top n F up same e room =
    let w : n ≡ i = omega arith in rw w (goes_none z (alone ns es (used i) idle))
inserts_all z (k ∷ ks) [] ns es i top n F up same e room = absurd (omega arith)
inserts_all z (k ∷ ks) (v ∷ vs) ns es i top n F up same e room =
    let rn = room.0 in
    let re = room.1 in
    let ru = room.2 in
    let on = rising_on top k ks up in
    goes_then z
    (inserts_one z i top k v ns es F on.0 on.1 (omega arith) (omega arith) (omega arith))
    (inserts_all z ks vs (nodes_with i k v ns) (entries_with i ns es) (i + 1) k n
    (filed_on z i top k v ns es F on.0 (omega arith) (omega arith)) on.2 (omega arith) (omega arith)
    room)
