-- The set of a loaded register is the pairs of its listing: both by plain links and by newest entries, from the head
-- to the tail, its nodes hold the keys and the values in order.
-- In order: where nodes lead; rows of nodes; the head; the theorem.
-- Not here: older snapshots (the register's), single words (Stores). Assumes nothing.
use Prim.Native.Nat.{ℕ, suc, ◌+◌, ◌-◌, ◌*◌, ◌≤◌, ◌<◌}
use mathlib.Core.Path.{◌≡◌, refl, ◌∙◌, ap}
use mathlib.Core.List.{List, [], ◌∷◌}
use native.Mathlib.Omega.{arith}
use lib.ListN.{length}
use borrow.Author.Tests.{ne_eqb}
use Rattle.bundle.specs.Bundle.{word_at}
use Rattle.nodes.specs.Nodes.{node_at, key_at, value_at, next_at, newest_at}
use Rattle.steps.specs.Steps.{Tables, tables}
use Rattle.register.specs.Register.{fresh_nodes, fresh_entries}
use Rattle.loading.specs.Filing.{used, pred_of, filed_all, fresh_tables}
use Rattle.loading.specs.Members.{newest_next, follow, Holds}
use Rattle.loading.proofs.Words.{pred_below}
use Rattle.loading.proofs.Stores.{nodes_in, entries_in, nodes_with, entries_with, pred_next}
use Rattle.loading.proofs.Stores.{filed_length, filed_next, filed_newest, filed_own_newest}
use Rattle.loading.proofs.Stores.{filed_own_key, filed_own_value, filed_own_next}
use Rattle.loading.proofs.Stores.{entries_length, entry_before, entry_own, all_nodes_below, all_entries_below}
use Rattle.loading.proofs.Stores.{fresh_nodes_length, fresh_entries_length, fresh_next, fresh_newest}
use Rattle.loading.proofs.Stores.{fresh_leads_to}

-- ---- where pred leads once all keys are there: to the next key's node, or where it led

-- the first node of a row that begins at node i, or the tail
abbrev first_of : ℕ → List ℕ → ℕ
first_of i [] = 1
first_of i (k ∷ ks) = i

abbrev Leads : Tables → ℕ → ℕ → Type 0
Leads t i j = (next_at (nodes_in t) i ≡ j) × (newest_next (nodes_in t) (entries_in t) i ≡ j)

leads_as : (t : Tables) (a b x y : ℕ) → a ≡ b → x ≡ y → Leads t a x → Leads t b y
leads_as t a b x y e f l = rw (← e, ← f) l

-- the link of an entry is its number and one more
entry_of : (es : List ℕ) (w e j : ℕ) → w ≡ e + 1 → word_at es e 0 ≡ j → word_at es (w - 1) 0 ≡ j
entry_of es w e j link leads = let z : w - 1 ≡ e = omega arith in rw z leads

module _ (k v : ℕ) (ks vs ns es : List ℕ) (i : ℕ) (rn : (i + 3) * 6 ≤ length ns)
    (re : (2 * i + 3) * 4 ≤ length es) where
  abbrev after : Tables
  after = filed_all (i + 1) ks vs (tables (nodes_with i k v ns) (entries_with i ns es))

  pred_stays : (l : ℕ) → l < 6 → node_at (nodes_in after) (pred_of i) l ≡ node_at (nodes_with i k v ns) (pred_of i) l
  pred_stays l h =
      all_nodes_below ks vs (nodes_with i k v ns) (entries_with i ns es) (i + 1) (pred_of i) l
      (rw pred_next (omega (arith, pred_below i)))

  entry_stays : word_at (entries_in after) (2 * i + 1) 0 ≡ i + 2
  entry_stays =
      all_entries_below ks vs (nodes_with i k v ns) (entries_with i ns es) (i + 1) (2 * i + 1) 0
      (omega arith) (omega arith) ∙ entry_before (used i) (newest_at ns (pred_of i)) es (omega arith)

  pred_leads : Leads after (pred_of i) (i + 2)
  pred_leads =
      let low : pred_of i < i + 2 = omega (arith, pred_below i) in (
        pred_stays 2 (omega arith) ∙ filed_next (used i) (pred_of i) k v ns low (omega arith),
        entry_of (entries_in after) (newest_at (nodes_in after) (pred_of i)) (2 * i + 1) (i + 2)
            (pred_stays 5 (omega arith) ∙ filed_newest (used i) (pred_of i) k v ns low (omega arith)) entry_stays,
      )

-- and the newest key's node to the next one, or to the tail
own_leads : (k v : ℕ) (ks vs ns es : List ℕ) (i : ℕ) → length ks ≡ length vs →
    (i + 3 + length ks) * 6 ≤ length ns → (2 * i + 3 + 2 * length ks) * 4 ≤ length es →
    Leads (filed_all (i + 1) ks vs (tables (nodes_with i k v ns) (entries_with i ns es))) (i + 2) (first_of (i + 3) ks)
unfolding filed_all
own_leads k v [] vs ns es i same rn re =
    let low : pred_of i < i + 2 = omega (arith, pred_below i) in (
      filed_own_next (used i) (pred_of i) k v ns low (omega arith),
      entry_of (entries_with i ns es) (newest_at (nodes_with i k v ns) (i + 2)) (2 * i + 1 + 1) 1
          (filed_own_newest (used i) (pred_of i) k v ns low (omega arith) ∙ omega arith)
          (entry_own (used i) (newest_at ns (pred_of i)) es (omega arith)),
    )
own_leads k v (k' ∷ ks) [] ns es i same rn re = absurd (omega arith)
own_leads k v (k' ∷ ks) (v' ∷ vs) ns es i same rn re =
    leads_as (filed_all (i + 1) (k' ∷ ks) (v' ∷ vs) (tables (nodes_with i k v ns) (entries_with i ns es)))
    (pred_of (i + 1)) (i + 2) (i + 1 + 2) (i + 3) (pred_next i) (omega arith)
    (pred_leads k' v' ks vs (nodes_with i k v ns) (entries_with i ns es) (i + 1)
    (omega (arith, filed_length (used i) (pred_of i) k v ns))
    (omega (arith, entries_length (used i) (newest_at ns (pred_of i)) es)))

-- ---- rows of nodes, one after the other

abbrev Row : Tables → ℕ → List ℕ → List ℕ → Type 0
Row t i [] vs = Unit {0}
Row t i (k ∷ ks) [] = Unit {0}
Row t i (k ∷ ks) (v ∷ vs) =
    (key_at (nodes_in t) i ≡ k) × (value_at (nodes_in t) i ≡ v) × Leads t i (first_of (i + 1) ks) × Row t (i + 1) ks vs

row_all : (ks vs ns es : List ℕ) (i : ℕ) → length ks ≡ length vs → (i + 2 + length ks) * 6 ≤ length ns →
    (2 * i + 1 + 2 * length ks) * 4 ≤ length es → Row (filed_all i ks vs (tables ns es)) (i + 2) ks vs
unfolding filed_all
row_all [] vs ns es i same rn re = tt
row_all (k ∷ ks) [] ns es i same rn re = tt
row_all (k ∷ ks) (v ∷ vs) ns es i same rn re =
    let low : pred_of i < i + 2 = omega (arith, pred_below i) in
    let below : (l : ℕ) → l < 2 → (i + 2) * 6 + l < pred_of (i + 1) * 6 + 2 = λ l h. rw pred_next (omega arith) in
    let z : i + 2 + 1 ≡ i + 3 = omega arith in
    let y : i + 1 + 2 ≡ i + 3 = omega arith in (
      all_nodes_below ks vs (nodes_with i k v ns) (entries_with i ns es) (i + 1) (i + 2) 0 (below 0 (omega arith)) ∙
          filed_own_key (used i) (pred_of i) k v ns low (omega arith),
      all_nodes_below ks vs (nodes_with i k v ns) (entries_with i ns es) (i + 1) (i + 2) 1 (below 1 (omega arith)) ∙
          filed_own_value (used i) (pred_of i) k v ns low (omega arith),
      rw z (own_leads k v ks vs ns es i (omega arith) (omega arith) (omega arith)),
      rw z
          (rw y at
          (row_all ks vs (nodes_with i k v ns) (entries_with i ns es) (i + 1) (omega arith)
          (omega (arith, filed_length (used i) (pred_of i) k v ns))
          (omega (arith, entries_length (used i) (newest_at ns (pred_of i)) es)))),
    )

-- following a row gives its words
module _ (t : Tables) (next : ℕ → ℕ) (by_next : (i j : ℕ) → Leads t i j → next i ≡ j) where
  follow_keys : (ks vs : List ℕ) (i : ℕ) → 2 ≤ i → length ks ≡ length vs → Row t i ks vs →
      follow next (key_at (nodes_in t)) (suc (length ks)) (first_of i ks) ≡ ks
  unfolding follow
  follow_keys [] vs i low same row = refl
  follow_keys (k ∷ ks) [] i low same row = absurd (omega arith)
  follow_keys (k ∷ ks) (v ∷ vs) i low same row =
      rw (ne_eqb i 1 (λ e. omega arith), row.0, by_next i (first_of (i + 1) ks) row.2)
      (ap (λ (l : List ℕ). k ∷ l) (follow_keys ks vs (i + 1) (omega arith) (omega arith) row.3))

  follow_values : (ks vs : List ℕ) (i : ℕ) → 2 ≤ i → length ks ≡ length vs → Row t i ks vs →
      follow next (value_at (nodes_in t)) (suc (length ks)) (first_of i ks) ≡ vs
  unfolding follow
  follow_values [] [] i low same row = refl
  follow_values [] (v ∷ vs) i low same row = absurd (omega arith)
  follow_values (k ∷ ks) [] i low same row = absurd (omega arith)
  follow_values (k ∷ ks) (v ∷ vs) i low same row =
      rw (ne_eqb i 1 (λ e. omega arith), row.1, by_next i (first_of (i + 1) ks) row.2)
      (ap (λ (l : List ℕ). v ∷ l) (follow_values ks vs (i + 1) (omega arith) (omega arith) row.3))

-- ---- the head of a fresh register leads to the tail

fresh_leads : (ns es : List ℕ) → 12 ≤ length ns → 4 ≤ length es → Leads (fresh_tables ns es) 0 1
fresh_leads ns es rn re = (
  fresh_next ns rn,
  entry_of (fresh_entries es) (newest_at (fresh_nodes ns) 0) 0 1 (fresh_newest ns rn) (fresh_leads_to es re),
)

-- ---- the theorem

holds : (t : Tables) (ks vs : List ℕ) → length ks ≡ length vs → Leads t 0 (first_of 2 ks) → Row t 2 ks vs →
    Holds (nodes_in t) (entries_in t) ks vs
holds t ks vs same head row =
    record {
      plain_keys = rw head.0 (follow_keys t (next_at (nodes_in t)) (λ i j l. l.0) ks vs 2 low same row);
      plain_values = rw head.0 (follow_values t (next_at (nodes_in t)) (λ i j l. l.0) ks vs 2 low same row);
      newest_keys = rw head.1
          (follow_keys t (newest_next (nodes_in t) (entries_in t)) (λ i j l. l.1) ks vs 2 low same row);
      newest_values = rw head.1
          (follow_values t (newest_next (nodes_in t) (entries_in t)) (λ i j l. l.1) ks vs 2 low same row);
    }
  where
    low : 2 ≤ 2
    low = omega arith

module _ (ns es : List ℕ) where
  head_leads : (ks vs : List ℕ) → length ks ≡ length vs → (length ks + 2) * 6 ≤ length ns →
      (2 * length ks + 1) * 4 ≤ length es → Leads (filed_all 0 ks vs (fresh_tables ns es)) 0 (first_of 2 ks)
  unfolding filed_all pred_of
  head_leads [] vs same rn re = fresh_leads ns es (omega arith) (omega arith)
  head_leads (k ∷ ks) [] same rn re = absurd (omega arith)
  head_leads (k ∷ ks) (v ∷ vs) same rn re =
      pred_leads k v ks vs (fresh_nodes ns) (fresh_entries es) 0
      (omega (arith, fresh_nodes_length ns)) (omega (arith, fresh_entries_length es))

  -- a register that was loaded holds the pairs of its listing, where its tables have room for them
  pub members : (ks vs : List ℕ) → length ks ≡ length vs → (length ks + 2) * 6 ≤ length ns →
      (2 * length ks + 1) * 4 ≤ length es →
      Holds (nodes_in (filed_all 0 ks vs (fresh_tables ns es)))
      (entries_in (filed_all 0 ks vs (fresh_tables ns es))) ks vs
  members ks vs same rn re =
      holds (filed_all 0 ks vs (fresh_tables ns es)) ks vs same (head_leads ks vs same rn re)
      (row_all ks vs (fresh_nodes ns) (fresh_entries es) 0 same
      (omega (arith, fresh_nodes_length ns)) (omega (arith, fresh_entries_length es)))
