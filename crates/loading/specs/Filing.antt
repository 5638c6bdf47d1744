-- The register's tables with keys filed in order: what each insert of a key above all others leaves (document 01;
-- open point 18).
-- In order: counters; the node before the tail; what Prepare, Link and Finish write, in the nodes and in the entries;
-- one key more; all keys; fresh tables.
-- Not here: inserting step by step (crate steps), and that it leaves these words (crate loaded). Assumes nothing.
use Rattle.std.specs.Prelude.{ℕ, ◌+◌, ◌*◌, List, [], ◌∷◌, cond, eqb}
use Rattle.bundle.specs.Bundle.{lay_of, finish_of}
use Rattle.nodes.specs.Nodes.{put_node, newest_at, unlocked, new_node}
use Rattle.terms.specs.declared.Counters.{Counters}
use Rattle.steps.specs.Steps.{Tables, tables}
use Rattle.register.specs.Register.{fresh_nodes, fresh_entries}

-- ---- the counters of a fresh register after i inserts
abbrev pub used : ℕ → Counters
used i = record { nodes = i + 2; entries = 2 * i + 1; stamp = i }

-- ---- the node before the tail then: the last key's, or the head
unfoldable pub pred_of : ℕ → ℕ
pred_of i = cond (eqb i 0) 0 (i + 1)

-- ---- an insert between pred and the tail (node 1), in the node table. Prepare: the new node, and the newest entries
-- of both bundles
unfoldable pub prepared_nodes : Counters → ℕ → ℕ → ℕ → List ℕ → List ℕ
prepared_nodes c pred key value ns =
    put_node (put_node (new_node ns c.nodes key value 1) pred 5 (c.entries + 1)) c.nodes 5 (c.entries + 2)

-- Link: pred's plain next is the new node; Finish: unlock
unfoldable pub filed_nodes : Counters → ℕ → ℕ → ℕ → List ℕ → List ℕ
filed_nodes c pred key value ns = unlocked (put_node (prepared_nodes c pred key value ns) pred 2 c.nodes) pred

-- ---- and in the entries. Prepare: pred's entry to the new node, in front of the ones it had, and the new node's to
-- the tail
unfoldable pub prepared_entries : Counters → ℕ → List ℕ → List ℕ
prepared_entries c older es =
    lay_of (lay_of es c.entries c.nodes c.stamp older) (c.entries + 1) 1 c.stamp 0

-- Finish: both get the number
unfoldable pub filed_entries : Counters → ℕ → List ℕ → List ℕ
filed_entries c older es =
    finish_of
    (finish_of (prepared_entries c older es) c.entries (c.stamp + 1))
    (c.entries + 1)
    (c.stamp + 1)

-- ---- one key more, above the i that the tables have
abbrev pub filed : ℕ → ℕ → ℕ → Tables → Tables
filed i key value (tables ns es) =
    tables (filed_nodes (used i) (pred_of i) key value ns) (filed_entries (used i) (newest_at ns (pred_of i)) es)

-- ---- all keys, where i are filed already
unfoldable pub filed_all : ℕ → List ℕ → List ℕ → Tables → Tables
filed_all i [] vs t = t
filed_all i (k ∷ ks) [] t = t
filed_all i (k ∷ ks) (v ∷ vs) t = filed_all (i + 1) ks vs (filed i k v t)

-- ---- fresh, whatever the tables held
abbrev pub fresh_tables : List ℕ → List ℕ → Tables
fresh_tables ns es = tables (fresh_nodes ns) (fresh_entries es)
