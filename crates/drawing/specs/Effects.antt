-- The seven kinds of change that a step makes, and the drawing after one (document 01, Steps).
-- In order: effects; what an effect does to each part of the drawing; the drawing after a step, and after a start;
-- the nodes given.
-- Past Prepare an update has two nodes: pred, and the new or the removed node; `behind` is the one behind that.
-- Not here: when a step has which effect (Steps). Assumes nothing.
use Rattle.std.specs.Prelude.{Bool, true, false, List, ◌∷◌, ℕ, suc}
use Rattle.std.proofs.Math.Option.{Option, some}
use Rattle.order.specs.Set.{Update, insert, remove}
use Rattle.order.specs.Rows.{Row}
use Rattle.order.specs.History.{number, Log, Start}
use Rattle.drawing.specs.Phases.{pred_target, node_target, logged, Phase}
use Rattle.drawing.specs.Drawing.{change, release, Owned, final, pending, Drawing, now}

-- ---- no change; take a lock; give up all locks; lay two pending entries; number; link; finish and give up all locks
pub data Effect : Type 0 where
  stays : Effect
  holds : (node : ℕ) → Effect
  leaves : Effect
  lays : Update → (pred node behind : ℕ) → (pred_row node_row : Row) → Effect
  numbers links : Update → (pred node behind : ℕ) → Effect
  finishes : Update → (pred node behind number : ℕ) → (pred_row node_row : Row) → Effect

-- ---- plain links: a new node leads to the one behind it; Link moves pred's
abbrev pub new_plain : Update → (node behind : ℕ) → (ℕ → ℕ) → ℕ → ℕ
new_plain (insert k v) node behind plain = change plain node behind
new_plain (remove k) node behind plain = plain

abbrev pub plain_by : Effect → (ℕ → ℕ) → ℕ → ℕ
plain_by stays plain = plain
plain_by (holds x) plain = plain
plain_by leaves plain = plain
plain_by (lays u p y z r r₂) plain = new_plain u y z plain
plain_by (numbers u p y z) plain = plain
plain_by (links u p y z) plain = change plain p (pred_target u y z)
plain_by (finishes u p y z n r r₂) plain = plain

-- ---- locks, by a step of `t`
abbrev pub lock_by : ℕ → Effect → (ℕ → Option ℕ) → ℕ → Option ℕ
lock_by t stays lock = lock
lock_by t (holds x) lock = change lock x (some t)
lock_by t leaves lock = release t lock
lock_by t (lays u p y z r r₂) lock = lock
lock_by t (numbers u p y z) lock = lock
lock_by t (links u p y z) lock = lock
lock_by t (finishes u p y z n r r₂) lock = release t lock

-- ---- marks: a new node is not removed; Link marks a removed one
abbrev pub new_gone : Update → (node : ℕ) → (ℕ → Bool) → ℕ → Bool
new_gone (insert k v) node gone = change gone node false
new_gone (remove k) node gone = gone

abbrev pub marked : Update → (node : ℕ) → (ℕ → Bool) → ℕ → Bool
marked (insert k v) node gone = gone
marked (remove k) node gone = change gone node true

abbrev pub gone_by : Effect → (ℕ → Bool) → ℕ → Bool
gone_by stays gone = gone
gone_by (holds x) gone = gone
gone_by leaves gone = gone
gone_by (lays u p y z r r₂) gone = new_gone u y gone
gone_by (numbers u p y z) gone = gone
gone_by (links u p y z) gone = marked u y gone
gone_by (finishes u p y z n r r₂) gone = gone

-- ---- bundles, at stamp `c`: Prepare lays, Finish makes final, with the update's number
abbrev pub two_entries : (ℕ → Owned) → (pred : ℕ) → Owned → (node : ℕ) → Owned → ℕ → Owned
two_entries bundle pred a node b = change (change bundle pred a) node b

abbrev pub bundle_by : (c t : ℕ) → Effect → (ℕ → Owned) → ℕ → Owned
bundle_by c t stays bundle = bundle
bundle_by c t (holds x) bundle = bundle
bundle_by c t leaves bundle = bundle
bundle_by c t (lays u p y z r r₂) bundle =
    two_entries bundle p (pending t c (pred_target u y z) r) y (pending t c (node_target u y z) r₂)
bundle_by c t (numbers u p y z) bundle = bundle
bundle_by c t (links u p y z) bundle = bundle
bundle_by c t (finishes u p y z n r r₂) bundle =
    two_entries bundle p (final ((n, pred_target u y z) ∷ r)) y (final ((n, node_target u y z) ∷ r₂))

-- ---- the ghosts: Number alone makes an update count
abbrev pub log_by : Effect → Log → Log
log_by stays log = log
log_by (holds x) log = log
log_by leaves log = log
log_by (lays u p y z r r₂) log = log
log_by (numbers u p y z) log = logged u y ∷ log
log_by (links u p y z) log = log
log_by (finishes u p y z n r r₂) log = log

abbrev pub rows_by : (c : ℕ) → Effect → (ℕ → Row) → ℕ → Row
rows_by c stays rows = rows
rows_by c (holds x) rows = rows
rows_by c leaves rows = rows
rows_by c (lays u p y z r r₂) rows = rows
rows_by c (numbers u p y z) rows = number rows (suc c) p (pred_target u y z) y (node_target u y z)
rows_by c (links u p y z) rows = rows
rows_by c (finishes u p y z n r r₂) rows = rows

-- ---- the drawing after a step of `t` with effect `e`, which leaves `t` in phase `φ`
abbrev pub after : Start → Drawing → ℕ → Effect → Phase → Drawing
after start m t e φ = record {
  plain = plain_by e m.plain;
  lock = lock_by t e m.lock;
  gone = gone_by e m.gone;
  bundle = bundle_by (now start m) t e m.bundle;
  log = log_by e m.log;
  rows = rows_by (now start m) e m.rows;
  phase = change m.phase t φ;
  since = m.since;
}

-- ---- after a start of `t`: it records the stamp
abbrev pub begun : Start → Drawing → ℕ → Phase → Drawing
begun start m t φ = record {
  plain = m.plain;
  lock = m.lock;
  gone = m.gone;
  bundle = m.bundle;
  log = m.log;
  rows = m.rows;
  phase = change m.phase t φ;
  since = change m.since t (now start m);
}

-- ---- the nodes given to keys, the head and the tail left out: an insert's Prepare gives one
abbrev pub gave_to : Update → ℕ → List ℕ → List ℕ
gave_to (insert k v) node given = node ∷ given
gave_to (remove k) node given = given

abbrev pub given_by : Effect → List ℕ → List ℕ
given_by stays given = given
given_by (holds x) given = given
given_by leaves given = given
given_by (lays u p y z r r₂) given = gave_to u y given
given_by (numbers u p y z) given = given
given_by (links u p y z) given = given
given_by (finishes u p y z n r r₂) given = given
