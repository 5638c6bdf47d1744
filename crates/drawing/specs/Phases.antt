-- What a session runs, and how far it has come (document 01, Steps).
-- In order: operations; an update's own numbers; phases, with each phase's numbers; the operation that a phase serves.
-- Not here: what a step does (Steps). Assumes nothing.
use Rattle.std.proofs.Math.Option.{Option, none, some}
use Rattle.std.specs.Prelude.{List, ℕ}
use Rattle.order.specs.Set.{Pair, Update, insert, remove}
use Rattle.order.specs.History.{head, Logged, ins, rem}

-- ---- operations
pub data Op : Type 0 where
  upd : Update → Op
  has : (key : ℕ) → Op
  range : (low high : ℕ) → Op

abbrev pub key_in : Update → ℕ
key_in (insert k v) = k
key_in (remove k) = k

-- the key that the walk looks for
abbrev pub sought : Op → ℕ
sought (upd u) = key_in u
sought (has k) = k
sought (range low high) = low

-- ---- an update past Prepare: `node` is the new or the removed node, `behind` the one behind it
-- where the entry laid in pred leads
abbrev pub pred_target : Update → (node behind : ℕ) → ℕ
pred_target (insert k v) node behind = node
pred_target (remove k) node behind = behind

-- where the entry laid in the node leads
abbrev pub node_target : Update → (node behind : ℕ) → ℕ
node_target (insert k v) node behind = behind
node_target (remove k) node behind = head

-- pred's plain next until Link
abbrev pub old_next : Update → (node behind : ℕ) → ℕ
old_next (insert k v) node behind = behind
old_next (remove k) node behind = node

-- the update by its node, as the log has it
abbrev pub logged : Update → ℕ → Logged
logged (insert k v) node = ins node
logged (remove k) node = rem node

-- what is asked of a remove alone
abbrev pub OfRemove : Update → Type 0 → Type 0
OfRemove (insert k v) P = Unit {0}
OfRemove (remove k) P = P

-- ---- phases. `carried` is the stamp when the entries were laid, `handed` the keys and values handed out so far
pub data Phase : Type 0 where
  idle : Phase
  walking : Op → (pred curr : ℕ) → Phase
  locking : Update → (pred curr : ℕ) → Phase
  locking_curr : (key pred curr : ℕ) → Phase
  checking preparing : Update → (pred curr : ℕ) → Phase
  numbering : Update → (pred node behind carried : ℕ) → Phase
  linking finishing : Update → (pred node behind carried number : ℕ) → Phase
  seeking : (key node : ℕ) → Phase
  fixing : (low high pred : ℕ) → Phase
  following handing : (low high node snapshot : ℕ) → (handed : List Pair) → Phase

-- after the walk
abbrev pub arrived : Op → (pred curr : ℕ) → Phase
arrived (upd u) pred curr = locking u pred curr
arrived (has k) pred curr = seeking k pred
arrived (range low high) pred curr = fixing low high pred

-- after Lock of pred
abbrev pub locked : Update → (pred curr : ℕ) → Phase
locked (insert k v) pred curr = checking (insert k v) pred curr
locked (remove k) pred curr = locking_curr k pred curr

-- ---- the operation that a phase serves
abbrev pub task : Phase → Option Op
task idle = none
task (walking op pred curr) = some op
task (locking u pred curr) = some (upd u)
task (locking_curr k pred curr) = some (upd (remove k))
task (checking u pred curr) = some (upd u)
task (preparing u pred curr) = some (upd u)
task (numbering u pred node behind carried) = some (upd u)
task (linking u pred node behind carried number) = some (upd u)
task (finishing u pred node behind carried number) = some (upd u)
task (seeking k node) = some (has k)
task (fixing low high pred) = some (range low high)
task (following low high node snapshot handed) = some (range low high)
task (handing low high node snapshot handed) = some (range low high)
