-- The drawing: what the two tables, the counters and the records mean, without words.
-- In order: functions changed at one place, and locks given up; bundles with an owner; the state; the beginning.
-- A node is a number that has one key and one value for ever.
-- Not here: what a step does (Steps), what holds of a reached drawing (proofs/Inv). Assumes nothing.
use Rattle.std.specs.Prelude.{Bool, false, cond, List, [], ◌∷◌, ◌++◌, ℕ, eqb}
use Rattle.std.proofs.Math.Option.{Option, none, some}
use Rattle.order.specs.Rows
use Rattle.order.specs.Rows.{Row, Bundle}
use Rattle.order.specs.History.{head, tail, Log, Start, stamp, rows_from}
use Rattle.drawing.specs.Phases.{Phase, idle}

-- ---- `f`, but `v` at `x`
unfoldable pub change : {A : Type 0} → (ℕ → A) → ℕ → A → ℕ → A
change f x v y = cond (eqb y x) v (f y)

-- a lock: free, or held by a session; without the hold of `t`
unfoldable pub without : ℕ → Option ℕ → Option ℕ
without t none = none
without t (some w) = cond (eqb w t) none (some w)

-- `t` gives up all that it holds
abbrev pub release : ℕ → (ℕ → Option ℕ) → ℕ → Option ℕ
release t lock x = without t (lock x)

-- ---- a bundle, with the session that laid its pending entry: a ghost, which no reader sees
pub data Owned : Type 0 where
  final : Row → Owned
  pending : (owner carried target : ℕ) → Row → Owned

abbrev pub shown : Owned → Bundle
shown (final row) = Rows.final row
shown (pending owner carried target row) = Rows.pending carried target row

-- ---- the state. Ghosts: the log; the effective rows, in which a pending entry counts from its Number on;
-- the stamp at each session's start
pub record Drawing : Type 0 where
  pub plain : ℕ → ℕ
  pub lock : ℕ → Option ℕ
  pub gone : ℕ → Bool
  pub bundle : ℕ → Owned
  pub log : Log
  pub rows : ℕ → Row
  pub phase : ℕ → Phase
  pub since : ℕ → ℕ

-- the stamp
abbrev pub now : Start → Drawing → ℕ
now start m = stamp start m.log

-- ---- the beginning: plain links from `p` on over a list of nodes, each to the next one
unfoldable pub plainly : ℕ → List ℕ → ℕ → ℕ
plainly p [] x = 0
plainly p (n ∷ ns) x = cond (eqb x p) n (plainly n ns x)

-- the starting nodes in order, nothing locked, removed or pending, all sessions idle
unfoldable pub beginning : Start → Drawing
beginning start = record {
  plain = plainly head (start.loaded ++ (tail ∷ []));
  lock = λ x. none;
  gone = λ x. false;
  bundle = λ x. final (rows_from start x);
  log = [];
  rows = rows_from start;
  phase = λ t. idle;
  since = λ t. start.base;
}
