-- The history: at every snapshot the dated links show the set after the updates numbered by then.
-- In order: nodes; links at a snapshot, and the two ways to number an update; the log and the start; numbers; the set,
-- as nodes and as pairs; one snapshot; the whole history; what a range reads; the rows at the beginning.
-- Nodes are numbers. Each has one key and one value for ever (`key`, `val`).
-- Not here: who may number an update, and when (the list's). Assumes nothing.
use Rattle.std.specs.Prelude.{cond, ◌⊎◌, ◌≢◌, ◌≡◌, ℕ, zero, suc, ◌+◌, ◌-◌, ◌≤◌, ◌<◌, ltb, leb, eqb, length}
use Rattle.std.proofs.Math.Option.{Option, none, some}
use mathlib.Core.List.{List, [], ◌∷◌, ◌++◌, map, Memᴰ}
use Rattle.order.specs.Set.{Pair, Rises, put, cut, Update, insert, remove, set_after, first}
use Rattle.order.specs.Rows.{Row, Under, look}

-- ---- nodes
abbrev pub head : ℕ
head = 0

abbrev pub tail : ℕ
tail = 1

-- ---- where each node's link leads at snapshot `s`
abbrev pub next : (ℕ → Row) → ℕ → ℕ → Option ℕ
next rows s x = look s (rows x)

-- one more pair, numbered `n` and leading to `t`, in front of the row of `x`
unfoldable pub push : (ℕ → Row) → (x n t : ℕ) → ℕ → Row
push rows x n t y = cond (eqb y x) ((n, t) ∷ rows y) (rows y)

-- Number: an update has one pair in each of two rows, of `x` to `t` and of `y` to `u`, both numbered `n`
abbrev pub number : (ℕ → Row) → (n x t y u : ℕ) → ℕ → Row
number rows n x t y u = push (push rows x n t) y n u

-- of an insert of `new` between `pred` and `curr`
abbrev pub number_insert : (ℕ → Row) → (n pred curr new : ℕ) → ℕ → Row
number_insert rows n pred curr new = number rows n pred new new curr

-- of a remove of `curr` between `pred` and `succ`: the removed node leads to the head
abbrev pub number_remove : (ℕ → Row) → (n pred curr succ : ℕ) → ℕ → Row
number_remove rows n pred curr succ = number rows n pred succ curr head

-- ---- the log: the updates that have numbers, by the node that each put in or took out; the newest in front
pub data Logged : Type 0 where
  ins rem : ℕ → Logged

abbrev pub Log : Type 0
Log = List Logged

abbrev pub Inserted : ℕ → Log → Type 0
Inserted x log = Memᴰ (ins x) log

abbrev pub Removed : ℕ → Log → Type 0
Removed x log = Memᴰ (rem x) log

-- ---- where it begins: with a stamp, and with nodes in order
pub record Start : Type 0 where
  pub base : ℕ
  pub loaded : List ℕ

-- their keys strictly rise between the head's and the tail's
abbrev pub InOrder : (ℕ → ℕ) → Start → Type 0
InOrder key start = Rises key (head ∷ (start.loaded ++ (tail ∷ [])))

-- the empty set at stamp 0
abbrev pub empty : Start
empty = record { base = 0; loaded = [] }

-- ---- numbers: the stamp is the newest update's number, so the next update gets one more
abbrev pub stamp : Start → Log → ℕ
stamp start log = start.base + length log

-- what snapshot `s` shows: the updates with numbers up to `s`
abbrev pub up_to : Start → ℕ → Log → Log
up_to start s log = first (s - start.base) log

-- loaded, or inserted by an update: in the set, at least for a time
abbrev pub Given : Start → ℕ → Log → Type 0
Given start x log = Memᴰ x start.loaded ⊎ Inserted x log

-- ---- the set after the log, as pairs
module _ (key val : ℕ → ℕ) where
  abbrev pub entry : ℕ → Pair
  entry x = (key x, val x)

  -- the update that the log tells of
  abbrev pub said : Logged → Update
  said (ins x) = insert (key x) (val x)
  said (rem x) = remove (key x)

  abbrev pub set_of : Start → Log → List Pair
  set_of start log = set_after (map entry start.loaded) (map said log)

module _ (key : ℕ → ℕ) where
  -- following `f` from `p` visits exactly these nodes, with rising keys
  abbrev pub Chain : (ℕ → Option ℕ) → ℕ → List ℕ → Type 0
  Chain f p [] = Unit {0}
  Chain f p (n ∷ ns) = (f p ≡ some n) × (key p < key n) × Chain f n ns

  module _ (start : Start) where
    -- the set after the log, as nodes in order
    unfoldable pub members : Log → List ℕ
    members [] = start.loaded
    members (ins x ∷ log) = put key x (members log)
    members (rem x ∷ log) = cut key (key x) (members log)

    -- ---- one snapshot: the links `f` show the log. From the head they visit the set and then the tail; a removed
    -- node leads to the head, so that a reader who stands there begins again; a node not given yet leads nowhere
    pub record Snap (f : ℕ → Option ℕ) (log : Log) : Type 0 where
      pub walk : Chain f head (members log ++ (tail ∷ []))
      pub gone : (x : ℕ) → Removed x log → f x ≡ some head
      pub kept : (x : ℕ) → Given start x log → Memᴰ x (members log) ⊎ Removed x log
      pub fresh : (x : ℕ) → x ≢ head → ¬ Given start x log → f x ≡ none

    -- ---- the whole history: every snapshot from the start's up to the stamp, and no pair above the stamp
    pub record History (rows : ℕ → Row) (log : Log) : Type 0 where
      pub snap : (s : ℕ) → start.base ≤ s → s ≤ stamp start log → Snap (next rows s) (up_to start s log)
      pub under : (x : ℕ) → Under (suc (stamp start log)) (rows x)

-- ---- what a range reads: from `p` at most `fuel` links, until a key above `high`
module _ (key val : ℕ → ℕ) where
  unfoldable pub collect : (ℕ → Option ℕ) → (low high fuel p : ℕ) → List Pair
  collect f low high zero p = []
  collect f low high (suc fuel) p = elim (f p) [
    | none ↦ []
    | some q ↦ cond (ltb (key q) low) (collect f low high fuel q)
        (cond (leb (key q) high) (entry key val q ∷ collect f low high fuel q) [])
  ]

-- ---- the rows at the beginning: from `p` on over a list of nodes each leads to the next one
unfoldable pub linked : ℕ → ℕ → List ℕ → ℕ → Row
linked base p [] x = []
linked base p (n ∷ ns) x = cond (eqb x p) ((base, n) ∷ []) (linked base n ns x)

-- the head and each starting node have one pair, numbered as the start is; the others have none
abbrev pub rows_from : Start → ℕ → Row
rows_from start = linked start.base head (start.loaded ++ (tail ∷ []))
