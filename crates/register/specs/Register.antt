-- The register's public calls: what each answers and leaves, refusals in document 01's order.
-- In order: the tables' lengths; fresh; start (7, 1, 2, 3, 4); step (7, 1, 5, and 8 by the step); a call over sixteen
-- records. `z` is the size, `ns` and `es` are the lent tables.
-- Not here: the steps (crate steps). Assumes nothing.
use Rattle.std.specs.Prelude.{Result, Ok, Err}
use Rattle.std.specs.Prelude.{ℕ, ◌*◌, List, Bool, true, false, cond, ◌&&◌, ◌||◌, length, get_or, set, replicate, ltb}
use Rattle.std.specs.Prelude.{eqb}
use Rattle.table.specs.Table.{clear_of}
use Rattle.bundle.specs.Bundle.{lay_of, finish_of}
use Rattle.nodes.specs.Nodes.{put_node, next_at}
use Rattle.terms.specs.Terms.{sought_of, high_of, out_of_bounds, tail_key}
use Rattle.terms.specs.declared.Size.{Size}
use Rattle.terms.specs.declared.Counters.{Counters}
use Rattle.terms.specs.declared.Op.{Op}
use Rattle.terms.specs.declared.Refusal.{Refusal}
use Rattle.terms.specs.declared.Answer.{Answer}
use Rattle.steps.specs.declared.Phase.{Phase}
use Rattle.steps.specs.declared.Session.{Session}
use Rattle.steps.specs.declared.Stepped.{Stepped}
use Rattle.steps.specs.Steps.{Done, done, idle, busy_of, refuses, act_step}
use Rattle.register.specs.declared.Started.{Started}

-- ---- tables of the size: 6 words a node, 4 words an entry
unfoldable pub fits : Size → List ℕ → List ℕ → Bool
fits z ns es = eqb (length ns) (z.nodes * 6) && eqb (length es) (z.entries * 4)

-- ---- fresh: head (node 0), tail (node 1), entry 0 in the head's bundle with stamp 0 to the tail, plain link head to
-- tail
pub data Fresh : Type 0 where
  opened : List ℕ → List ℕ → Result Counters Refusal → Fresh

unfoldable pub fresh_nodes : List ℕ → List ℕ
fresh_nodes ns = put_node (put_node (put_node (clear_of ns) 0 2 1) 0 5 1) 1 0 tail_key

unfoldable pub fresh_entries : List ℕ → List ℕ
fresh_entries es = finish_of (lay_of (clear_of es) 0 1 0 0) 0 0

abbrev pub fresh_counters : Counters
fresh_counters = record { nodes = 2; entries = 1; stamp = 0 }

unfoldable pub fresh_of : Size → List ℕ → List ℕ → Fresh
fresh_of z ns es =
    cond (fits z ns es)
    (opened (fresh_nodes ns) (fresh_entries es) (Ok fresh_counters))
    (opened ns es (Err Refusal.BadTable))

-- ---- start: pred is the head, curr the head's plain next at that moment
abbrev pub keeps : Session → Refusal → Started
keeps s why = record { session = s; answer = Answer.Refused why }

-- key, low or high is 0 or 4,294,967,295
unfoldable pub bad_key : Op → Bool
bad_key op = out_of_bounds (sought_of op) || out_of_bounds (high_of op)

unfoldable pub began : List ℕ → Session → Op → Started
began ns s op =
    cond (bad_key op) (keeps s Refusal.BadKey)
    (cond (ltb (high_of op) (sought_of op)) (keeps s Refusal.BadRange)
    (record { session = record { op = op; phase = Phase.Walk 0 (next_at ns 0) }; answer = Answer.Started }))

unfoldable pub start_of : Size → List ℕ → List ℕ → ℕ → Session → Op → Started
start_of z ns es who s op =
    cond (fits z ns es)
    (cond (ltb who 16) (cond (busy_of s) (keeps s Refusal.Busy) (began ns s op)) (keeps s Refusal.BadSession))
    (keeps s Refusal.BadTable)

-- ---- step
unfoldable pub step_of : Size → List ℕ → List ℕ → Counters → ℕ → Session → Done
step_of z ns es c who s =
    cond (fits z ns es)
    (cond (ltb who 16)
    (cond (busy_of s)
    (act_step z ns es c who s.op s.phase)
    (done ns es (refuses c s.op s.phase Refusal.Idle)))
    (done ns es (refuses c s.op s.phase Refusal.BadSession)))
    (done ns es (refuses c s.op s.phase Refusal.BadTable))
