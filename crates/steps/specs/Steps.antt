-- Every step of document 01, in its order and words: what the tables, the counters and the record become, and the
-- answer.
-- In order: records and what a step leaves; Walk; Lock; Check; Prepare; Number; Link; Finish; has's Follow; Fix;
-- Follow; Hand; the step by its phase. `z` is the size, `ns` and `es` are the node and the entries table, `c` the
-- counters. A node or an entry number is tested where a step first uses it, before any write (document 01, Damaged).
-- Not here: the checks before a step, starting, a fresh register (crate register). Assumes nothing.
use Rattle.std.specs.Prelude.{Option, Some, None, Result, Ok, Err}
use Rattle.std.specs.Prelude.{ℕ, ◌+◌, List, Bool, true, false, cond, ◌&&◌, ◌||◌, ltb, leb, eqb}
use Rattle.bundle.specs.Bundle.{at_of, newest_of, held_of, lay_of, finish_of}
use Rattle.bundle.specs.declared.Held.{Held}
use Rattle.nodes.specs.Nodes.{put_node, key_at, value_at, next_at, lock_at, removed_at, newest_at, unlocked}
use Rattle.nodes.specs.Nodes.{unlocked_both}
use Rattle.nodes.specs.Nodes.{new_node}
use Rattle.terms.specs.Terms.{sought_of, high_of, value_of, removes_of, names_of}
use Rattle.terms.specs.declared.Size.{Size}
use Rattle.terms.specs.declared.Counters.{Counters}
use Rattle.terms.specs.declared.Op.{Op}
use Rattle.terms.specs.declared.Refusal.{Refusal}
use Rattle.terms.specs.declared.Answer.{Answer}
use Rattle.steps.specs.declared.Phase.{Phase}
use Rattle.steps.specs.declared.Session.{Session}
use Rattle.steps.specs.declared.Stepped.{Stepped}

-- ---- records
abbrev pub idle : Session
idle = record { op = Op.None; phase = Phase.Idle }

-- a record that names an operation and a phase of it
abbrev pub under_way : Phase → Bool
under_way Phase.Idle = false
under_way (Phase.Walk pred curr) = true
under_way (Phase.Lock pred curr) = true
under_way (Phase.LockCurr pred curr) = true
under_way (Phase.Check pred curr) = true
under_way (Phase.Prepare pred curr) = true
under_way (Phase.Number pred node lower upper) = true
under_way (Phase.Link pred node lower upper number) = true
under_way (Phase.Finish pred node lower upper number) = true
under_way (Phase.Newest at) = true
under_way (Phase.Fix pred) = true
under_way (Phase.Follow at snapshot handed) = true
under_way (Phase.Hand at snapshot handed) = true

abbrev pub busy_of : Session → Bool
busy_of s = cond (names_of s.op) (under_way s.phase) false

-- ---- the number of a session, if it is among the sixteen
unfoldable pub among_sixteen : ℕ → Option ℕ
among_sixteen number = cond (ltb number 16) (Some number) None

-- ---- what a step leaves: both tables, or the node table alone, and what it returns
pub data Done : Type 0 where
  done : List ℕ → List ℕ → Stepped → Done

pub data Moved : Type 0 where
  moved : List ℕ → Stepped → Moved

-- a step that leaves the entries as they are
abbrev pub over : List ℕ → Moved → Done
over es (moved ns r) = done ns es r

abbrev pub gives : Counters → Op → Phase → Answer → Stepped
gives c op phase a = record { counters = c; session = record { op = op; phase = phase }; answer = a }

abbrev pub works : Counters → Op → Phase → Stepped
works c op phase = gives c op phase Answer.Working

abbrev pub waits : Counters → Op → Phase → Stepped
waits c op phase = gives c op phase Answer.Waiting

abbrev pub ends : Counters → Answer → Stepped
ends c a = gives c Op.None Phase.Idle a

abbrev pub refuses : Counters → Op → Phase → Refusal → Stepped
refuses c op phase why = gives c op phase (Answer.Refused why)

abbrev pub damaged : Counters → Op → Phase → Stepped
damaged c op phase = refuses c op phase Refusal.Damaged

-- ---- Walk: if curr's key is below the key sought, move both on; else arrive
abbrev pub arrived_of : Op → ℕ → ℕ → Phase
arrived_of Op.None pred curr = Phase.Idle
arrived_of (Op.Insert key value) pred curr = Phase.Lock pred curr
arrived_of (Op.Remove key) pred curr = Phase.Lock pred curr
arrived_of (Op.Has key) pred curr = Phase.Newest pred
arrived_of (Op.Range low high) pred curr = Phase.Fix pred

unfoldable pub walk_step : Size → List ℕ → Counters → Op → ℕ → ℕ → Stepped
walk_step z ns c op pred curr =
    cond (ltb curr z.nodes)
    (cond (ltb (key_at ns curr) (sought_of op))
    (works c op (Phase.Walk curr (next_at ns curr)))
    (works c op (arrived_of op pred curr)))
    (damaged c op (Phase.Walk pred curr))

-- the node that Walk moves on to
unfoldable pub moves_on : Size → List ℕ → ℕ → ℕ → Option ℕ
moves_on z ns sought curr =
    cond (ltb curr z.nodes)
    (cond (ltb (key_at ns curr) sought) (Some (next_at ns curr)) None)
    None

-- ---- Lock: wait while another holds the node; one's own word counts as free
abbrev pub locked_of : Op → ℕ → ℕ → Phase
locked_of op pred curr = cond (removes_of op) (Phase.LockCurr pred curr) (Phase.Check pred curr)

unfoldable pub free : ℕ → ℕ → Bool
free who word = cond (eqb word 0) true (eqb word (who + 1))

unfoldable pub lock_step : Size → List ℕ → Counters → ℕ → Op → ℕ → Phase → Phase → Moved
lock_step z ns c who op node here then =
    cond (ltb node z.nodes)
    (cond (free who (lock_at ns node))
    (moved (put_node ns node 3 (who + 1)) (works c op then))
    (moved ns (waits c op here)))
    (moved ns (damaged c op here))

-- ---- Check. Walk again: unlock, and from the head as it now stands
abbrev pub again_of : List ℕ → Phase
again_of ns = Phase.Walk 0 (next_at ns 0)

-- an insert's curr, where pred leads to it: if it has the key, unlock and answer present
unfoldable pub insert_meets : Size → List ℕ → Counters → Op → ℕ → ℕ → Moved
insert_meets z ns c op pred curr =
    cond (ltb curr z.nodes)
    (cond (eqb (key_at ns curr) (sought_of op))
    (moved (unlocked ns pred) (ends c Answer.Present))
    (moved ns (works c op (Phase.Prepare pred curr))))
    (moved ns (damaged c op (Phase.Check pred curr)))

unfoldable pub insert_check : Size → List ℕ → Counters → Op → ℕ → ℕ → Moved
insert_check z ns c op pred curr =
    cond (ltb pred z.nodes)
    (cond (eqb (removed_at ns pred) 0 && eqb (next_at ns pred) curr)
    (insert_meets z ns c op pred curr)
    (moved (unlocked ns pred) (works c op (again_of ns))))
    (moved ns (damaged c op (Phase.Check pred curr)))

-- a remove's two nodes: neither removed, and pred's next is curr
unfoldable pub linked_of : List ℕ → ℕ → ℕ → Bool
linked_of ns pred curr = eqb (removed_at ns pred) 0 && (eqb (removed_at ns curr) 0 && eqb (next_at ns pred) curr)

unfoldable pub remove_check : Size → List ℕ → Counters → Op → ℕ → ℕ → Moved
remove_check z ns c op pred curr =
    cond (ltb pred z.nodes && ltb curr z.nodes)
    (cond (linked_of ns pred curr)
    (cond (eqb (key_at ns curr) (sought_of op))
    (moved ns (works c op (Phase.Prepare pred curr)))
    (moved (unlocked_both ns pred curr true) (ends c Answer.Absent)))
    (moved (unlocked_both ns pred curr true) (works c op (again_of ns))))
    (moved ns (damaged c op (Phase.Check pred curr)))

unfoldable pub check_step : Size → List ℕ → Counters → Op → ℕ → ℕ → Moved
check_step z ns c op pred curr = cond (removes_of op) (remove_check z ns c op pred curr) (insert_check z ns c op pred
    curr)

-- ---- Prepare: wait if a newest entry is pending; then the counters; then lay
pub data Tables : Type 0 where
  tables : List ℕ → List ℕ → Tables

abbrev pub leaves : Tables → Stepped → Done
leaves (tables ns es) r = done ns es r

-- entry e, pending, to the target, in front of the node's bundle
unfoldable pub lay_in : ℕ → ℕ → ℕ → ℕ → Tables → Tables
lay_in node e target stamp (tables ns es) = tables (put_node ns node 5 (e + 1)) (lay_of es e target stamp (newest_at ns
    node))

-- the new node between pred and curr, then the entry in pred to it, then its own to curr
unfoldable pub insert_laid : List ℕ → List ℕ → Counters → Op → ℕ → ℕ → Tables
insert_laid ns es c op pred curr =
    lay_in c.nodes (c.entries + 1) curr c.stamp
    (lay_in pred c.entries c.nodes c.stamp (tables (new_node ns c.nodes (sought_of op) (value_of op) curr)
    es))

-- the entry in pred to curr's next, then curr's to the head
unfoldable pub remove_laid : List ℕ → List ℕ → Counters → ℕ → ℕ → Tables
remove_laid ns es c pred curr =
    lay_in curr (c.entries + 1) 0 c.stamp (lay_in pred c.entries (next_at ns curr) c.stamp (tables ns es))

abbrev pub counted : Counters → ℕ → Counters
counted c used = record { nodes = used; entries = c.entries + 2; stamp = c.stamp }

-- with no node left: unlock, and full
unfoldable pub insert_room : Size → List ℕ → List ℕ → Counters → Op → ℕ → ℕ → Done
insert_room z ns es c op pred curr =
    cond (ltb z.nodes c.nodes)
    (done ns es (damaged c op (Phase.Prepare pred curr)))
    (cond (eqb c.nodes z.nodes)
    (done (unlocked ns pred) es (ends c (Answer.Refused Refusal.Full)))
    (cond (ltb z.entries (c.entries + 2))
    (done ns es (damaged c op (Phase.Prepare pred curr)))
    (leaves (insert_laid ns es c op pred curr)
    (works (counted c (c.nodes + 1)) op (Phase.Number pred c.nodes c.entries (c.entries + 1))))))

unfoldable pub remove_room : Size → List ℕ → List ℕ → Counters → Op → ℕ → ℕ → Done
remove_room z ns es c op pred curr =
    cond (ltb z.nodes c.nodes || ltb z.entries (c.entries + 2))
    (done ns es (damaged c op (Phase.Prepare pred curr)))
    (leaves (remove_laid ns es c pred curr)
    (works (counted c c.nodes) op (Phase.Number pred curr c.entries (c.entries + 1))))

-- is the newest entry of a node's bundle pending; of pred's, and then of curr's
unfoldable pub held_at : Size → List ℕ → List ℕ → ℕ → Result (Unit {0}) Held
held_at z ns es node = cond (ltb node z.nodes) (held_of z.entries es (newest_at ns node)) (Err Held.Damaged)

abbrev pub or_else : Result (Unit {0}) Held → Result (Unit {0}) Held → Result (Unit {0}) Held
or_else (Ok tt) next = next
or_else (Err Held.Wait) next = Err Held.Wait
or_else (Err Held.Damaged) next = Err Held.Damaged

abbrev pub held_either : Size → List ℕ → List ℕ → ℕ → ℕ → Result (Unit {0}) Held
held_either z ns es pred curr = or_else (held_at z ns es pred) (held_at z ns es curr)

abbrev pub on_held : List ℕ → List ℕ → Counters → Op → Phase → Result (Unit {0}) Held → Done → Done
on_held ns es c op here (Ok tt) next = next
on_held ns es c op here (Err Held.Wait) next = done ns es (waits c op here)
on_held ns es c op here (Err Held.Damaged) next = done ns es (damaged c op here)

abbrev pub insert_prepare : Size → List ℕ → List ℕ → Counters → Op → ℕ → ℕ → Done
insert_prepare z ns es c op pred curr =
    on_held ns es c op (Phase.Prepare pred curr) (held_at z ns es pred) (insert_room z ns es c op pred curr)

abbrev pub remove_prepare : Size → List ℕ → List ℕ → Counters → Op → ℕ → ℕ → Done
remove_prepare z ns es c op pred curr =
    on_held ns es c op (Phase.Prepare pred curr) (held_either z ns es pred curr) (remove_room z ns es c op pred curr)

unfoldable pub prepare_step : Size → List ℕ → List ℕ → Counters → Op → ℕ → ℕ → Done
prepare_step z ns es c op pred curr =
    cond (removes_of op) (remove_prepare z ns es c op pred curr) (insert_prepare z ns es c op pred curr)

-- ---- Number: the stamp goes up by 1 and is the update's number
abbrev pub raised : Counters → Counters
raised c = record { nodes = c.nodes; entries = c.entries; stamp = c.stamp + 1 }

unfoldable pub number_step : Size → Counters → Op → ℕ → ℕ → ℕ → ℕ → Stepped
number_step z c op pred node lower upper =
    cond (ltb c.stamp z.updates)
    (works (raised c) op (Phase.Link pred node lower upper (c.stamp + 1)))
    (damaged c op (Phase.Number pred node lower upper))

-- ---- Link: pred's plain next is the new node; or mark the node removed, and pred's next is its next
unfoldable pub insert_link : Size → List ℕ → Counters → Op → ℕ → ℕ → ℕ → ℕ → ℕ → Moved
insert_link z ns c op pred node lower upper number =
    cond (ltb pred z.nodes)
    (moved (put_node ns pred 2 node) (works c op (Phase.Finish pred node lower upper number)))
    (moved ns (damaged c op (Phase.Link pred node lower upper number)))

unfoldable pub remove_link : Size → List ℕ → Counters → Op → ℕ → ℕ → ℕ → ℕ → ℕ → Moved
remove_link z ns c op pred node lower upper number =
    cond (ltb pred z.nodes && ltb node z.nodes)
    (moved (put_node (put_node ns node 4 1) pred 2 (next_at ns node))
    (works c op (Phase.Finish pred node lower upper number)))
    (moved ns (damaged c op (Phase.Link pred node lower upper number)))

unfoldable pub link_step : Size → List ℕ → Counters → Op → ℕ → ℕ → ℕ → ℕ → ℕ → Moved
link_step z ns c op pred node lower upper number =
    cond (removes_of op)
    (remove_link z ns c op pred node lower upper number)
    (insert_link z ns c op pred node lower upper number)

-- ---- Finish: both entries get the number, unlock, answer
abbrev pub finish_answer : Bool → ℕ → Answer
finish_answer removes number = cond removes (Answer.Removed number) (Answer.Inserted number)

abbrev pub finished_of : Op → ℕ → Answer
finished_of op number = finish_answer (removes_of op) number

-- both entries and the nodes that are locked are in the tables
abbrev pub in_tables : Size → Bool → ℕ → ℕ → ℕ → ℕ → Bool
in_tables z removes pred node lower upper =
    ltb lower z.entries && (ltb upper z.entries && (ltb pred z.nodes && cond removes (ltb node z.nodes) true))

unfoldable pub usable : Size → Op → ℕ → ℕ → ℕ → ℕ → Bool
usable z op pred node lower upper = in_tables z (removes_of op) pred node lower upper

unfoldable pub finish_step : Size → List ℕ → List ℕ → Counters → Op → ℕ → ℕ → ℕ → ℕ → ℕ → Done
finish_step z ns es c op pred node lower upper number =
    cond (usable z op pred node lower upper)
    (done (unlocked_both ns pred node (removes_of op)) (finish_of (finish_of es lower number) upper number)
    (ends c (finished_of op number)))
    (done ns es (damaged c op (Phase.Finish pred node lower upper number)))

-- ---- has's Follow: by the newest link (B4), until a key not below the one sought
unfoldable pub has_sees : Size → List ℕ → Counters → Op → ℕ → ℕ → Stepped
has_sees z ns c op at to =
    cond (ltb to z.nodes)
    (cond (ltb (key_at ns to) (sought_of op))
    (works c op (Phase.Newest to))
    (cond (eqb (key_at ns to) (sought_of op)) (ends c Answer.Present) (ends c Answer.Absent)))
    (damaged c op (Phase.Newest at))

-- what comes where a link is read
abbrev pub on_read : Counters → Op → Phase → Result ℕ Held → (ℕ → Stepped) → Stepped
on_read c op here (Err Held.Wait) next = waits c op here
on_read c op here (Ok to) next = next to
on_read c op here (Err Held.Damaged) next = damaged c op here

unfoldable pub newest_step : Size → List ℕ → List ℕ → Counters → Op → ℕ → Stepped
newest_step z ns es c op at =
    cond (ltb at z.nodes)
    (on_read c op (Phase.Newest at) (newest_of z.entries es (newest_at ns at)) (has_sees z ns c op at))
    (damaged c op (Phase.Newest at))

-- ---- Fix: the stamp is the snapshot
abbrev pub fix_step : Counters → Op → ℕ → Stepped
fix_step c op pred = works c op (Phase.Follow pred c.stamp 0)

-- ---- Follow (B3): key below low, go on; in range, the next step hands it out; above high, answer end
unfoldable pub range_sees : Size → List ℕ → Counters → Op → ℕ → ℕ → ℕ → ℕ → Stepped
range_sees z ns c op at snapshot handed to =
    cond (ltb to z.nodes)
    (cond (ltb (key_at ns to) (sought_of op))
    (works c op (Phase.Follow to snapshot handed))
    (cond (leb (key_at ns to) (high_of op))
    (works c op (Phase.Hand to snapshot handed))
    (ends c (Answer.End snapshot handed))))
    (damaged c op (Phase.Follow at snapshot handed))

unfoldable pub follow_step : Size → List ℕ → List ℕ → Counters → Op → ℕ → ℕ → ℕ → Stepped
follow_step z ns es c op at snapshot handed =
    cond (ltb at z.nodes)
    (on_read c op (Phase.Follow at snapshot handed) (at_of z.entries es (newest_at ns at) snapshot)
    (range_sees z ns c op at snapshot handed))
    (damaged c op (Phase.Follow at snapshot handed))

-- ---- Hand: one key and value, and back to Follow
unfoldable pub hand_step : Size → List ℕ → Counters → Op → ℕ → ℕ → ℕ → Stepped
hand_step z ns c op at snapshot handed =
    cond (ltb at z.nodes && ltb handed z.keys)
    (gives c op (Phase.Follow at snapshot (handed + 1)) (Answer.Key (key_at ns at) (value_at ns at)))
    (damaged c op (Phase.Hand at snapshot handed))

-- ---- the step of a session, by the phase that it has reached
abbrev pub act_step : Size → List ℕ → List ℕ → Counters → ℕ → Op → Phase → Done
act_step z ns es c who op Phase.Idle = done ns es (refuses c op Phase.Idle Refusal.Idle)
act_step z ns es c who op (Phase.Walk pred curr) = done ns es (walk_step z ns c op pred curr)
act_step z ns es c who op (Phase.Lock pred curr) =
    over es (lock_step z ns c who op pred (Phase.Lock pred curr) (locked_of op pred curr))
act_step z ns es c who op (Phase.LockCurr pred curr) =
    over es (lock_step z ns c who op curr (Phase.LockCurr pred curr) (Phase.Check pred curr))
act_step z ns es c who op (Phase.Check pred curr) = over es (check_step z ns c op pred curr)
act_step z ns es c who op (Phase.Prepare pred curr) = prepare_step z ns es c op pred curr
act_step z ns es c who op (Phase.Number pred node lower upper) = done ns es (number_step z c op pred node lower upper)
act_step z ns es c who op (Phase.Link pred node lower upper number) =
    over es (link_step z ns c op pred node lower upper number)
act_step z ns es c who op (Phase.Finish pred node lower upper number) =
    finish_step z ns es c op pred node lower upper number
act_step z ns es c who op (Phase.Newest at) = done ns es (newest_step z ns es c op at)
act_step z ns es c who op (Phase.Fix pred) = done ns es (fix_step c op pred)
act_step z ns es c who op (Phase.Follow at snapshot handed) = done ns es (follow_step z ns es c op at snapshot handed)
act_step z ns es c who op (Phase.Hand at snapshot handed) = done ns es (hand_step z ns c op at snapshot handed)
