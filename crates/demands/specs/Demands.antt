-- Demand 1 as a type: every call's answer is one of document 01's, each refusal is given exactly when its row of the
-- refusal table says, in the order said, and changes nothing; Full frees the lock and makes the session idle.
-- In order: what a call leaves; the rows' conditions, by number; what a step uses, by its phase (row 8); when it
-- waits; the demand.
-- It speaks of the definitions that the contracts of crates register and sixteen equate the code with, over any size,
-- any tables, counters and records. Rows 9 to 14 are the listing's and the runner's.
-- Not here: the proof (proofs/Demand1.antt), demands 2 and 3. Assumes nothing.
use Rattle.std.specs.Prelude.{Result, Ok, Err}
use Rattle.std.specs.Prelude.{ℕ, ◌+◌, ◌*◌, ◌≤◌, ◌<◌, ◌≡◌, ◌↔◌, ◌⊎◌, ◌≢◌, List, Bool, true, false, length}
use Rattle.bundle.specs.Bundle.{at_of, newest_of}
use Rattle.bundle.specs.declared.Held.{Held}
use Rattle.nodes.specs.Nodes.{next_at, lock_at, removed_at, newest_at, unlocked}
use Rattle.terms.specs.Terms.{sought_of, high_of, removes_of, tail_key, refusal_number, Refuses, name_of, started}
use Rattle.terms.specs.Terms.{waiting}
use Rattle.terms.specs.declared.Size.{Size}
use Rattle.terms.specs.declared.Counters.{Counters}
use Rattle.terms.specs.declared.Op.{Op}
use Rattle.terms.specs.declared.Refusal.{Refusal}
use Rattle.terms.specs.declared.Answer.{Answer}
use Rattle.steps.specs.declared.Phase.{Phase}
use Rattle.steps.specs.declared.Session.{Session}
use Rattle.steps.specs.declared.Stepped.{Stepped}
use Rattle.steps.specs.Steps.{Done, done, idle, held_at, held_either}
use Rattle.register.specs.declared.Started.{Started}
use Rattle.register.specs.Register.{Fresh, opened, fresh_nodes, fresh_entries, fresh_counters, fresh_of, start_of}
use Rattle.register.specs.Register.{step_of}
use Rattle.sixteen.specs.declared.Register.{Register}
use Rattle.sixteen.specs.declared.Call.{Call}
use Rattle.sixteen.specs.Sixteen.{Left, served, session_of, serve_of}

-- ---- what a call leaves
abbrev pub nodes_of : Done → List ℕ
nodes_of (done ns es r) = ns

abbrev pub entries_of : Done → List ℕ
entries_of (done ns es r) = es

abbrev pub returned : Done → Stepped
returned (done ns es r) = r

abbrev pub answer_of : Done → Answer
answer_of d = (returned d).answer

-- tables, counters and record as they were
pub record Kept (ns es : List ℕ) (c : Counters) (s : Session) (d : Done) : Type 0 where
  pub nodes : nodes_of d ≡ ns
  pub entries : entries_of d ≡ es
  pub counters : (returned d).counters ≡ c
  pub session : (returned d).session ≡ s

-- fresh answers with counters or with a refusal, by its number
abbrev pub RefusesFresh : ℕ → Fresh → Type 0
RefusesFresh n (opened ns es (Ok c)) = ⊥
RefusesFresh n (opened ns es (Err why)) = refusal_number why ≡ n

abbrev pub sessions_of : Left → List Session
sessions_of (served ns es r) = r.register.sessions

abbrev pub served_answer : Left → Answer
served_answer (served ns es r) = r.answer

abbrev pub who_of : Call → ℕ
who_of (Call.Start who op) = who
who_of (Call.Step who) = who

-- the record and the answer that a call gives its session, as a start and a step of that one record
abbrev pub own_record : Size → List ℕ → List ℕ → Register → Call → Session
own_record z ns es g (Call.Start who op) = (start_of z ns es who (session_of g.sessions who) op).session
own_record z ns es g (Call.Step who) =
    (returned (step_of z ns es g.counters who (session_of g.sessions who))).session

abbrev pub own_answer : Size → List ℕ → List ℕ → Register → Call → Answer
own_answer z ns es g (Call.Start who op) = (start_of z ns es who (session_of g.sessions who) op).answer
own_answer z ns es g (Call.Step who) = answer_of (step_of z ns es g.counters who (session_of g.sessions who))

-- ---- the rows' conditions
-- 7: a lent table has another length
abbrev pub BadTable : Size → List ℕ → List ℕ → Type 0
BadTable z ns es = (length ns ≢ z.nodes * 6) ⊎ (length es ≢ z.entries * 4)

-- 1: session above 15
abbrev pub BadSession : ℕ → Type 0
BadSession who = 15 < who

-- 2: the record names an operation and a phase of it; 5: it does not
abbrev pub Busy : Session → Type 0
Busy s = (s.op ≢ Op.None) × (s.phase ≢ Phase.Idle)

abbrev pub Idle : Session → Type 0
Idle s = ¬ Busy s

-- 3: key, low or high is 0 or 4,294,967,295 (no operation at all counts as key 0)
abbrev pub OutOfBounds : ℕ → Type 0
OutOfBounds k = (k ≡ 0) ⊎ (k ≡ tail_key)

abbrev pub BadKey : Op → Type 0
BadKey op = OutOfBounds (sought_of op) ⊎ OutOfBounds (high_of op)

-- 4: low above high
abbrev pub BadRange : Op → Type 0
BadRange op = high_of op < sought_of op

-- a start comes to its operation's own numbers; a step comes to its phase
abbrev pub Asks : Size → List ℕ → List ℕ → ℕ → Session → Type 0
Asks z ns es who s = (¬ BadTable z ns es) × (¬ BadSession who) × Idle s

abbrev pub Acts : Size → List ℕ → List ℕ → ℕ → Session → Type 0
Acts z ns es who s = (¬ BadTable z ns es) × (¬ BadSession who) × Busy s

-- ---- 6 and 8, by the phase. A record's operation that is not a remove counts as an insert in an update's phases
-- a node number or an entry number outside the table
abbrev pub FarNode : Size → ℕ → Type 0
FarNode z n = z.nodes ≤ n

abbrev pub FarEntry : Size → ℕ → Type 0
FarEntry z e = z.entries ≤ e

-- more than 512 nodes are used already; more than 2,046 entries
abbrev pub ManyNodes : Size → Counters → Type 0
ManyNodes z c = z.nodes < c.nodes

abbrev pub ManyEntries : Size → Counters → Type 0
ManyEntries z c = z.entries < c.entries + 2

-- a link is read: no entry to take, or the target lies outside the table
abbrev pub Misled : Size → Result ℕ Held → Type 0
Misled z (Err Held.Wait) = ⊥
Misled z (Ok to) = FarNode z to
Misled z (Err Held.Damaged) = Unit {0}

-- 6: no wait due (pred and its newest entry lie in the tables, and it is not pending), no node left
abbrev pub FullAt : Bool → Size → Result (Unit {0}) Held → Counters → Type 0
FullAt true z held c = ⊥
FullAt false z held c = (held ≡ Ok tt) × (c.nodes ≡ z.nodes)

abbrev pub Full : Size → List ℕ → List ℕ → Counters → Op → Phase → Type 0
Full z ns es c op Phase.Idle = ⊥
Full z ns es c op (Phase.Walk pred curr) = ⊥
Full z ns es c op (Phase.Lock pred curr) = ⊥
Full z ns es c op (Phase.LockCurr pred curr) = ⊥
Full z ns es c op (Phase.Check pred curr) = ⊥
Full z ns es c op (Phase.Prepare pred curr) = FullAt (removes_of op) z (held_at z ns es pred) c
Full z ns es c op (Phase.Number pred node lower upper) = ⊥
Full z ns es c op (Phase.Link pred node lower upper number) = ⊥
Full z ns es c op (Phase.Finish pred node lower upper number) = ⊥
Full z ns es c op (Phase.Newest at) = ⊥
Full z ns es c op (Phase.Fix pred) = ⊥
Full z ns es c op (Phase.Follow at snapshot handed) = ⊥
Full z ns es c op (Phase.Hand at snapshot handed) = ⊥

-- 8: a remove's Check uses both nodes, an insert's uses curr only where pred is not removed and its next is curr
abbrev pub CheckDamage : Bool → Size → List ℕ → ℕ → ℕ → Type 0
CheckDamage true z ns pred curr = FarNode z pred ⊎ FarNode z curr
CheckDamage false z ns pred curr =
    FarNode z pred ⊎ ((removed_at ns pred ≡ 0) × (next_at ns pred ≡ curr) × FarNode z curr)

-- Prepare: what asking for a wait uses, then the counters
abbrev pub RoomDamage : Bool → Size → Counters → Type 0
RoomDamage true z c = ManyNodes z c ⊎ ManyEntries z c
RoomDamage false z c = ManyNodes z c ⊎ ((c.nodes ≢ z.nodes) × ManyEntries z c)

abbrev pub PrepareDamage : Bool → Size → Result (Unit {0}) Held → Counters → Type 0
PrepareDamage removes z (Ok tt) c = RoomDamage removes z c
PrepareDamage removes z (Err Held.Wait) c = ⊥
PrepareDamage removes z (Err Held.Damaged) c = Unit {0}

abbrev pub held_for : Bool → Size → List ℕ → List ℕ → ℕ → ℕ → Result (Unit {0}) Held
held_for true z ns es pred curr = held_either z ns es pred curr
held_for false z ns es pred curr = held_at z ns es pred

-- a remove uses its node too
abbrev pub RemoveUses : Bool → Size → ℕ → Type 0
RemoveUses true z node = FarNode z node
RemoveUses false z node = ⊥

abbrev pub Damage : Size → List ℕ → List ℕ → Counters → Op → Phase → Type 0
Damage z ns es c op Phase.Idle = ⊥
Damage z ns es c op (Phase.Walk pred curr) = FarNode z curr
Damage z ns es c op (Phase.Lock pred curr) = FarNode z pred
Damage z ns es c op (Phase.LockCurr pred curr) = FarNode z curr
Damage z ns es c op (Phase.Check pred curr) = CheckDamage (removes_of op) z ns pred curr
Damage z ns es c op (Phase.Prepare pred curr) =
    PrepareDamage (removes_of op) z (held_for (removes_of op) z ns es pred curr) c
Damage z ns es c op (Phase.Number pred node lower upper) = z.updates ≤ c.stamp
Damage z ns es c op (Phase.Link pred node lower upper number) = FarNode z pred ⊎ RemoveUses (removes_of op) z node
Damage z ns es c op (Phase.Finish pred node lower upper number) =
    FarEntry z lower ⊎ (FarEntry z upper ⊎ (FarNode z pred ⊎ RemoveUses (removes_of op) z node))
Damage z ns es c op (Phase.Newest at) = FarNode z at ⊎ Misled z (newest_of z.entries es (newest_at ns at))
Damage z ns es c op (Phase.Fix pred) = ⊥
Damage z ns es c op (Phase.Follow at snapshot handed) =
    FarNode z at ⊎ Misled z (at_of z.entries es (newest_at ns at) snapshot)
Damage z ns es c op (Phase.Hand at snapshot handed) = FarNode z at ⊎ (z.keys ≤ handed)

-- ---- a wait is due: another holds the lock (its word is neither 0 nor one's own), a newest entry is pending at
-- Prepare, or rule B3 or B4 says so
abbrev pub HeldByAnother : ℕ → ℕ → Type 0
HeldByAnother who word = (word ≢ 0) × (word ≢ who + 1)

abbrev pub LockWaits : Size → List ℕ → ℕ → ℕ → Type 0
LockWaits z ns who node = (node < z.nodes) × HeldByAnother who (lock_at ns node)

abbrev pub Wait : Size → List ℕ → List ℕ → ℕ → Op → Phase → Type 0
Wait z ns es who op Phase.Idle = ⊥
Wait z ns es who op (Phase.Walk pred curr) = ⊥
Wait z ns es who op (Phase.Lock pred curr) = LockWaits z ns who pred
Wait z ns es who op (Phase.LockCurr pred curr) = LockWaits z ns who curr
Wait z ns es who op (Phase.Check pred curr) = ⊥
Wait z ns es who op (Phase.Prepare pred curr) = held_for (removes_of op) z ns es pred curr ≡ Err Held.Wait
Wait z ns es who op (Phase.Number pred node lower upper) = ⊥
Wait z ns es who op (Phase.Link pred node lower upper number) = ⊥
Wait z ns es who op (Phase.Finish pred node lower upper number) = ⊥
Wait z ns es who op (Phase.Newest at) =
    (at < z.nodes) × (newest_of z.entries es (newest_at ns at) ≡ Err Held.Wait)
Wait z ns es who op (Phase.Fix pred) = ⊥
Wait z ns es who op (Phase.Follow at snapshot handed) =
    (at < z.nodes) × (at_of z.entries es (newest_at ns at) snapshot ≡ Err Held.Wait)
Wait z ns es who op (Phase.Hand at snapshot handed) = ⊥

-- ---- fresh: 7
pub record FreshDemand (z : Size) (ns es : List ℕ) (f : Fresh) : Type 0 where
  pub bad_table : RefusesFresh 7 f ↔ BadTable z ns es
  -- it opens, or refuses with 7 and leaves the tables as they were
  pub answers : (f ≡ opened (fresh_nodes ns) (fresh_entries es) (Ok fresh_counters))
      ⊎ (f ≡ opened ns es (Err Refusal.BadTable))

-- ---- start: 7, 1, 2, 3, 4. Exactly when
pub record StartRows (z : Size) (ns es : List ℕ) (who : ℕ) (s : Session) (op : Op) (a : Answer) : Type 0 where
  pub bad_table : Refuses 7 a ↔ BadTable z ns es
  pub bad_session : Refuses 1 a ↔ ((¬ BadTable z ns es) × BadSession who)
  pub busy : Refuses 2 a ↔ ((¬ BadTable z ns es) × (¬ BadSession who) × Busy s)
  pub bad_key : Refuses 3 a ↔ (Asks z ns es who s × BadKey op)
  pub bad_range : Refuses 4 a ↔ (Asks z ns es who s × (¬ BadKey op) × BadRange op)

-- what it leaves: the tables and the counters are not its to change
pub record StartLeaves (ns : List ℕ) (s : Session) (op : Op) (r : Started) : Type 0 where
  -- it starts, or it is refused with one of those numbers
  pub answers : (r.answer ≡ Answer.Started) ⊎ ((n : ℕ) × Refuses n r.answer)
  pub refusals : (n : ℕ) → Refuses n r.answer → (n ≡ 7) ⊎ ((n ≡ 1) ⊎ ((n ≡ 2) ⊎ ((n ≡ 3) ⊎ (n ≡ 4))))
  -- a started operation walks from the head
  pub starts : r.answer ≡ Answer.Started → r.session ≡ record { op = op; phase = Phase.Walk 0 (next_at ns 0) }
  -- a refusal leaves the record as it was
  pub refused_keeps : (n : ℕ) → Refuses n r.answer → r.session ≡ s

-- ---- step: 7, 1, 5, 8, and 6 at an insert's Prepare. Exactly when
pub record StepRows (z : Size) (ns es : List ℕ) (c : Counters) (who : ℕ) (s : Session) (a : Answer) : Type 0 where
  pub bad_table : Refuses 7 a ↔ BadTable z ns es
  pub bad_session : Refuses 1 a ↔ ((¬ BadTable z ns es) × BadSession who)
  pub idle_session : Refuses 5 a ↔ ((¬ BadTable z ns es) × (¬ BadSession who) × Idle s)
  pub damaged : Refuses 8 a ↔ (Acts z ns es who s × Damage z ns es c s.op s.phase)
  pub full : Refuses 6 a ↔ (Acts z ns es who s × Full z ns es c s.op s.phase)
  -- no refusal, but as exact
  pub waits : (name_of a ≡ waiting) ↔ (Acts z ns es who s × Wait z ns es who s.op s.phase)

-- what it leaves
pub record StepLeaves (ns es : List ℕ) (c : Counters) (s : Session) (d : Done) : Type 0 where
  -- no other number, and a step does not answer started
  pub refusals : (n : ℕ) → Refuses n (answer_of d) → (n ≡ 7) ⊎ ((n ≡ 1) ⊎ ((n ≡ 5) ⊎ ((n ≡ 8) ⊎ (n ≡ 6))))
  pub no_start : name_of (answer_of d) ≢ started
  -- a refusal leaves tables, counters and record as they were
  pub refused_keeps : (n : ℕ) → n ≢ 6 → Refuses n (answer_of d) → Kept ns es c s d
  -- full frees pred's lock and makes the session idle, and changes nothing else
  pub full_frees : Refuses 6 (answer_of d) →
      (pred : ℕ) × (curr : ℕ) × (s.phase ≡ Phase.Prepare pred curr) × Kept (unlocked ns pred) es c idle d
  -- a step that answers waiting changes nothing
  pub waiting_keeps : name_of (answer_of d) ≡ waiting → Kept ns es c s d

-- ---- a call over sixteen records
pub record ServeDemand (z : Size) (ns es : List ℕ) (g : Register) (call : Call) : Type 0 where
  -- it answers as the start or the step of its own session's record does
  pub answered : served_answer (serve_of z ns es g call) ≡ own_answer z ns es g call
  -- it changes that record, and no other's
  pub own : who_of call < length g.sessions →
      session_of (sessions_of (serve_of z ns es g call)) (who_of call) ≡ own_record z ns es g call
  pub others : (n : ℕ) → n ≢ who_of call →
      session_of (sessions_of (serve_of z ns es g call)) n ≡ session_of g.sessions n
  pub as_many : length (sessions_of (serve_of z ns es g call)) ≡ length g.sessions

-- ---- demand 1
pub record Demand1 (z : Size) : Type 0 where
  pub fresh : (ns es : List ℕ) → FreshDemand z ns es (fresh_of z ns es)
  pub start_rows : (ns es : List ℕ) (who : ℕ) (s : Session) (op : Op) →
      StartRows z ns es who s op (start_of z ns es who s op).answer
  pub start_leaves : (ns es : List ℕ) (who : ℕ) (s : Session) (op : Op) →
      StartLeaves ns s op (start_of z ns es who s op)
  pub step_rows : (ns es : List ℕ) (c : Counters) (who : ℕ) (s : Session) →
      StepRows z ns es c who s (answer_of (step_of z ns es c who s))
  pub step_leaves : (ns es : List ℕ) (c : Counters) (who : ℕ) (s : Session) →
      StepLeaves ns es c s (step_of z ns es c who s)
  pub serve : (ns es : List ℕ) (g : Register) (call : Call) → ServeDemand z ns es g call
