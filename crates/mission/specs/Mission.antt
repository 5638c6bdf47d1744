-- Demand 2 in the mission's own words: a list is the register at one moment, and a copy under another name is one key.
-- In order: the whole range; a moment of a run; a query from start to end; OneMoment; what a call adds; OneKey;
-- Handed.
-- Each is a consequence of demand 2 (crate reached), and of the drawing that the words show.
-- Not here: the proofs (proofs/Mission.antt). Assumes nothing.
use Rattle.std.specs.Prelude.{ℕ, ◌-◌, ◌≤◌, ◌≡◌, ◌≢◌, true, false, List, ◌++◌, length}
use Rattle.order.specs.Set.{Pair, key_of, Rises, put, within, member}
use Rattle.terms.specs.Terms.{small}
use Rattle.terms.specs.declared.Op.{Op}
use Rattle.terms.specs.declared.Answer.{Answer}
use Rattle.sixteen.specs.declared.Call.{Call}
use Rattle.reached.specs.Reached.{State, stamp_of, who_of, go, answer, Past, note, InWords, Reached}
use Rattle.reached.specs.Answers.{set_at, set_now}
use Rattle.reached.specs.Fair.{AllInWords}
use Rattle.mission.specs.Runs.{run, past_of}

-- ---- the range over all keys
abbrev pub whole : Op
whole = Op.Range 1 4294967294

-- ---- a moment of a run from a register: the register and its history after the first of the calls
pub record Moment (σ : State) (h : Past) (calls : List Call) : Type 0 where
  pub before : List Call
  pub rest : List Call
  pub split : calls ≡ before ++ rest

abbrev pub stamp_then : (σ : State) (h : Past) (calls : List Call) → Moment σ h calls → ℕ
stamp_then σ h calls m = stamp_of (run σ m.before)

abbrev pub set_then : (σ : State) (h : Past) (calls : List Call) → Moment σ h calls → List Pair
set_then σ h calls m = set_now (past_of σ h m.before)

-- ---- session q starts the range from low to high, and calls of any sessions follow
module _ (σ : State) (h : Past) (q low high : ℕ) (calls : List Call) where
  abbrev pub begun : State
  begun = go small σ (Call.Start q (Op.Range low high))

  abbrev pub begun_past : Past
  begun_past = note small σ (Call.Start q (Op.Range low high)) h

  -- and now its step ends it, with T and C
  pub record Ends (t n : ℕ) : Type 0 where
    pub reached : Reached small σ h
    pub in_words : InWords (Call.Start q (Op.Range low high)) × AllInWords calls
    pub started : answer small σ (Call.Start q (Op.Range low high)) ≡ Answer.Started
    pub still : (past_of begun begun_past calls).under q ≡ Op.Range low high
    pub ended : answer small (run begun calls) (Call.Step q) ≡ Answer.End t n

  -- the list that it was handed
  abbrev pub list : List Pair
  list = (past_of begun begun_past calls).handed q

  -- there was a moment since its start at which the stamp was t and the set, within its bounds, was the list
  abbrev pub HadMoment : ℕ → Type 0
  HadMoment t = (m : Moment begun begun_past calls) × (stamp_then begun begun_past calls m ≡ t)
      × (list ≡ within key_of low high (set_then begun begun_past calls m))

-- what a session was handed is exactly the set after t updates, n of them; t lies between the stamps at its start and
-- now
abbrev pub HandedAll : State → Past → (who t n : ℕ) → Type 0
HandedAll σ h who t n =
    (h.handed who ≡ set_at h t) × (n ≡ length (set_at h t)) × (h.since who ≤ t) × (t ≤ stamp_of σ)

-- ---- A LIST IS THE REGISTER AT ONE MOMENT, while intake goes on
pub record OneMoment : Type 0 where
  -- a range over all keys ends with T and C: it was handed the set after T updates
  pub whole_set : (σ : State) (h : Past) → Reached small σ h → (c : Call) (t n : ℕ) → h.under (who_of c) ≡ whole
      → answer small σ c ≡ Answer.End t n → HandedAll σ h (who_of c) t n
  -- any range's list was the set, within its bounds, at a moment of the query, whatever other sessions did meanwhile
  pub moment : (σ : State) (h : Past) (q low high : ℕ) (calls : List Call) (t n : ℕ)
      → Ends σ h q low high calls t n → HadMoment σ h q low high calls t

-- ---- any answer but working
abbrev pub Quiet : Answer → Type 0
Quiet a = a ≢ Answer.Working

-- a call leaves the updates and the stamp as they were
abbrev pub Unmoved : State → Past → Call → Type 0
Unmoved σ h c = ((note small σ c h).updates ≡ h.updates) × (stamp_of (go small σ c) ≡ stamp_of σ)

-- the set had not the key after n - 1 updates, and after n it has it, with its value, besides
abbrev pub Added : Past → (k v n : ℕ) → Type 0
Added h k v n = (member key_of k (set_at h (n - 1)) ≡ false) × (set_at h n ≡ put key_of (k, v) (set_at h (n - 1)))

-- ---- A COPY UNDER ANOTHER NAME IS ONE KEY
pub record OneKey : Type 0 where
  -- filing a key answers present only when the set has it, and then the updates and the stamp are as before
  pub present : (σ : State) (h : Past) → Reached small σ h → (c : Call) (k v : ℕ)
      → h.under (who_of c) ≡ Op.Insert k v → answer small σ c ≡ Answer.Present
      → (member key_of k (set_now h) ≡ true) × Unmoved σ h c
  -- it answers inserted N only when the set had it not
  pub inserted : (σ : State) (h : Past) → Reached small σ h → (c : Call) (k v n : ℕ)
      → h.under (who_of c) ≡ Op.Insert k v → answer small σ c ≡ Answer.Inserted n → Added h k v n
  -- no set ever has a key twice: keys strictly rise in it
  pub once : (σ : State) (h : Past) → Reached small σ h → (n : ℕ) → Rises key_of (set_at h n)
  -- only a call that answers working makes an update count
  pub quiet : (σ : State) (h : Past) → Reached small σ h → (c : Call) → Quiet (answer small σ c) → Unmoved σ h c

-- ---- KEYS ARE HANDED OUT RISING, strictly, to every session and at every moment
pub record Handed : Type 0 where
  pub rising : (σ : State) (h : Past) → Reached small σ h → (who : ℕ) → Rises key_of (h.handed who)
