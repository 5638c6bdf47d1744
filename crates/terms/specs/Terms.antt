-- Sizes, operations, answers and refusals in document 01's words and numbers.
-- In order: sizes; the numbers in an operation; a refusal's number; an answer's name and values.
-- Not here: when each is given (crates steps and register). Assumes nothing.
use Rattle.std.specs.Prelude.{ℕ, ◌≡◌, List, [], ◌∷◌, Bool, true, false, cond, eqb}
use Rattle.terms.specs.declared.Size.{Size}
use Rattle.terms.specs.declared.Op.{Op}
use Rattle.terms.specs.declared.Refusal.{Refusal}
use Rattle.terms.specs.declared.Answer.{Answer}

-- ---- sizes: so 510 inserts, at most 1,020 updates
abbrev pub small : Size
small = record { nodes = 512; entries = 2048; keys = 510; updates = 1020 }

-- ---- keys: 0 is the head's, 4,294,967,295 the tail's
abbrev pub tail_key : ℕ
tail_key = 4294967295

unfoldable pub out_of_bounds : ℕ → Bool
out_of_bounds k = cond (eqb k 0) true (eqb k tail_key)

-- ---- the numbers in an operation: the key sought (`low` for a range), the last key looked at, the value
abbrev pub sought_of : Op → ℕ
sought_of Op.None = 0
sought_of (Op.Insert key value) = key
sought_of (Op.Remove key) = key
sought_of (Op.Has key) = key
sought_of (Op.Range low high) = low

abbrev pub high_of : Op → ℕ
high_of Op.None = 0
high_of (Op.Insert key value) = key
high_of (Op.Remove key) = key
high_of (Op.Has key) = key
high_of (Op.Range low high) = high

abbrev pub value_of : Op → ℕ
value_of Op.None = 0
value_of (Op.Insert key value) = value
value_of (Op.Remove key) = 0
value_of (Op.Has key) = 0
value_of (Op.Range low high) = 0

abbrev pub removes_of : Op → Bool
removes_of Op.None = false
removes_of (Op.Insert key value) = false
removes_of (Op.Remove key) = true
removes_of (Op.Has key) = false
removes_of (Op.Range low high) = false

abbrev pub names_of : Op → Bool
names_of Op.None = false
names_of (Op.Insert key value) = true
names_of (Op.Remove key) = true
names_of (Op.Has key) = true
names_of (Op.Range low high) = true

-- ---- document 01's number of each refusal
abbrev pub refusal_number : Refusal → ℕ
refusal_number Refusal.BadSession = 1
refusal_number Refusal.Busy = 2
refusal_number Refusal.BadKey = 3
refusal_number Refusal.BadRange = 4
refusal_number Refusal.Idle = 5
refusal_number Refusal.Full = 6
refusal_number Refusal.BadTable = 7
refusal_number Refusal.Damaged = 8

-- ---- document 01's name of each answer, and its values
pub data Name : Type 0 where
  started working waiting key inserted removed present absent end refused : Name

abbrev pub name_of : Answer → Name
name_of Answer.Started = started
name_of Answer.Working = working
name_of Answer.Waiting = waiting
name_of (Answer.Key k v) = key
name_of (Answer.Inserted n) = inserted
name_of (Answer.Removed n) = removed
name_of Answer.Present = present
name_of Answer.Absent = absent
name_of (Answer.End snapshot handed) = end
name_of (Answer.Refused why) = refused

abbrev pub values_of : Answer → List ℕ
values_of Answer.Started = []
values_of Answer.Working = []
values_of Answer.Waiting = []
values_of (Answer.Key k v) = k ∷ v ∷ []
values_of (Answer.Inserted n) = n ∷ []
values_of (Answer.Removed n) = n ∷ []
values_of Answer.Present = []
values_of Answer.Absent = []
values_of (Answer.End snapshot handed) = snapshot ∷ handed ∷ []
values_of (Answer.Refused why) = refusal_number why ∷ []

-- the answer is the refusal with this number
pub record Refuses (number : ℕ) (a : Answer) : Type 0 where
  pub name : name_of a ≡ refused
  pub values : values_of a ≡ number ∷ []
