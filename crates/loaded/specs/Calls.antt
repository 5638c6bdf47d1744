-- The calls of session 0 that insert keys in order, each above all before it, and what calls leave.
-- In order: the calls; their answers; the updates, and the pairs; a listing's keys and values, and the empty listing;
-- the history and the answers of any calls; a register whose session 0 runs alone, and a fresh one; a history that
-- knows what sessions run; what calls do, in one record.
-- Not here: that a loaded register is what they leave (proofs/). Assumes nothing.
use Rattle.std.specs.Prelude.{ℕ, ◌+◌, ◌≡◌, List, [], ◌∷◌, ◌++◌, replicate}
use Rattle.order.specs.Set.{Pair, Update, insert}
use Rattle.terms.specs.declared.Size.{Size}
use Rattle.terms.specs.declared.Counters.{Counters}
use Rattle.terms.specs.declared.Op.{Op}
use Rattle.terms.specs.declared.Answer.{Answer}
use Rattle.steps.specs.declared.Session.{Session}
use Rattle.steps.specs.Steps.{idle}
use Rattle.register.specs.Register.{fresh_nodes, fresh_entries, fresh_counters}
use Rattle.sixteen.specs.declared.Call.{Call}
use Rattle.sixteen.specs.Sixteen.{fresh_register}
use Rattle.fairness.specs.Calls.{after}
use Rattle.reached.specs.Reached.{State, op_of, go, answer, Past, note}
use Rattle.text.specs.Text.{lines_of}
use Rattle.listing.specs.Listing.{edition_name, stamp_name, key_name, value_name, count_name}
use Rattle.scanning.specs.Reading.{numbers_in}

-- ---- the insert of a key above the i that are there: start, i moves, and then arrive, Lock, Check, Prepare, Number,
-- Link, Finish
abbrev pub inserting : ℕ → ℕ → ℕ → List Call
inserting i k v = Call.Start 0 (Op.Insert k v) ∷ (replicate i (Call.Step 0) ++ replicate 7 (Call.Step 0))

-- the inserts of all keys, where i are there already
unfoldable pub filing : ℕ → List ℕ → List ℕ → List Call
filing i [] vs = []
filing i (k ∷ ks) [] = []
filing i (k ∷ ks) (v ∷ vs) = inserting i k v ++ filing (i + 1) ks vs

-- ---- what they answer: the last step is inserted, with its number
abbrev pub inserted_so : ℕ → List Answer
inserted_so i =
    Answer.Started ∷ (replicate i Answer.Working ++ (replicate 6 Answer.Working ++ (Answer.Inserted (i + 1) ∷ [])))

unfoldable pub filed_so : ℕ → List ℕ → List ℕ → List Answer
filed_so i [] vs = []
filed_so i (k ∷ ks) [] = []
filed_so i (k ∷ ks) (v ∷ vs) = inserted_so i ++ filed_so (i + 1) ks vs

-- ---- the updates that they make, the newest in front; the keys with their values
unfoldable pub inserts : List ℕ → List ℕ → List Update
inserts [] vs = []
inserts (k ∷ ks) [] = []
inserts (k ∷ ks) (v ∷ vs) = inserts ks vs ++ (insert k v ∷ [])

unfoldable pub pairs_of : List ℕ → List ℕ → List Pair
pairs_of [] vs = []
pairs_of (k ∷ ks) [] = []
pairs_of (k ∷ ks) (v ∷ vs) = (k, v) ∷ pairs_of ks vs

-- ---- the keys and values of a listing's lines
abbrev pub keys_in : List ℕ → List ℕ
keys_in s = numbers_in key_name (lines_of s)

abbrev pub values_in : List ℕ → List ℕ
values_in s = numbers_in value_name (lines_of s)

-- `edition=1`, `stamp=0`, `count=0`
abbrev pub empty_listing : List ℕ
empty_listing = (edition_name ++ (49 ∷ 10 ∷ [])) ++ ((stamp_name ++ (48 ∷ 10 ∷ [])) ++ (count_name ++ (48 ∷ 10 ∷ [])))

-- ---- the history after calls, and their answers
module _ (z : Size) where
  unfoldable pub past_after : State → List Call → Past → Past
  past_after σ [] h = h
  past_after σ (c ∷ cs) h = past_after (go z σ c) cs (note z σ c h)

  unfoldable pub answers : State → List Call → List Answer
  answers σ [] = []
  answers σ (c ∷ cs) = answer z σ c ∷ answers (go z σ c) cs

-- ---- a register whose session 0 has this record, all others idle
abbrev pub alone : List ℕ → List ℕ → Counters → Session → State
alone ns es c s =
    record { nodes = ns; entries = es; register = record { counters = c; sessions = s ∷ replicate 15 idle } }

-- a register that fresh has opened in these tables
abbrev pub opened : List ℕ → List ℕ → State
opened ns es =
    record { nodes = fresh_nodes ns; entries = fresh_entries es; register = fresh_register fresh_counters }

-- ---- a history that tells of each session the operation that its record names
abbrev pub Knows : State → Past → Type 0
Knows σ h = (who : ℕ) → h.under who ≡ op_of σ who

-- what calls do: the state after them, their answers, and the updates that they add to any such history; it stays one
pub record Goes (z : Size) (σ : State) (cs : List Call) (τ : State) (rs : List Answer) (us : List Update) : Type 0
  where
    pub ends : after (go z) σ cs ≡ τ
    pub answered : answers z σ cs ≡ rs
    pub numbered : (h : Past) → Knows σ h → (past_after z σ cs h).updates ≡ us ++ h.updates
    pub known : (h : Past) → Knows σ h → Knows τ (past_after z σ cs h)
