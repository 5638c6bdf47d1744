-- A register driven through the library for C and Rust: the slices that a program lends hold a register as calls reach
-- it, and each call of the library makes of it what the call of document 01 does.
-- In order: slices that hold a register; what a call leaves; each library call; the theorem.
-- `ns` and `es` are the tables, `ws` the counters' and records' words, `out` the answer's; those behind a call have a
-- stroke.
-- Not here: the library's calls (crate ffi), reached registers (crate reached). Assumes nothing.
use Rattle.std.specs.Prelude.{ℕ, ◌+◌, ◌-◌, ◌≤◌, ◌<◌, ◌≡◌, ◌⊎◌, true, List, [], ◌∷◌, ◌++◌, length, replicate, Ok}
use Rattle.terms.specs.Terms.{small}
use Rattle.terms.specs.declared.Counters.{Counters}
use Rattle.terms.specs.declared.Op.{Op}
use Rattle.terms.specs.declared.Answer.{Answer}
use Rattle.steps.specs.Steps.{tables}
use Rattle.register.specs.Register.{fits, fresh_counters}
use Rattle.sixteen.specs.declared.Call.{Call}
use Rattle.sixteen.specs.Sixteen.{fresh_register}
use Rattle.fairness.specs.Calls.{after}
use Rattle.reached.specs.Reached.{State, record_of, go, answer, Past, no_past, Reached}
use Rattle.loading.specs.Loading.{done, load_of}
use Rattle.loaded.specs.Calls.{answers, inserts, keys_in, values_in}
use Rattle.onward.specs.Onward.{has_room}
use Rattle.several.specs.Several.{Handed, handed, hand_out}
use Rattle.encoding.specs.Encoding.{encode, op_from}
use Rattle.packing.specs.Packing.{counters_at, record_at, reply_with, reply_of, number_of, put_reply}
use Rattle.exchange.specs.Exchange.{words_room, left, read_call}
use Rattle.calling.specs.Calling.{tally, strode}
use Rattle.stepping.specs.Stepping.{heard, step_call}
use Rattle.ffi.specs.Ffi.{cleared, fresh_call, start_call, steps_call}

-- ---- the slices hold σ: its tables, its counters, and the record of each of its sixteen sessions
pub record Holds (ns es ws : List ℕ) (σ : State) : Type 0 where
  pub nodes : ns ≡ σ.nodes
  pub entries : es ≡ σ.entries
  pub long : length ws ≡ words_room
  pub counters : counters_at ws ≡ σ.register.counters
  pub sixteen : length σ.register.sessions ≡ 16
  pub records : (who : ℕ) → who < 16 → record_at ws who ≡ encode (record_of σ who)

-- ---- a call was made: the slices hold what it leaves, the answer's words are its answer's, and so is the number
pub record Did (σ : State) (call : Call) (ns' es' ws' out out' : List ℕ) (n : ℕ) : Type 0 where
  pub holds : Holds ns' es' ws' (go small σ call)
  pub answered : out' ≡ put_reply out (reply_of (answer small σ call))
  pub number : n ≡ number_of (reply_of (answer small σ call))

-- ---- fresh, where it returns 0: the slices hold a fresh register
abbrev pub all_idle : List ℕ → List ℕ → Counters → State
all_idle ns es c = record { nodes = ns; entries = es; register = fresh_register c }

abbrev pub FreshIs : Type 0
FreshIs = (ns es ws ns' es' ws' : List ℕ) → cleared ns' es' ws' 0 ≡ fresh_call small ns es ws
    → Holds ns' es' ws' (all_idle ns' es' fresh_counters) × Reached small (all_idle ns' es' fresh_counters) no_past

-- ---- start and step, of any session and with any numbers, where the answer has three words
abbrev pub StartIs : Type 0
StartIs = (σ : State) (ns es ws out ws' out' : List ℕ) (who kind first second n : ℕ) → Holds ns es ws σ
    → length out ≡ 3 → heard ws' out' n ≡ start_call small ns es ws out who kind first second
    → Did σ (Call.Start who (op_from kind first second)) ns es ws' out out' n

abbrev pub StepIs : Type 0
StepIs = (σ : State) (ns es ws out ns' es' ws' out' : List ℕ) (who n : ℕ) → Holds ns es ws σ → length out ≡ 3
    → left ns' es' ws' out' n ≡ step_call small ns es ws out who → Did σ (Call.Step who) ns' es' ws' out out' n

-- ---- several steps: one step of session who after another
abbrev pub in_a_row : ℕ → ℕ → List Call
in_a_row made who = replicate made (Call.Step who)

-- the keys of answers put into the lent pairs, in order, as far as there is room
abbrev pub hand_all : Handed → List Answer → Handed
hand_all h [] = h
hand_all (handed ps n) (a ∷ rs) = hand_all (hand_out ps n a) rs

-- the call goes on after working, and after a key behind which another finds room
abbrev pub Onward : Answer → Handed → Type 0
Onward a (handed ps n) = (a ≡ Answer.Working) ⊎ ((k : ℕ) × (v : ℕ) × (a ≡ Answer.Key k v) × (has_room ps n ≡ true))

abbrev pub AllOnward : Handed → List Answer → Type 0
AllOnward h [] = Unit {0}
AllOnward (handed ps n) (a ∷ rs) = Onward a (hand_out ps n a) × AllOnward (hand_out ps n a) rs

-- so many steps are made in a row from σ, n pairs being filled before them: one at least and `more` after it at most;
-- every answer but the last goes on, and the last is at the limit or does not
pub record Row (σ : State) (who more : ℕ) (ps : List ℕ) (n : ℕ) (ps' : List ℕ) (count made : ℕ) (last : Answer) :
    Type 0 where
  pub before : List Answer
  pub one : 1 ≤ made
  pub few : made ≤ more + 1
  pub say : answers small σ (in_a_row made who) ≡ before ++ (last ∷ [])
  pub onward : AllOnward (handed ps n) before
  pub pairs : hand_all (handed ps n) (before ++ (last ∷ [])) ≡ handed ps' count
  pub stops : (made ≡ more + 1) ⊎ (¬ Onward last (handed ps' count))

-- the library's answer is the last one's, with how many pairs are filled and how many steps were made
pub record Strides (σ : State) (who limit : ℕ) (ps out ns' es' ws' ps' out' : List ℕ) (n : ℕ) : Type 0 where
  pub made : ℕ
  pub count : ℕ
  pub last : Answer
  pub row : Row σ who (limit - 1) ps 0 ps' count made last
  pub holds : Holds ns' es' ws' (after (go small) σ (in_a_row made who))
  pub answered : out' ≡ tally (put_reply out (reply_of last)) count made
  pub number : n ≡ number_of (reply_of last)

-- where the slices have the right lengths, the answer five words, and there is such a session
abbrev pub StepsIs : Type 0
StepsIs = (σ : State) (ns es ws ps out ns' es' ws' ps' out' : List ℕ) (who limit n : ℕ) → Holds ns es ws σ
    → fits small ns es ≡ true → who < 16 → length out ≡ 5
    → strode ns' es' ws' ps' out' n ≡ steps_call small ns es ws ps out who limit
    → Strides σ who limit ps out ns' es' ws' ps' out' n

-- ---- reading a listing, where it returns 0: the slices hold the loaded register, a reached one whose updates so far
-- are the inserts of the listing's keys; the answer is name 11 and the stamp
pub record Reads (input ns es out ns' es' ws' out' : List ℕ) : Type 0 where
  pub counters : Counters
  pub past : Past
  pub loads : load_of small input ns es ≡ done (tables ns' es') (Ok counters)
  pub holds : Holds ns' es' ws' (all_idle ns' es' counters)
  pub reached : Reached small (all_idle ns' es' counters) past
  pub updates : past.updates ≡ inserts (keys_in input) (values_in input)
  pub under : past.under ≡ λ who. Op.None
  pub answered : out' ≡ put_reply out (reply_with 11 counters.stamp 0)

abbrev pub ReadIs : Type 0
ReadIs = (input ns es ws out ns' es' ws' out' : List ℕ)
    → left ns' es' ws' out' 0 ≡ read_call small input ns es ws out → Reads input ns es out ns' es' ws' out'

-- ---- THE THEOREM
pub record Driven : Type 0 where
  pub fresh : FreshIs
  pub start : StartIs
  pub step : StepIs
  pub steps : StepsIs
  pub read : ReadIs
