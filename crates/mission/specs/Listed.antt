-- A list written as a listing and read back is the same register: its keys and values, at the list's one moment.
-- In order: a list's keys and values; a list written and read back; room for any listing; the sentence.
-- Not here: the proof (proofs/Listed.antt). Assumes nothing.
use Rattle.std.specs.Prelude.{ℕ, ◌≤◌, ◌≡◌, List, map, length, take, Ok}
use Rattle.order.specs.Set.{Pair, key_of}
use Rattle.terms.specs.Terms.{small}
use Rattle.terms.specs.declared.Counters.{Counters}
use Rattle.terms.specs.declared.Answer.{Answer}
use Rattle.steps.specs.Steps.{tables}
use Rattle.sixteen.specs.declared.Call.{Call}
use Rattle.sixteen.specs.Sixteen.{fresh_register}
use Rattle.listing.specs.Listing.{key_room, write_of}
use Rattle.listing.specs.Listing.{done as written}
use Rattle.loading.specs.Loading.{done, load_of}
use Rattle.reached.specs.Reached.{State, who_of, answer, Past, Reached}
use Rattle.reached.specs.Answers.{set_at, set_now}
use Rattle.mission.specs.Mission.{whole}

-- ---- a list's keys, and its values
abbrev pub value_of : Pair → ℕ
value_of p = p.1

abbrev pub keys_of : List Pair → List ℕ
keys_of list = map key_of list

abbrev pub values_of : List Pair → List ℕ
values_of list = map value_of list

-- ---- the first so many bytes read as a reached register, in tables of document 01's lengths, and its set is this
pub record ReadAs (bytes ns es : List ℕ) (set : List Pair) : Type 0 where
  pub nodes : List ℕ
  pub entries : List ℕ
  pub counters : Counters
  pub loads : load_of small bytes ns es ≡ done (tables nodes entries) (Ok counters)
  pub past : Past
  pub reached : Reached small (record { nodes = nodes; entries = entries; register = fresh_register counters }) past
  pub holds : set_now past ≡ set

-- the list is written with stamp t, neither BadPairs nor NoRoom; and what was written reads back
pub record Listed (t : ℕ) (list : List Pair) (out : List ℕ) (set : List Pair) : Type 0 where
  pub output : List ℕ
  pub count : ℕ
  pub writes : write_of key_room t (keys_of list) (values_of list) out ≡ written output (Ok count)
  pub reads : (ns es : List ℕ) → length ns ≡ 3072 → length es ≡ 8192 → ReadAs (take count output) ns es set

-- ---- the longest listing's bytes
abbrev pub most_room : ℕ
most_room = 16357

-- ---- A LIST, WRITTEN AND READ BACK, GIVES THE SAME KEYS AND VALUES, in an output with room for any listing
pub record ListedMoment : Type 0 where
  -- a range's: what it handed out
  pub any_range : (σ : State) (h : Past) → Reached small σ h → (c : Call) (t n : ℕ)
      → answer small σ c ≡ Answer.End t n
      → (out : List ℕ) → most_room ≤ length out → Listed t (h.handed (who_of c)) out (h.handed (who_of c))
  -- the whole range's: the set after T updates, which is the register at one moment
  pub whole_range : (σ : State) (h : Past) → Reached small σ h → (c : Call) (t n : ℕ) → h.under (who_of c) ≡ whole
      → answer small σ c ≡ Answer.End t n
      → (out : List ℕ) → most_room ≤ length out → Listed t (h.handed (who_of c)) out (set_at h t)
