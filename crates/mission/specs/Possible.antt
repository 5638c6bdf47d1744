-- Demand 2 is not vacuous: fresh, loaded and other registers are reached, each phase and each answer comes, and a
-- query ends amid intake.
-- In order: a fresh register; what it is that a phase or an answer comes; a query amid intake; all of it.
-- Full (6) does not come by computing, since 510 inserts come before it: P11 (crate demands) shows it from the
-- counters, and no run that ends in it is given here. BadTable (7) never comes in a reached register, by
-- `no_bad_table` below; Damaged (8) never does, by
-- demand 2's `undamaged`.
-- Not here: the proof (proofs/Possible.antt). Assumes nothing.
use Rattle.std.specs.Prelude.{ℕ, ◌≡◌, List, [], ◌∷◌, ◌++◌, replicate}
use Rattle.order.specs.Set.{Pair, insert, remove}
use Rattle.terms.specs.Terms.{small, Name, name_of, Refuses}
use Rattle.terms.specs.declared.Op.{Op}
use Rattle.register.specs.Register.{fresh_nodes, fresh_entries, fresh_counters}
use Rattle.sixteen.specs.Sixteen.{fresh_register}
use Rattle.sixteen.specs.declared.Call.{Call}
use Rattle.demands.specs.Worked.{steps, does, figure_calls}
use Rattle.reached.specs.Reached.{State, record_of, answer, Past, no_past, InWords, Reached}
use Rattle.reached.specs.Answers.{set_now}
use Rattle.mission.specs.Runs.{run, past_of, Kind, kind_of}
use Rattle.mission.specs.Mission.{Ends, list}
use Rattle.mission.specs.Listed.{Listed}

-- ---- a fresh register, of tables that were all 0
abbrev pub begin : State
begin = record {
  nodes = fresh_nodes (replicate 3072 0);
  entries = fresh_entries (replicate 8192 0);
  register = fresh_register fresh_counters;
}

-- ---- in some reached register a session stands in this phase
abbrev pub Stands : Kind → Type 0
Stands kind = (σ : State) × (h : Past) × (who : ℕ) × Reached small σ h × (kind_of (record_of σ who).phase ≡ kind)

-- a call to some reached register has this answer; is refused with this number
abbrev pub Answers : Name → Type 0
Answers name = (σ : State) × (h : Past) × (c : Call) × Reached small σ h × InWords c
    × (name_of (answer small σ c) ≡ name)

abbrev pub Refused : ℕ → Type 0
Refused number = (σ : State) × (h : Past) × (c : Call) × Reached small σ h × InWords c
    × Refuses number (answer small σ c)

-- ---- while session 1 runs the whole range, session 0 inserts 20 before its snapshot, and removes it after
abbrev pub meanwhile : List Call
meanwhile = does 0 (Op.Insert 20 7) 7 ++ (steps 1 3 ++ (does 0 (Op.Remove 20) 8 ++ steps 1 1))

-- the list is the register at a moment that has passed: 20 is on it, and removed by now
abbrev pub Query : Type 0
Query = Ends begin no_past 1 1 4294967294 meanwhile 1 1

abbrev pub query : List Pair
query = list begin no_past 1 1 4294967294 meanwhile

-- ---- all of it
pub record Possible : Type 0 where
  pub fresh : Reached small begin no_past
  -- document 002's Figure 1, by its calls: the updates, the newest in front, and the set
  pub figure : Reached small (run begin figure_calls) (past_of begin no_past figure_calls)
  pub figure_updates : (past_of begin no_past figure_calls).updates
      ≡ remove 20 ∷ insert 10 9 ∷ insert 30 8 ∷ insert 20 7 ∷ []
  pub figure_set : set_now (past_of begin no_past figure_calls) ≡ (10, 9) ∷ (30, 8) ∷ []
  pub every_phase : (kind : Kind) → Stands kind
  pub every_answer : (name : Name) → Answers name
  pub refusals : Refused 1 × Refused 2 × Refused 3 × Refused 4 × Refused 5
  pub no_bad_table : (σ : State) (h : Past) → Reached small σ h → (c : Call) → ¬ Refuses 7 (answer small σ c)
  -- a query amid intake, and its list
  pub query_ends : Query
  pub query_list : query ≡ (20, 7) ∷ []
  -- and a loaded register: that list, written and read back
  pub loaded : Listed 1 query (replicate 16357 0) ((20, 7) ∷ [])
