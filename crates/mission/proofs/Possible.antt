-- Demand 2 is not vacuous, by computing runs from a fresh register.
-- In order: what is opened to compute; registers on a run; Figure 1; the phases; the answers; the
-- refusals; no table of another length; a query amid intake; its list written and read back; all of it.
-- Not here: the statements (specs/Possible.antt). Assumes nothing.
use Prim.Native.Nat.{ℕ}
use mathlib.Core.Path.{◌≡◌, refl, ap, subst}
use mathlib.Core.Logic.{⊎_elim}
use mathlib.Core.Bool.{true}
use mathlib.Core.List.{List, [], ◌∷◌, ◌++◌}
use native.Mathlib.Omega.{arith}
use lib.ListN.{replicate, length-replicate}
use Rattle.table.specs.Table.{word_of, store_of}
use Rattle.order.specs.Set.{insert, remove, set_after, put, cut}
use Rattle.bundle.specs.Bundle.{look_of, scan_of, holds_up, at_of, newest_of, held_of, lay_of, finish_of}
use Rattle.nodes.specs.Nodes.{named_node, clear_node}
use Rattle.terms.specs.Terms
use Rattle.terms.specs.Terms.{out_of_bounds, small, Name, name_of, Refuses}
use Rattle.terms.specs.declared.Op.{Op}
use Rattle.steps.specs.Steps.{Done, done, walk_step, free, lock_step, insert_meets, insert_check, linked_of}
use Rattle.steps.specs.Steps.{remove_check}
use Rattle.steps.specs.Steps.{check_step, lay_in, insert_laid, remove_laid, insert_room, remove_room, held_at}
use Rattle.steps.specs.Steps.{prepare_step}
use Rattle.steps.specs.Steps.{number_step, insert_link, remove_link, link_step, usable, finish_step, has_sees}
use Rattle.steps.specs.Steps.{newest_step}
use Rattle.steps.specs.Steps.{range_sees, follow_step, hand_step}
use Rattle.register.specs.Register.{fits, fresh_nodes, fresh_entries, fresh_counters, fresh_of, bad_key, began}
use Rattle.register.specs.Register.{start_of}
use Rattle.register.specs.Register.{step_of}
use Rattle.sixteen.specs.declared.Register.{Register}
use Rattle.sixteen.specs.declared.Call.{Call}
use Rattle.sixteen.specs.Sixteen.{after_step}
use Rattle.demands.specs.Demands.{answer_of, BadTable}
use Rattle.demands.specs.Worked.{does, whole, figure_calls}
use Rattle.demands.proofs.Demand1.{demand_1_small}
use Rattle.reached.specs.Reached.{State, record_of, answer_in, answer, Past, no_past, Reached, fresh, on, at}
use Rattle.reached.proofs.Tested.{in_words, all_in_words, in_words_lem, all_in_words_lem}
use Rattle.words.proofs.Demand2.{seen}
use Rattle.mission.specs.Runs
use Rattle.mission.specs.Runs.{run, past_of, Kind, kind_of}
use Rattle.mission.specs.Mission.{begun, begun_past}
use Rattle.mission.specs.Listed.{Listed}
use Rattle.mission.specs.Possible.{begin, Stands, Answers, Refused, meanwhile, Query, query, Possible}
use Rattle.mission.proofs.Mission.{run_reached}
use Rattle.mission.proofs.Listed.{listed_moment}

-- ---- every definition that a call computes with
opened_up : ℕ
unfolding word_of store_of look_of scan_of holds_up at_of newest_of held_of lay_of finish_of named_node clear_node
    out_of_bounds walk_step free lock_step insert_meets insert_check linked_of remove_check check_step lay_in
    insert_laid remove_laid insert_room remove_room held_at prepare_step number_step insert_link remove_link link_step
    usable finish_step has_sees newest_step range_sees follow_step hand_step fits fresh_nodes fresh_entries fresh_of
    bad_key began start_of step_of at
opened_up = 0

-- ---- registers on a run from the fresh one
begin_reached : Reached small begin no_past
unfolding fresh_of fits
begin_reached = fresh (replicate 3072 0) (replicate 8192 0) _ _ fresh_counters refl

runs : (calls : List Call) → all_in_words calls ≡ true → Reached small (run begin calls) (past_of begin no_past calls)
runs calls e = run_reached begin no_past begin_reached calls (all_in_words_lem calls e)

stands : (calls : List Call) → all_in_words calls ≡ true → (who : ℕ) (kind : Kind)
    → kind_of (record_of (run begin calls) who).phase ≡ kind → Stands kind
stands calls words who kind e = (run begin calls, past_of begin no_past calls, who, runs calls words, e)

answers : (calls : List Call) → all_in_words calls ≡ true → (c : Call) → in_words c ≡ true → (name : Name)
    → name_of (answer small (run begin calls) c) ≡ name → Answers name
answers calls words c word name e =
    (run begin calls, past_of begin no_past calls, c, runs calls words, in_words_lem c word, e)

refused : (calls : List Call) → all_in_words calls ≡ true → (c : Call) → in_words c ≡ true → (number : ℕ)
    → Refuses number (answer small (run begin calls) c) → Refused number
refused calls words c word number e =
    (run begin calls, past_of begin no_past calls, c, runs calls words, in_words_lem c word, e)

-- ---- Figure 1
figure_updates : (past_of begin no_past figure_calls).updates
    ≡ remove 20 ∷ insert 10 9 ∷ insert 30 8 ∷ insert 20 7 ∷ []
unfolding opened_up
figure_updates = refl

-- ---- the phases
abbrev filing : ℕ → List Call
filing n = does 0 (Op.Insert 20 7) n

pub phase : (kind : Kind) → Stands kind
unfolding opened_up
phase Runs.idle = stands [] refl 0 Runs.idle refl
phase Runs.walk = stands (filing 0) refl 0 Runs.walk refl
phase Runs.lock = stands (filing 1) refl 0 Runs.lock refl
phase Runs.lock_curr = stands (does 0 (Op.Remove 20) 2) refl 0 Runs.lock_curr refl
phase Runs.check = stands (filing 2) refl 0 Runs.check refl
phase Runs.prepare = stands (filing 3) refl 0 Runs.prepare refl
phase Runs.number = stands (filing 4) refl 0 Runs.number refl
phase Runs.link = stands (filing 5) refl 0 Runs.link refl
phase Runs.finish = stands (filing 6) refl 0 Runs.finish refl
phase Runs.newest = stands (does 0 (Op.Has 20) 1) refl 0 Runs.newest refl
phase Runs.fix = stands (does 0 whole 1) refl 0 Runs.fix refl
phase Runs.follow = stands (does 0 whole 2) refl 0 Runs.follow refl
phase Runs.hand = stands (filing 7 ++ does 1 whole 3) refl 1 Runs.hand refl

-- ---- the answers
pub named : (name : Name) → Answers name
unfolding opened_up
named Terms.started = answers [] refl (Call.Start 0 (Op.Has 20)) refl Terms.started refl
named Terms.working = answers (does 0 (Op.Has 20) 0) refl (Call.Step 0) refl Terms.working refl
named Terms.waiting = answers (filing 2 ++ does 1 (Op.Insert 20 8) 1) refl (Call.Step 1) refl Terms.waiting refl
named Terms.key = answers (filing 7 ++ does 1 whole 3) refl (Call.Step 1) refl Terms.key refl
named Terms.inserted = answers (filing 6) refl (Call.Step 0) refl Terms.inserted refl
named Terms.removed = answers (filing 7 ++ does 0 (Op.Remove 20) 7) refl (Call.Step 0) refl Terms.removed refl
named Terms.present = answers (filing 7 ++ does 1 (Op.Insert 20 8) 2) refl (Call.Step 1) refl Terms.present refl
named Terms.absent = answers (does 0 (Op.Has 20) 1) refl (Call.Step 0) refl Terms.absent refl
named Terms.end = answers (does 0 whole 2) refl (Call.Step 0) refl Terms.end refl
named Terms.refused = answers [] refl (Call.Step 0) refl Terms.refused refl

-- ---- the refusals
numbers : Refused 1 × Refused 2 × Refused 3 × Refused 4 × Refused 5
unfolding opened_up
numbers = (
  refused [] refl (Call.Step 16) refl 1 (record { name = refl; values = refl }),
  refused (does 0 (Op.Has 20) 0) refl (Call.Start 0 (Op.Has 20)) refl 2 (record { name = refl; values = refl }),
  refused [] refl (Call.Start 0 (Op.Has 0)) refl 3 (record { name = refl; values = refl }),
  refused [] refl (Call.Start 0 (Op.Range 21 20)) refl 4 (record { name = refl; values = refl }),
  refused [] refl (Call.Step 0) refl 5 (record { name = refl; values = refl }),
)

-- ---- a reached register's tables keep their lengths
whole_tables : (σ : State) (h : Past) → Reached small σ h → ¬ BadTable small σ.nodes σ.entries
whole_tables σ h R bad = let S = (seen σ h R).1 in
    ⊎_elim (λ short. short S.whole_nodes) (λ short. short S.whole_entries) bad

left_answer : (g : Register) (t : ℕ) (o : Done) → answer_in (after_step g t o) ≡ answer_of o
left_answer g t (done ns es r) = refl

no_bad_table : (σ : State) (h : Past) → Reached small σ h → (c : Call) → ¬ Refuses 7 (answer small σ c)
no_bad_table σ h R (Call.Start who op) r = whole_tables σ h R
    ((demand_1_small.start_rows σ.nodes σ.entries who (record_of σ who) op).bad_table.0 r)
no_bad_table σ h R (Call.Step who) r =
    let c = σ.register.counters in
    let o = step_of small σ.nodes σ.entries c who (record_of σ who) in
    whole_tables σ h R ((demand_1_small.step_rows σ.nodes σ.entries c who (record_of σ who)).bad_table.0
    (subst (Refuses 7) (left_answer σ.register who o) r))

-- ---- a query amid intake
query_ends : Query
unfolding opened_up
query_ends = record {
  reached = begin_reached;
  in_words = (in_words_lem (Call.Start 1 whole) refl, all_in_words_lem meanwhile refl);
  started = refl;
  still = refl;
  ended = refl;
}

-- ---- its list, written and read back
query_list : query ≡ (20, 7) ∷ []
unfolding opened_up
query_list = refl

loaded : Listed 1 query (replicate 16357 0) ((20, 7) ∷ [])
loaded =
    let σ = begun begin no_past 1 1 4294967294 meanwhile in
    let h = begun_past begin no_past 1 1 4294967294 meanwhile in
    let R = run_reached σ h (on begin_reached (Call.Start 1 whole) query_ends.in_words.0) meanwhile
    query_ends.in_words.1 in
    subst (Listed 1 query (replicate 16357 0)) query_list
    (listed_moment.any_range (run σ meanwhile) (past_of σ h meanwhile) R (Call.Step 1) 1 1 query_ends.ended
    (replicate 16357 0) (omega (arith, length-replicate {A = ℕ} 16357 0)))

-- ---- all of it
pub possible : Possible
unfolding set_after put cut
possible = record {
  fresh = begin_reached;
  figure = runs figure_calls refl;
  figure_updates = figure_updates;
  figure_set = ap (set_after []) figure_updates;
  every_phase = phase;
  every_answer = named;
  refusals = numbers;
  no_bad_table = no_bad_table;
  query_ends = query_ends;
  query_list = query_list;
  loaded = loaded;
}
