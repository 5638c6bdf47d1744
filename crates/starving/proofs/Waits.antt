-- Demand 3 is not empty: a query that really waits and ends in time, by computing; twice.
-- In order: served in turn, with a window of 16; document 01's whole case, in which its second range waits, with a
-- window of 4.
-- Assumes nothing.
use Prim.Native.Nat.{ℕ, ◌+◌, ◌*◌}
use mathlib.Core.Path.{◌≡◌, refl}
use mathlib.Core.Bool.{true}
use mathlib.Core.List.{List, [], ◌∷◌, ◌++◌}
use native.Mathlib.Omega.{arith}
use lib.ListN.{replicate}
use Rattle.table.specs.Table.{word_of, store_of}
use Rattle.bundle.specs.Bundle.{look_of, scan_of, holds_up, at_of, newest_of, held_of, lay_of, finish_of}
use Rattle.nodes.specs.Nodes.{named_node, clear_node}
use Rattle.terms.specs.Terms.{out_of_bounds}
use Rattle.terms.specs.declared.Op.{Op}
use Rattle.terms.specs.declared.Answer.{Answer}
use Rattle.steps.specs.Steps.{walk_step, free, lock_step, insert_meets, insert_check, linked_of, remove_check}
use Rattle.steps.specs.Steps.{check_step}
use Rattle.steps.specs.Steps.{lay_in, insert_laid, remove_laid, insert_room, remove_room, held_at, prepare_step}
use Rattle.steps.specs.Steps.{number_step}
use Rattle.steps.specs.Steps.{insert_link, remove_link, link_step, usable, finish_step, has_sees, newest_step}
use Rattle.steps.specs.Steps.{range_sees}
use Rattle.steps.specs.Steps.{follow_step, hand_step}
use Rattle.register.specs.Register.{fits, fresh_nodes, fresh_entries, fresh_counters, fresh_of, bad_key, began}
use Rattle.register.specs.Register.{start_of}
use Rattle.register.specs.Register.{step_of}
use Rattle.sixteen.specs.Sixteen.{fresh_register}
use Rattle.sixteen.specs.declared.Call.{Call}
use Rattle.reached.specs.Reached.{no_past, at, InWords, fresh, on}
use Rattle.reached.specs.Fair.{Lived, go_on, reply, whose, Busy, Open, given, AllInWords, begun, Begins, FairFor}
use Rattle.reached.specs.Fair.{InTime, EndsWell}
use Rattle.reached.proofs.Tested.{in_words_lem, all_in_words_lem}
use Rattle.fairness.specs.Calls.{after, steps}
use Rattle.fairness.proofs.Ended.{fair_while}
use Rattle.starving.proofs.Demand3.{demand_3}
use Rattle.starving.proofs.Reaches.{Reaches, calls_reach}
use Rattle.starving.proofs.Tested.{passes_test, tested_fair}
use Rattle.starving.proofs.Possible.{round, premise, served_in_turn}

-- ---- every definition that a call computes with
unfoldable pub opened_up : ℕ
unfolding word_of store_of look_of scan_of holds_up at_of newest_of held_of lay_of finish_of named_node clear_node
    out_of_bounds walk_step free lock_step insert_meets insert_check linked_of remove_check check_step lay_in
    insert_laid remove_laid insert_room remove_room held_at prepare_step number_step insert_link remove_link link_step
    usable finish_step has_sees newest_step range_sees follow_step hand_step fits fresh_nodes fresh_entries fresh_of
    bad_key began start_of step_of at
opened_up = 0

-- ---- session 0 inserts 20 = 7 and has prepared; then session 1 starts a range
abbrev pub begin : Lived
begin = record {
  state = record {
    nodes = fresh_nodes (replicate 3072 0);
    entries = fresh_entries (replicate 8192 0);
    register = fresh_register fresh_counters;
  };
  past = no_past;
}

abbrev pub preparing : List Call
preparing = Call.Start 0 (Op.Insert 20 7) ∷ replicate 4 (Call.Step 0)

abbrev pub prepared : Lived
prepared = after go_on begin preparing

abbrev pub asked : Lived
asked = begun prepared 1 1 100

-- served in turn from session 1 on, it arrives, fixes its snapshot behind Number, waits once, follows, hands 20 out
-- and ends: 81 calls, of which 9 are counted steps, where 144 are allowed
pub in_turn_waits : reply (after go_on asked (round 1 32)) (Call.Step 1) ≡ Answer.Waiting
unfolding opened_up
in_turn_waits = refl

pub in_turn_ends : reply (after go_on asked (round 1 80)) (Call.Step 1) ≡ Answer.End 1 1
unfolding opened_up
in_turn_ends = refl

pub in_turn_counted : steps go_on whose asked (round 1 81) ≡ 9
unfolding opened_up
in_turn_counted = refl

pub in_turn_allowed : 16 * (3 * given (after go_on asked (round 1 81)).state + 6) ≡ 144
unfolding opened_up
in_turn_allowed = refl

-- these registers are reached, so those calls are fair, and demand 3 tells of them
pub begin_reached : Reaches begin
unfolding fresh_of fits
begin_reached = fresh (replicate 3072 0) (replicate 8192 0) _ _ fresh_counters refl

prepared_reached : Reaches prepared
prepared_reached = calls_reach begin begin_reached preparing (all_in_words_lem preparing refl)

asked_started : reply prepared (Call.Start 1 (Op.Range 1 100)) ≡ Answer.Started
unfolding opened_up
asked_started = refl

range_words : InWords (Call.Start 1 (Op.Range 1 100))
range_words = in_words_lem (Call.Start 1 (Op.Range 1 100)) refl

asked_begins : Begins prepared 1 1 100
asked_begins = record { reached = prepared_reached; in_words = range_words; started = asked_started }

pub in_turn_fair : FairFor prepared 1 1 100 16 (round 1 81)
in_turn_fair = premise prepared 1 1 100 asked_begins 16 1 81 (omega arith)

pub in_turn_in_time : InTime prepared 1 1 100 16 (round 1 81) × EndsWell prepared 1 1 100 16 (round 1 81)
in_turn_in_time = served_in_turn prepared 1 1 100 asked_begins 16 1 81 (omega arith)

-- ---- document 01's whole case: up to its second range, and the eight lines behind it
abbrev pub lines : List Call
lines = preparing
    ++ (Call.Start 1 (Op.Range 1 100) ∷ (replicate 3 (Call.Step 1) ++ (Call.Step 0 ∷ [])))

abbrev pub halfway : Lived
halfway = after go_on begin lines

abbrev pub asked_again : Lived
asked_again = begun halfway 1 1 100

abbrev pub rest : List Call
rest = replicate 3 (Call.Step 1) ++ (replicate 2 (Call.Step 0) ++ replicate 3 (Call.Step 1))

abbrev pub heard : Lived → List Call → List Answer
heard l [] = []
heard l (c ∷ calls) = reply l c ∷ heard (go_on l c) calls

pub whole_case : heard asked_again rest
    ≡ Answer.Working ∷ Answer.Working ∷ Answer.Waiting ∷ Answer.Working ∷ Answer.Inserted 1 ∷ Answer.Working
    ∷ Answer.Key 20 7 ∷ Answer.End 1 1 ∷ []
unfolding opened_up
whole_case = refl

-- eight counted steps, fair for a window of four, which allows 36
pub whole_case_counted : steps go_on whose asked_again rest ≡ 8
unfolding opened_up
whole_case_counted = refl

pub whole_case_allowed : 4 * (3 * given (after go_on asked_again rest).state + 6) ≡ 36
unfolding opened_up
whole_case_allowed = refl

halfway_reached : Reaches halfway
halfway_reached = calls_reach begin begin_reached lines (all_in_words_lem lines refl)

again_started : reply halfway (Call.Start 1 (Op.Range 1 100)) ≡ Answer.Started
unfolding opened_up
again_started = refl

rest_words : AllInWords rest
rest_words = all_in_words_lem rest refl

rest_passes : passes_test 4 asked_again rest ≡ true
unfolding opened_up
rest_passes = refl

again_begins : Begins halfway 1 1 100
again_begins = record { reached = halfway_reached; in_words = range_words; started = again_started }

pub whole_case_fair : FairFor halfway 1 1 100 4 rest
whole_case_fair = fair_while go_on whose (Open 1 1 100) Busy 4 asked_again rest
    (tested_fair 4 (omega arith) asked_again
    (on halfway_reached (Call.Start 1 (Op.Range 1 100)) range_words) rest rest_words rest_passes)

pub whole_case_in_time : InTime halfway 1 1 100 4 rest × EndsWell halfway 1 1 100 4 rest
whole_case_in_time = demand_3.in_time halfway 1 1 100 again_begins 4 rest rest_words whole_case_fair
