-- Document 01's worked examples hold: P1 to P10 by computing, P11 from the counters.
-- In order: what is opened to compute; the examples by number; the table; the whole case; the rows. Assumes nothing.
use Rattle.std.specs.Prelude.{Ok}
use Prim.Native.Nat.{ℕ, ◌+◌, ◌≤◌, ◌<◌}
use mathlib.Core.Path.{◌≡◌, refl, ◌∙◌}
use mathlib.Core.List.{List, [], ◌∷◌}
use mathlib.Core.Bool.{true}
use native.Mathlib.Omega.{arith}
use lib.ListN.{length}
use borrow.Author.Tests.{lt-ltb, le-ltb, eq-eqb, ne_eqb}
use Rattle.table.specs.Table.{word_of, store_of}
use Rattle.bundle.specs.Bundle.{look_of, scan_of, holds_up, at_of, newest_of, held_of, lay_of, finish_of}
use Rattle.nodes.specs.Nodes.{named_node, clear_node, key_at, next_at, removed_at, unlocked}
use Rattle.terms.specs.Terms.{out_of_bounds, small, sought_of, started, inserted, refused}
use Rattle.terms.specs.declared.Counters.{Counters}
use Rattle.terms.specs.declared.Op.{Op}
use Rattle.terms.specs.declared.Answer.{Answer}
use Rattle.terms.specs.declared.Refusal.{Refusal}
use Rattle.steps.specs.declared.Phase.{Phase}
use Rattle.steps.specs.declared.Session.{Session}
use Rattle.steps.specs.declared.Stepped.{Stepped}
use Rattle.steps.specs.Steps.{done, Tables, leaves, tables, ends, works, counted, busy_of, act_step, walk_step, free}
use Rattle.steps.specs.Steps.{lock_step, insert_meets, insert_check, linked_of, remove_check, check_step, lay_in}
use Rattle.steps.specs.Steps.{insert_laid}
use Rattle.steps.specs.Steps.{remove_laid, insert_room, remove_room, held_at, prepare_step, number_step, insert_link}
use Rattle.steps.specs.Steps.{remove_link, link_step, usable, finish_step, has_sees, newest_step, range_sees}
use Rattle.steps.specs.Steps.{follow_step}
use Rattle.steps.specs.Steps.{hand_step}
use Rattle.register.specs.Register.{fits, fresh_nodes, fresh_entries, fresh_of, bad_key, began, start_of, step_of}
use Rattle.demands.specs.Demands.{answer_of, returned}
use Rattle.demands.specs.Worked.{Worked, steps, does, begun, figure, hear, follows, hands, ended, checking}
use Rattle.demands.specs.Worked.{preparing, says, counters_of, WholeCase, Met}

-- ---- every definition that a call computes with
opened_up : ℕ
unfolding word_of store_of look_of scan_of holds_up at_of newest_of held_of lay_of finish_of named_node clear_node
    out_of_bounds
    walk_step free lock_step insert_meets insert_check linked_of remove_check check_step lay_in insert_laid remove_laid
    insert_room
    remove_room held_at prepare_step number_step insert_link remove_link link_step usable finish_step has_sees
    newest_step
    range_sees follow_step hand_step fits fresh_nodes fresh_entries fresh_of bad_key began start_of step_of
opened_up = 0

-- ---- P1 to P5: after Figure 1's updates, the whole range at snapshots 0 to 4
p1 : hear (steps 1 1) figure ≡ ended 0 0
unfolding opened_up
p1 = refl

p2 : hear (steps 2 3) figure ≡ hands 20 7 (ended 1 1)
unfolding opened_up
p2 = refl

p3 : hear (steps 3 5) figure ≡ hands 20 7 (hands 30 8 (ended 2 2))
unfolding opened_up
p3 = refl

p4 : hear (steps 4 7) figure ≡ hands 10 9 (hands 20 7 (hands 30 8 (ended 3 3)))
unfolding opened_up
p4 = refl

p5 : hear (steps 5 5) figure ≡ hands 10 9 (hands 30 8 (ended 4 2))
unfolding opened_up
p5 = refl

-- ---- P8, P10
p8 : hear (steps 6 3) figure ≡ hands 20 7 (ended 3 1)
unfolding opened_up
p8 = refl

p10 : hear (steps 7 6) figure ≡ follows (follows (follows (hands 30 8 (ended 4 1))))
unfolding opened_up
p10 = refl

-- ---- P6, P7, P9
p6 : hear (does 0 (Op.Insert 4294967294 1) 7) begun
    ≡ says started [] ∷ (follows (follows (follows (follows (follows (follows (says inserted (1 ∷ []) ∷ [])))))))
unfolding opened_up
p6 = refl

p7 : (op : Op) → sought_of op ≡ 0 → hear (does 0 op 0) begun ≡ says refused (3 ∷ []) ∷ []
unfolding opened_up
p7 op low = rw low

p9 : hear (does 0 (Op.Range 21 20) 0) begun ≡ says refused (4 ∷ []) ∷ []
unfolding opened_up
p9 = refl

-- ---- P11
laid : (t : Tables) (r : Stepped) → r.answer ≡ Answer.Working → r.counters.nodes ≡ 512 →
    (answer_of (leaves t r) ≡ Answer.Working) × ((returned (leaves t r)).counters.nodes ≡ 512)
laid (tables ns es) r a n = (a, n)

module _ (ns es : List ℕ) (c : Counters) (who k v pred curr : ℕ) (nodes : length ns ≡ 3072)
    (entries : length es ≡ 8192) (known : who < 16) where
  acts : (s : Session) → busy_of s ≡ true → step_of small ns es c who s ≡ act_step small ns es c who s.op s.phase
  unfolding step_of fits
  acts s busy = rw (eq-eqb (length ns) 3072 nodes, eq-eqb (length es) 8192 entries, lt-ltb who 16 known, busy)

  module _ (held : held_at small ns es pred ≡ Ok tt) where
    room : step_of small ns es c who (preparing k v pred curr) ≡ insert_room small ns es c (Op.Insert k v) pred curr
    unfolding prepare_step
    room = rw (acts (preparing k v pred curr) refl, held)

    lays : c.nodes ≡ 511 → c.entries ≤ 2046 →
        insert_room small ns es c (Op.Insert k v) pred curr
        ≡ leaves (insert_laid ns es c (Op.Insert k v) pred curr)
        (works (counted c (c.nodes + 1)) (Op.Insert k v)
        (Phase.Number pred c.nodes c.entries (c.entries + 1)))
    unfolding insert_room
    lays used spare =
        rw (
          le-ltb 512 c.nodes (omega arith),
          ne_eqb c.nodes 512 (omega arith),
          le-ltb 2048 (c.entries + 2) (omega arith),
        )

    fills : c.nodes ≡ 512 →
        insert_room small ns es c (Op.Insert k v) pred curr
        ≡ done (unlocked ns pred) es (ends c (Answer.Refused Refusal.Full))
    unfolding insert_room
    fills used = rw (le-ltb 512 c.nodes (omega arith), eq-eqb c.nodes 512 used)

    p11_full : c.nodes ≡ 512 →
        step_of small ns es c who (preparing k v pred curr)
        ≡ done (unlocked ns pred) es (ends c (Answer.Refused Refusal.Full))
    p11_full used = room ∙ fills used

    p11_fits : c.nodes ≡ 511 → c.entries ≤ 2046 →
        (answer_of (step_of small ns es c who (preparing k v pred curr)) ≡ Answer.Working)
        × ((returned (step_of small ns es c who (preparing k v pred curr))).counters.nodes ≡ 512)
    p11_fits used spare =
        rw (room, lays used spare) (laid (insert_laid ns es c (Op.Insert k v) pred curr) _ refl (omega arith))

  p11_present : pred < 512 → curr < 512 → removed_at ns pred ≡ 0 → next_at ns pred ≡ curr → key_at ns curr ≡ k →
      step_of small ns es c who (checking k v pred curr) ≡ done (unlocked ns pred) es (ends c Answer.Present)
  unfolding check_step insert_check insert_meets
  p11_present pred_in curr_in kept linked same =
      rw (
        acts (checking k v pred curr) refl,
        lt-ltb pred 512 pred_in,
        eq-eqb (removed_at ns pred) 0 kept,
        eq-eqb (next_at ns pred) curr linked,
        lt-ltb curr 512 curr_in,
        eq-eqb (key_at ns curr) k same,
      )

-- ---- the table
figure_done : counters_of figure ≡ record { nodes = 5; entries = 9; stamp = 4 }
unfolding opened_up
figure_done = refl

pub worked : Worked
worked = record {
  figure_done = figure_done;
  p1 = p1;
  p2 = p2;
  p3 = p3;
  p4 = p4;
  p5 = p5;
  p6 = p6;
  p7 = (p7 (Op.Insert 0 1) refl, p7 (Op.Remove 0) refl, p7 (Op.Has 0) refl, p7 (Op.Range 0 9) refl);
  p8 = p8;
  p9 = p9;
  p10 = p10;
  p11_fits = λ ns es c who k v pred curr n e w. p11_fits ns es c who k v pred curr n e w;
  p11_full = λ ns es c who k v pred curr n e w. p11_full ns es c who k v pred curr n e w;
  p11_present = λ ns es c who k v pred curr n e w. p11_present ns es c who k v pred curr n e w;
}

-- ---- the whole case, and a call for each row of demand 1
pub whole_case : WholeCase
unfolding opened_up
whole_case = refl

pub met : Met
unfolding opened_up
met = record {
  fresh_7 = refl;
  start_7 = refl;
  start_1 = refl;
  start_2 = refl;
  start_3 = refl;
  start_4 = refl;
  step_7 = refl;
  step_1 = refl;
  step_5 = refl;
  step_8 = refl;
  step_6 = refl;
}
