-- An example against the vacuous: a register is reached by calls, an insert's last step answers inserted 1, and
-- demand 2
-- tells of it what it is to tell.
-- In order: the calls; the answers; what demand 2 says.
-- Assumes nothing.
use Prim.Native.Nat.{ℕ, zero, suc, ◌≤◌, ◌<◌}
use mathlib.Core.Path.{◌≡◌, refl}
use mathlib.Core.Bool.{false}
use mathlib.Core.List.{List, [], ◌∷◌}
use native.Mathlib.Omega.{arith}
use lib.ListN.{replicate}
use Rattle.table.specs.Table.{word_of, store_of}
use Rattle.order.specs.Set.{key_of, member, Update, insert, set_after}
use Rattle.bundle.specs.Bundle.{held_of, lay_of, finish_of}
use Rattle.nodes.specs.Nodes.{named_node, clear_node}
use Rattle.terms.specs.Terms.{small, out_of_bounds}
use Rattle.terms.specs.declared.Op.{Op}
use Rattle.terms.specs.declared.Answer.{Answer}
use Rattle.steps.specs.Steps.{walk_step, free, lock_step, insert_meets, insert_check, check_step, lay_in, insert_laid}
use Rattle.steps.specs.Steps.{insert_room, held_at, prepare_step, number_step, insert_link, link_step, usable}
use Rattle.steps.specs.Steps.{finish_step}
use Rattle.register.specs.Register.{fits, fresh_nodes, fresh_entries, fresh_counters, fresh_of, bad_key, began}
use Rattle.register.specs.Register.{start_of}
use Rattle.register.specs.Register.{step_of}
use Rattle.sixteen.specs.Sixteen.{fresh_register}
use Rattle.sixteen.specs.declared.Call.{Call}
use Rattle.reached.specs.Reached.{State, go, answer, Past, no_past, note, Reached, fresh, on}
use Rattle.reached.specs.Answers.{Nth}
use Rattle.words.proofs.Demand2.{demand_2}

-- ---- a fresh register, the start of insert 5 = 7 for session 0, and six steps of it
abbrev pub begin : State
begin = record {
  nodes = fresh_nodes (replicate 3072 0);
  entries = fresh_entries (replicate 8192 0);
  register = fresh_register fresh_counters;
}

abbrev pub started : State
started = go small begin (Call.Start 0 (Op.Insert 5 7))

abbrev pub after : ℕ → State
after zero = started
after (suc n) = go small (after n) (Call.Step 0)

abbrev pub past : ℕ → Past
past zero = note small begin (Call.Start 0 (Op.Insert 5 7)) no_past
past (suc n) = note small (after n) (Call.Step 0) (past n)

pub reached : (n : ℕ) → Reached small (after n) (past n)
unfolding fresh_of fits
reached zero = on (fresh (replicate 3072 0) (replicate 8192 0) _ _ fresh_counters refl) (Call.Start 0 (Op.Insert 5 7))
    (omega arith, omega arith, omega arith)
reached (suc n) = on (reached n) (Call.Step 0) tt

-- ---- the seventh step answers inserted 1
pub inserted_one : answer small (after 6) (Call.Step 0) ≡ Answer.Inserted 1
unfolding fresh_nodes fresh_entries fits bad_key began start_of step_of out_of_bounds word_of store_of lay_of
    finish_of held_of named_node clear_node walk_step free lock_step insert_meets insert_check check_step lay_in
    insert_laid insert_room held_at prepare_step number_step insert_link link_step usable finish_step
inserted_one = refl

-- ---- so it is update number 1, made after the start, and its key was absent before it
pub says : (k v : ℕ) × (before : List Update) × ((past 6).under 0 ≡ Op.Insert k v)
    × Nth (past 6) 0 1 (insert k v) before × (member key_of k (set_after [] before) ≡ false)
says = demand_2.inserted (after 6) (past 6) (reached 6) (Call.Step 0) 1 inserted_one
