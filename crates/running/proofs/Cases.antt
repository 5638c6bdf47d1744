-- Document 01's whole case, by computation: for any tables of the right length, whatever they hold, and any output
-- that
-- is long enough.
-- In order: lengths; the lines; what a run leaves by what its lines print; the case. Assumes nothing.
use Prim.Native.Nat.{ℕ, ◌≤◌}
use mathlib.Core.Path.{◌≡◌, refl, ◌∙◌, ap}
use mathlib.Core.List.{List}
use native.Mathlib.Nat.{zero-add}
use Rattle.std.specs.Prelude.{Ok}
use lib.ListN.{length, replicate}
use lib.Seq.{sets}
use borrow.Author.Tests.{le-ltb, eq-eqb}
use Rattle.text.specs.Text.{class_of, with_digit, grow, grows, number_in, digits, digits_in, ends, lines_of}
use Rattle.text.specs.Text.{starts_with, field_in}
use Rattle.table.specs.Table.{word_of, store_of}
use Rattle.bundle.specs.Bundle.{look_of, scan_of, holds_up, at_of, held_of, lay_of, finish_of}
use Rattle.nodes.specs.Nodes.{put_node, named_node, clear_node}
use Rattle.terms.specs.Terms.{small, tail_key, out_of_bounds}
use Rattle.steps.specs.Steps.{walk_step, free, lock_step, insert_meets, insert_check, linked_of, check_step, lay_in}
use Rattle.steps.specs.Steps.{insert_laid, insert_room, held_at, prepare_step, number_step, insert_link, link_step}
use Rattle.steps.specs.Steps.{usable, finish_step, range_sees, follow_step, hand_step}
use Rattle.register.specs.Register.{fits, fresh_nodes, fresh_entries, fresh_counters, fresh_of, bad_key, began}
use Rattle.register.specs.Register.{start_of, step_of}
use Rattle.sixteen.specs.Sixteen.{fresh_register}
use Rattle.lines.specs.Lines.{one_of, more, words_of, answer_line}
use Rattle.lines.specs.Lines.{comma_in, two_in, keyed, paired, start_in, line_in}
use Rattle.running.specs.Running.{Ran, ran, printed, lines_run, write_at, room_for, end_of, out_of, finished, run_of}
use Rattle.running.specs.WholeCase.{joined, whole_in, whole_out}

-- ---- lengths

length_in : length whole_in ≡ 154
unfolding whole_in joined more one_of digits digits_in
length_in = refl

length_out : length whole_out ≡ 194
unfolding whole_out joined answer_line words_of more one_of digits digits_in
length_out = refl

-- ---- the lines

whole_lines : printed (lines_run (lines_of whole_in) small
    (put_node (put_node (put_node (replicate 3072 0) 0 2 1) 0 5 1) 1 0 tail_key)
    (finish_of (lay_of (replicate 8192 0) 0 1 0 0) 0 0) (fresh_register fresh_counters)) ≡ whole_out
unfolding whole_in whole_out joined answer_line words_of more one_of digits digits_in
    class_of with_digit grow grows number_in ends lines_of starts_with field_in
    comma_in two_in keyed paired start_in line_in lines_run
    fits bad_key began start_of step_of out_of_bounds
    walk_step free lock_step insert_meets insert_check linked_of check_step lay_in insert_laid insert_room held_at
    prepare_step number_step insert_link link_step usable finish_step range_sees follow_step hand_step
    look_of scan_of holds_up at_of held_of lay_of finish_of named_node clear_node word_of store_of
whole_lines = refl

-- ---- what a run leaves, by what its lines print

pub end_of_lem : (out : List ℕ) (r : Ran) → end_of (finished (write_at out 0 r)) ≡ Ok (length (printed r))
unfolding write_at
end_of_lem out (ran ns es bytes) = rw zero-add

out_of_lem : (out : List ℕ) (r : Ran) → out_of (finished (write_at out 0 r)) ≡ sets out 0 (printed r)
unfolding write_at
out_of_lem out (ran ns es bytes) = refl

-- ---- the case

fresh_lines : (ns es : List ℕ) → length ns ≡ 3072 → length es ≡ 8192 →
    printed (lines_run (lines_of whole_in) small (fresh_nodes ns) (fresh_entries es) (fresh_register fresh_counters))
    ≡ whole_out
unfolding fresh_nodes fresh_entries
fresh_lines ns es n e = rw (n, e) whole_lines

module _ (ns es out : List ℕ) (n : length ns ≡ 3072) (e : length es ≡ 8192) (room : 1694 ≤ length out) where
  whole_run : run_of small whole_in ns es out ≡
      finished (write_at out 0 (lines_run (lines_of whole_in) small (fresh_nodes ns) (fresh_entries es)
      (fresh_register fresh_counters)))
  unfolding run_of room_for fresh_of fits
  whole_run = rw (length_in, le-ltb (length out) 1694 room, eq-eqb (length ns) 3072 n, eq-eqb (length es) 8192 e)

  pub whole_case_length : end_of (run_of small whole_in ns es out) ≡ Ok 194
  whole_case_length =
      ap end_of whole_run ∙ end_of_lem out _ ∙ rw (fresh_lines ns es n e, length_out)

  pub whole_case_output : out_of (run_of small whole_in ns es out) ≡ sets out 0 whole_out
  whole_case_output = ap out_of whole_run ∙ out_of_lem out _ ∙ rw (fresh_lines ns es n e)
