-- `serve_lines`: what is left writes as the whole does (`Rest`), the output so far leaves 11 bytes for each byte that
-- is left, and the sessions stay sixteen. Assumes nothing.
use Rattle.std.proofs.Common.{◌≡◌, ◌+◌, ◌*◌, ◌≤◌, length}
use Rattle.std.specs.Slice.Iter.{split_inclusive_rest}
use Rattle.text.specs.Text.{lines_of}
use Rattle.terms.specs.Terms.{small}
use Rattle.sixteen.specs.Sixteen.{fresh_register}
use Rattle.running.specs.Running.{lines_run, write_at}
use Rattle.running.proofs.Loop.{Rest}
use Rattle.running.proofs.serve_lines.Given as goal

abbrev pub invariant-loop-line : goal.invariant-loop-line
invariant-loop-line l =
    Rest (write_at l.initial.out 0 (lines_run (lines_of l.input) small l.initial.nodes l.initial.entries
    (fresh_register l.initial.counters)))
    small (split_inclusive_rest l.line-iterator) l.nodes l.entries l.out l.counters l.sessions l.at
    × (l.at + 11 * length (split_inclusive_rest l.line-iterator) ≤ 11 * length l.input)
    × (length l.sessions ≡ 16)
