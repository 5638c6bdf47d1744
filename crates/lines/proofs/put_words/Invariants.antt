-- The numbers from the loop's own on are still to be written.
use Rattle.std.proofs.Common.{drop}
use Rattle.lines.specs.Lines.{more}
use Rattle.lines.proofs.Words.{Left}
use Rattle.lines.proofs.put_words.Given as goal

abbrev pub invariant-loop-n : goal.invariant-loop-n
invariant-loop-n l =
    Left l.fn.out l.fn.place (more l.fn.name l.fn.first l.fn.rest) l.out l.at (drop l.n-index l.rest)
