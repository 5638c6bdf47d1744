-- What is left to file makes the whole.
use Rattle.steps.specs.Steps.{tables}
use Rattle.loading.proofs.Words.{Rest}
use Rattle.loading.proofs.file_all.Given as goal

abbrev pub invariant-loop-i : goal.invariant-loop-i
invariant-loop-i l =
    Rest l.keys l.values (tables l.fn.nodes l.fn.entries)
    l.i-iterator.count l.i-iterator.iter.a.rest.now l.i-iterator.iter.b.rest.now (tables l.nodes l.entries)
