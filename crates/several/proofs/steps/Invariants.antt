-- What is left leaves what the whole call does (`Rest`); no more pairs are filled than steps are made, and no more are
-- made than may be. The measure is the steps left.
use Rattle.std.proofs.Common.{◌-◌, ◌≤◌, ◌<◌}
use Rattle.terms.specs.Terms.{small}
use Rattle.several.specs.Several.{several_of}
use Rattle.several.proofs.Ways.{Rest}
use Rattle.several.proofs.steps.Given as goal

abbrev pub invariant-loop-last : goal.invariant-loop-last
invariant-loop-last l = record {
  rest : Rest (several_of small l.fn.nodes l.fn.entries l.fn.pairs l.fn.c l.who l.fn.s l.limit) small l.who l.most
      l.made l.nodes l.entries l.pairs l.count l.counters l.session;
  few_pairs : l.count ≤ l.made;
  few_steps : l.made ≤ l.most;
  most_fits : l.most < 4294967295;
}

abbrev pub decreases-loop-last : goal.decreases-loop-last
decreases-loop-last l = l.most - l.made
