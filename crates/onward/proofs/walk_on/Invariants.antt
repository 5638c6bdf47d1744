-- What is left to walk leaves what the whole walk does (`Walking`).
use Rattle.std.proofs.Common.{◌-◌}
use Rattle.terms.specs.Terms.{small}
use Rattle.onward.specs.Onward.{walk_on}
use Rattle.onward.proofs.Ways.{Walking}
use Rattle.onward.proofs.walk_on.Given as goal

abbrev pub invariant-loop-made : goal.invariant-loop-made
invariant-loop-made l =
    Walking (walk_on (l.p.most - l.p.made) small l.nodes l.sought l.from l.to l.p.made) small l.nodes l.sought l.pred
    l.curr l.made l.p.most
