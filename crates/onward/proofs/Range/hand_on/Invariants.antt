-- What is left to hand out leaves what the whole does (`Giving`); no more pairs are filled than steps are made, and no
-- more are made than may be. The measure is the steps left.
use Rattle.std.proofs.Common.{◌-◌, ◌≤◌}
use Rattle.terms.specs.Terms.{small}
use Rattle.onward.specs.Onward.{hand_on}
use Rattle.onward.proofs.Ways.{Giving}
use Rattle.onward.proofs.Range.hand_on.Given as goal

abbrev pub invariant-loop-h : goal.invariant-loop-h
invariant-loop-h l =
    record {
      same : Giving (hand_on (l.p.most - l.p.made) small l.nodes l.entries l.self.low l.self.high l.self.snapshot
          l.fn.pairs l.at l.handed l.p.count l.p.made) small l.nodes l.entries l.self.low l.self.high l.self.snapshot
          l.pairs l.h.at l.h.handed l.h.count l.h.made l.p.most;
      few_pairs : l.h.count ≤ l.h.made;
      few_steps : l.h.made ≤ l.p.most;
    }

abbrev pub decreases-loop-h : goal.decreases-loop-h
decreases-loop-h l = l.p.most - l.h.made
