-- What is left of the scan answers as the whole.
use Rattle.std.proofs.Common.{◌≡◌, ◌-◌}
use Rattle.bundle.specs.Bundle.{scan_of, at_of}
use Rattle.bundle.proofs.read_at.Given as goal

abbrev pub invariant-loop : goal.invariant-loop
invariant-loop l = at_of l.size l.entries l.newest l.s ≡ scan_of (l.size - l.counter) l.size l.entries l.link l.s
