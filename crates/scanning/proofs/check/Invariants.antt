-- What is left answers as the whole does.
use Rattle.std.proofs.Common.{◌≡◌, ◌-◌, length}
use Rattle.std.specs.Prelude.{drop}
use Rattle.text.specs.Text.{lines_of}
use Rattle.scanning.specs.Reading.{check_of, scan_of}
use Rattle.scanning.proofs.check.Given as goal

abbrev pub invariant-loop-e : goal.invariant-loop-e
invariant-loop-e l = check_of l.most l.input ≡ scan_of l.most l.place l.st (lines_of (drop l.place l.input))

abbrev pub decreases-loop-e : goal.decreases-loop-e
decreases-loop-e l = length l.input - l.place
