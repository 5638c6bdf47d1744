-- The numbers that are left, stored from i on, make the same words as all of them.
use Rattle.std.proofs.Common.{◌≡◌, ◌-◌, ◌≤◌, length}
use Rattle.std.specs.Prelude.{drop}
use Rattle.std.proofs.lemmas.List.Edits.{sets}
use Rattle.text.specs.Text.{lines_of}
use Rattle.scanning.specs.Reading.{numbers_in}
use Rattle.scanning.proofs.gather.Given as goal

abbrev pub invariant-loop-e : goal.invariant-loop-e
invariant-loop-e l =
    (l.i ≤ l.place) × (l.place ≤ length l.input) ×
    (sets l.fn.out 0 (numbers_in l.name (lines_of l.input)) ≡
    sets l.out l.i (numbers_in l.name (lines_of (drop l.place l.input))))

abbrev pub decreases-loop-e : goal.decreases-loop-e
decreases-loop-e l = length l.input - l.place
