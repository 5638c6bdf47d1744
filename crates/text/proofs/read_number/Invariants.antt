-- What is left to read answers as the whole.
use Rattle.std.proofs.Common.{◌≡◌, drop, None}
use Rattle.text.specs.Text.{grows}
use Rattle.text.proofs.read_number.Given as goal

abbrev pub invariant-loop-b : goal.invariant-loop-b
invariant-loop-b l = grows None l.s ≡ grows l.n (drop l.b-index l.s)
