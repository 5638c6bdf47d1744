-- Rising from the last key on, what is left answers as the whole.
use Rattle.std.proofs.Common.{◌≡◌}
use Rattle.std.specs.Prelude.{drop}
use Rattle.listing.specs.Listing.{rising}
use Rattle.listing.proofs.rises.Given as goal

abbrev pub invariant-loop-k : goal.invariant-loop-k
invariant-loop-k l = rising 0 l.keys ≡ rising l.last (drop l.k-index l.keys)
