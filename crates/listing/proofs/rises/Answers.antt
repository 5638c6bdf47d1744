use Rattle.listing.proofs.Pairs.{risen}
use Rattle.listing.proofs.rises.Goals as goal
use Rattle.listing.proofs.rises.Goals.{then-k-last-via-then-k-last, then-k-last-via-else-k-last+then-k-ge4294967295}

pub returns-then-k-last : goal.returns-then-k-last
returns-then-k-last c =
    elim c.then-k-last.branch [
      | then-k-last-via-then-k-last w ↦ search risen
      | then-k-last-via-else-k-last+then-k-ge4294967295 w ↦ search risen
    ]

pub loop-k-preserved : goal.loop-k-preserved
loop-k-preserved c = search risen

pub returns : goal.returns
returns c = search risen
