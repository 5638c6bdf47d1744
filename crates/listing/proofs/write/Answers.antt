use Rattle.listing.proofs.Put.{writes}
use Rattle.listing.proofs.write.Goals as goal

pub invariant_of-listed : goal.invariant_of-listed
invariant_of-listed c = record { same = search writes; few = search writes }
