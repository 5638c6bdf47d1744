use Rattle.listing.proofs.Put.{listing_sizes}
use Rattle.listing.proofs.size.Goals as goal

pub overflow_add-result : goal.overflow_add-result
overflow_add-result c = record { fits = search listing_sizes }

pub overflow_add-result-2 : goal.overflow_add-result-2
overflow_add-result-2 c = record { fits = search listing_sizes }

pub overflow_add-result-3 : goal.overflow_add-result-3
overflow_add-result-3 c = record { fits = search listing_sizes }

pub returns : goal.returns
returns c = search listing_sizes
