use Rattle.text.proofs.Write.{two_parts}
use Rattle.listing.proofs.put_listing.Goals as goal

pub put_head-a-requires : goal.put_head-a-requires
unfolding Rattle.listing.specs.Listing.listing_of
put_head-a-requires c = search two_parts

pub put_body-requires : goal.put_body-requires
unfolding Rattle.listing.specs.Listing.listing_of
put_body-requires c = search two_parts

pub returns : goal.returns
unfolding Rattle.listing.specs.Listing.listing_of
returns c = search two_parts
