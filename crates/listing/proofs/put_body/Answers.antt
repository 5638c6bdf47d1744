use Rattle.text.proofs.Write.{two_parts}
use Rattle.listing.proofs.put_body.Goals as goal

pub put_pairs-a-requires : goal.put_pairs-a-requires
unfolding Rattle.listing.specs.Listing.body_of
put_pairs-a-requires c = search two_parts

pub put_field-requires : goal.put_field-requires
unfolding Rattle.listing.specs.Listing.body_of
put_field-requires c = search two_parts

pub returns : goal.returns
unfolding Rattle.listing.specs.Listing.body_of
returns c = search two_parts
