-- `listing::put_pair` meets its contract. Assumes nothing.
use Rattle.text.proofs.Write.{two_parts}
use borrow.Author.Rules.{rules}
use Rattle.listing.specs.Listing.{pair_of}
use Rattle.listing.proofs.put_pair.Statement.{statement}
use Rattle.listing.proofs.put_pair.Tie as tie

pub put_pair_spec : {M : Type 1} → statement M
unfolding pair_of
put_pair_spec =
    tie.close
    (tie.spec
    (λ c κs. search two_parts)
    (λ c κs. search two_parts)
    (λ c. search rules)
    (λ c. search two_parts))
