-- `listing::put_head` meets its contract. Assumes nothing.
use Rattle.listing.specs.Listing.{head_of}
use Rattle.text.proofs.Write.{two_parts}
use borrow.Author.Rules.{rules}
use Rattle.listing.proofs.put_head.Statement.{statement}
use Rattle.listing.proofs.put_head.Tie as tie

pub put_head_spec : {M : Type 1} → statement M
unfolding head_of
put_head_spec =
    tie.close
    (tie.spec
    (λ c κs. search two_parts)
    (λ c κs. search two_parts)
    (λ c. search rules)
    (λ c. search two_parts))
