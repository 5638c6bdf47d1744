-- `listing::put_field` meets its contract. Assumes nothing.
use lib.ListN.{length-set}
use borrow.Author.Rules.{rules}
use Rattle.listing.proofs.Put.{field_stores}
use Rattle.listing.proofs.put_field.Statement.{statement}
use Rattle.listing.proofs.put_field.Tie as tie

pub put_field_spec : {M : Type 1} → statement M
put_field_spec =
    tie.close
    (tie.spec
    (λ c κs. search field_stores)
    (λ c κs. search field_stores)
    (λ c. search field_stores)
    (λ c. record { fits = search field_stores })
    (λ c. simp length-set (search rules))
    (λ c. search field_stores))
