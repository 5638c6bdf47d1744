-- The search for a comma answers where it stands, or that there is none.
use Rattle.std.proofs.Common.{rules, tests, eqb}
use Rattle.std.proofs.lemmas.Iterator.{YieldsList-from_slice}
use Rattle.std.proofs.lemmas.Iterator.Search.{position_from_yields_List}
use Rattle.lines.proofs.Read.{comma_found}
use Rattle.lines.proofs.comma.Goals as goal

pub returns : goal.returns
returns c =
    comma_found _ _
    (position_from_yields_List (λ b. eqb b 44) _ _ c.position.result c.position.ensures.ran
    (YieldsList-from_slice _ c.iter.ensures.rest) (λ x b q k. search (rules, tests)))
