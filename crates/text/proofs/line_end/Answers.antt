-- The search for byte 10 answers where the line ends, or that it has no end.
use Rattle.std.proofs.Common.{rules, tests, ◌∙◌, eqb}
use Rattle.std.proofs.lemmas.Iterator.{YieldsList-from_slice}
use Rattle.std.proofs.lemmas.Iterator.Search.{position_from_yields_List}
use Rattle.text.proofs.Lines.{rest_of, test_at, end_found, end_none}
use Rattle.text.proofs.line_end.Goals as goal

pub returns-in-Some : goal.returns-in-Some
returns-in-Some c =
    let e = position_from_yields_List (λ b. eqb b 10) _ _ c.position.result c.position.ensures.ran
    (YieldsList-from_slice _ (c.iter.ensures.rest ∙ rest_of c.args.s.now c.args.place))
    (λ x b q k. search (rules, tests, test_at)) in
    end_found _ _ _ e _ c.in-Some.is

pub returns-in-None : goal.returns-in-None
returns-in-None c =
    let e = position_from_yields_List (λ b. eqb b 10) _ _ c.position.result c.position.ensures.ran
    (YieldsList-from_slice _ (c.iter.ensures.rest ∙ rest_of c.args.s.now c.args.place))
    (λ x b q k. search (rules, tests, test_at)) in
    end_none _ _ _ e c.in-None.is c.requires
