use Rattle.std.proofs.Common.{rules}
use Rattle.std.proofs.lemmas.Slice.Zip.{either_empty_from_Zip}
use Rattle.listing.proofs.Put.{pairs_start, pairs_room, pairs_put, pairs_all}
use Rattle.listing.proofs.put_pairs.Goals as goal

pub put_pair-p-requires : goal.put_pair-p-requires
put_pair-p-requires c =
    let t = c.in-Some.ensures.steps in
    pairs_room _ _ _ _ _ _ _ _ c.loop-k.invariant _ _ _ _ t.0 t.1 _ _ c.requires c.loop-k.auto.out

pub loop-k-init : goal.loop-k-init
loop-k-init c = search (pairs_start, rules)

pub loop-k-preserved : goal.loop-k-preserved
loop-k-preserved c =
    let t = c.in-Some.ensures.steps in
    pairs_put _ _ _ _ _ _ _ _ c.loop-k.invariant _ _ _ _ t.0 t.1 _ _ c.put_pair-p.ensures

pub returns : goal.returns
returns c =
    let none = either_empty_from_Zip _ c.next.new.self _ c.in-None.is c.next.ensures.steps in
    pairs_all _ _ _ _ _ _ _ _ c.loop-k.invariant none
