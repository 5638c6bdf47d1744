use Rattle.std.proofs.Common.{rules}
use Rattle.std.proofs.lemmas.Slice.Zip.{either_empty_from_Zip}
use Rattle.listing.proofs.Put.{size_start, size_on, size_fits, size_all}
use Rattle.listing.proofs.pairs_size.Goals as goal

pub loop-k-init : goal.loop-k-init
loop-k-init c = search (size_start, rules)

pub overflow_add-n : goal.overflow_add-n
overflow_add-n c =
    let t = c.in-Some.ensures.steps in
    let few = c.args.listed.now.few in
    record { fits = size_fits _ _ _ _ _ c.loop-k.invariant _ _ _ _ _ t.0 t.1 c.pair_size-n.ensures few }

pub loop-k-preserved : goal.loop-k-preserved
loop-k-preserved c =
    let t = c.in-Some.ensures.steps in
    size_on _ _ _ _ _ c.loop-k.invariant _ _ _ _ _ t.0 t.1 c.pair_size-n.ensures

pub returns : goal.returns
returns c =
    let none = either_empty_from_Zip _ c.next.new.self _ c.in-None.is c.next.ensures.steps in
    size_all _ _ _ _ _ c.loop-k.invariant c.args.listed.now.few none
