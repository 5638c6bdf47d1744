-- What is left writes as the whole does.
use Rattle.listing.proofs.Put.{Rest}
use Rattle.listing.proofs.put_pairs.Given as goal

abbrev pub invariant-loop-k : goal.invariant-loop-k
invariant-loop-k l =
    Rest l.listed.keys.now l.listed.values.now l.fn.out l.out l.place l.p
    l.k-iterator.a.rest.now l.k-iterator.b.rest.now
