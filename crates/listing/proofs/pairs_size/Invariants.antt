-- What is left and the bytes so far are all.
use Rattle.listing.proofs.Put.{Sized}
use Rattle.listing.proofs.pairs_size.Given as goal

abbrev pub invariant-loop-k : goal.invariant-loop-k
invariant-loop-k l = Sized l.listed.keys.now l.listed.values.now l.n l.k-iterator.a.rest.now l.k-iterator.b.rest.now
