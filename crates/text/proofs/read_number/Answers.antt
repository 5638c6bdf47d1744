use Rattle.text.proofs.Read.{read_on}
use Rattle.text.proofs.read_number.Goals as goal

pub loop-b-preserved : goal.loop-b-preserved
loop-b-preserved c =
    read_on _ _ _ c.loop-b.invariant _ _ c.loop-b-test.true c.grown.ensures c.in_ok-grown.was
