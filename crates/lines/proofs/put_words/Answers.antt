use Rattle.lines.proofs.Words.{first_room, left_first, left_room, left_next, left_none}
use Rattle.lines.proofs.put_words.Goals as goal

pub put_one-at-requires : goal.put_one-at-requires
put_one-at-requires c = first_room _ _ _ _ _ c.requires

pub loop-n-init : goal.loop-n-init
loop-n-init c = left_first _ _ _ _ _ _ _ c.put_one-at.ensures.0 c.put_one-at.ensures.1

pub put_one-at-requires-in-loop-n : goal.put_one-at-requires-in-loop-n
put_one-at-requires-in-loop-n c = left_room _ _ _ _ _ _ _ c.loop-n.invariant c.loop-n-test.true c.requires

pub loop-n-preserved : goal.loop-n-preserved
loop-n-preserved c =
    left_next _ _ _ _ _ _ _ c.loop-n.invariant _ _ c.loop-n-test.true c.put_one-at-in-loop-n.ensures.0
    c.put_one-at-in-loop-n.ensures.1

pub returns : goal.returns
returns c = left_none _ _ _ _ _ _ _ c.loop-n.invariant c.loop-n-test.false
