use Rattle.text.proofs.Write.{two_parts}
use Rattle.lines.specs.Lines.{one_of}
use Rattle.lines.proofs.put_one.Goals as goal

pub returns : goal.returns
unfolding one_of
returns c = search two_parts
