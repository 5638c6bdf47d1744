use Rattle.text.proofs.Write.{two_parts}
use Rattle.lines.specs.Lines.{answer_line}
use Rattle.lines.proofs.print.Goals as goal

pub returns : goal.returns
unfolding answer_line
returns c = search two_parts
