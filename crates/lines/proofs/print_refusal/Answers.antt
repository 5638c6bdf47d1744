use Rattle.text.proofs.Write.{two_parts}
use Rattle.lines.specs.Lines.{refused_line}
use Rattle.lines.proofs.print_refusal.Goals as goal

pub returns : goal.returns
unfolding refused_line
returns c = search two_parts
