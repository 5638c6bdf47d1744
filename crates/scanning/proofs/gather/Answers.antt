use Rattle.text.proofs.Lines.{sighted, line_next}
use Rattle.scanning.proofs.Scan.{gathered}
use Rattle.scanning.proofs.gather.Goals as goal

pub slice_bounds-field-end : goal.slice_bounds-field-end
slice_bounds-field-end c = search sighted

pub loop-e-smaller : goal.loop-e-smaller
loop-e-smaller c = search (sighted, line_next)

pub loop-e-preserved : goal.loop-e-preserved
loop-e-preserved c = (search gathered, search line_next, search gathered)

pub returns : goal.returns
returns c = let none = c.in_default.not-Line in search (gathered, none)
