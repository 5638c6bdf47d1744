use Rattle.std.proofs.lemmas.Result.{err_from_is_err_and}
use Rattle.text.proofs.Lines.{sighted, line_next}
use Rattle.scanning.proofs.Scan.{checked}
use Rattle.scanning.proofs.check.Goals as goal

pub loop-e-init : goal.loop-e-init
loop-e-init c = search checked

pub returns-in-End : goal.returns-in-End
returns-in-End c = search checked

pub returns-in-Torn : goal.returns-in-Torn
returns-in-Torn c = search checked

pub slice_bounds-line_at-end : goal.slice_bounds-line_at-end
slice_bounds-line_at-end c = search sighted

pub returns-in_err-st-in-Line : goal.returns-in_err-st-in-Line
returns-in_err-st-in-Line c =
    let p = err_from_is_err_and c.from_residual.result c.from_residual.ensures.1 in
    let w = c.in_err-st-in-Line.was in
    rw (p.1, p.2) (search checked)

pub overflow_add-place : goal.overflow_add-place
overflow_add-place c = record { fits = search sighted }

pub loop-e-smaller : goal.loop-e-smaller
loop-e-smaller c = search (sighted, line_next)

pub loop-e-preserved : goal.loop-e-preserved
loop-e-preserved c = let w = c.in_ok-st-in-Line.was in search checked
