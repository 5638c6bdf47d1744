-- Where a short way is told the step is that way's (proofs/Short.antt). Assumes nothing.
use Rattle.stepping.proofs.Short.{advances_shortly}
use Rattle.stepping.proofs.updating.Goals as goal

pub returns-in-Some : goal.returns-in-Some
returns-in-Some c = search advances_shortly
