-- Where the update is finished the step is that way's (proofs/Short.antt). Assumes nothing.
use Rattle.stepping.proofs.Short.{finishes_shortly}
use Rattle.stepping.proofs.finishing.Goals as goal

pub returns-then-finish : goal.returns-then-finish
returns-then-finish c = search finishes_shortly
