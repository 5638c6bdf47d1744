-- It calls itself on n / 10.
use Rattle.text.proofs.+width.Given as goal

abbrev pub decreases-width : goal.decreases-width
decreases-width l = l.n
