use Rattle.std.proofs.Common.{rules}
use Rattle.text.proofs.Write.{digits_put}
use Rattle.text.proofs.+put_number.Goals as goal

pub bounds-out-place : goal.bounds-out-place
bounds-out-place t c = search (rules, digits_put)

pub returns-then-n-lt10 : goal.returns-then-n-lt10
returns-then-n-lt10 t c = search (rules, digits_put)

pub bounds-out-p : goal.bounds-out-p
bounds-out-p t c = search (rules, digits_put)

pub returns : goal.returns
returns t c = search (rules, digits_put)
