use Rattle.std.proofs.Common.{rules}
use Rattle.text.proofs.Write.{count_fits}
use Rattle.text.proofs.+width.Goals as goal

pub overflow_add-result : goal.overflow_add-result
overflow_add-result t c = search (rules, count_fits)
