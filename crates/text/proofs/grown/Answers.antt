use Rattle.std.proofs.Common.{rules}
use Rattle.text.proofs.Read.{byte_more}
use Rattle.text.proofs.grown.Goals as goal

pub returns-in-Digit : goal.returns-in-Digit
returns-in-Digit c = search (rules, byte_more)
