use Rattle.loading.proofs.Words.{fills}
use Rattle.loading.proofs.fill.Goals as goal

pub returns : goal.returns
returns c = search fills
