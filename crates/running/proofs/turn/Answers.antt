-- `running::turn` meets its contract: its laws are in proofs/Slots.antt. Assumes nothing.
use Rattle.running.proofs.Slots.{turning}
use Rattle.running.proofs.turn.Goals as goal

pub print-requires : goal.print-requires
print-requires c = search turning

pub returns : goal.returns
returns c = search turning
