-- `running::run` meets its contract: each way out is a law of proofs/Whole.antt. Assumes nothing.
use Rattle.running.proofs.Whole.{ways, enough}
use Rattle.running.proofs.run.Goals as goal

pub returns-then-out-room : goal.returns-then-out-room
returns-then-out-room c = search ways

pub print_refusal-requires : goal.print_refusal-requires
print_refusal-requires c = search enough

pub returns-then-input-gt-LONGEST : goal.returns-then-input-gt-LONGEST
returns-then-input-gt-LONGEST c = search ways

pub serve_lines-requires : goal.serve_lines-requires
serve_lines-requires c = search enough

pub returns-in-Ok : goal.returns-in-Ok
returns-in-Ok c = search ways

pub returns-in-Err : goal.returns-in-Err
returns-in-Err c = search ways
