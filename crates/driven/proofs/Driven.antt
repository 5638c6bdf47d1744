-- The theorem: each call of the library makes of a held register what document 01's call does. Assumes nothing.
use Rattle.driven.specs.Driven.{Driven}
use Rattle.driven.proofs.Calls.{fresh_is, start_is, step_is}
use Rattle.driven.proofs.Strides.{steps_is}
use Rattle.driven.proofs.Read.{read_is}

pub driven : Driven
driven = record { fresh = fresh_is; start = start_is; step = step_is; steps = steps_is; read = read_is }
