-- Demand 2, all of it, proved. Not here: the statement (specs/Demand2.antt). Assumes nothing.
use Rattle.loaded.proofs.Made.{made_reached}
use Rattle.words.proofs.Demand2.{demand_2}
use Rattle.mission.specs.Demand2.{WholeDemand2}
use Rattle.mission.proofs.Mission.{handed}
use Rattle.mission.proofs.Listed.{listed_moment}

pub whole_demand_2 : WholeDemand2
whole_demand_2 =
    record { fresh_or_loaded = made_reached; answers = demand_2; rising = handed; listed = listed_moment }
