-- DEMAND 2, all of it in one record. The mission's words:
-- "From a fresh or loaded register, each answer, refusals apart, is the one that document 002's ordered set gives at a
-- step document 01 names. A range query hands out, rising, exactly the keys and values present after the updates
-- numbered up to its snapshot. A listing written and read back gives the same keys and values."
-- Not here: the proof (proofs/Demand2.antt). Assumes nothing.
use Rattle.terms.specs.Terms.{small}
use Rattle.reached.specs.Reached.{State, Past, Reached}
use Rattle.reached.specs.Answers.{Demand2}
use Rattle.loaded.specs.Made.{Made, Alike}
use Rattle.mission.specs.Mission.{Handed}
use Rattle.mission.specs.Listed.{ListedMoment}

pub record WholeDemand2 : Type 0 where
  -- a register that is fresh or loaded and went on is a reached one, whose history tells the same of it
  pub fresh_or_loaded : {σ : State} {k : Past} → Made small σ k → (h : Past) × Reached small σ h × Alike h k
  -- each answer of a reached register; a range's keys and values are its field `end`
  pub answers : Demand2
  -- they are handed out rising
  pub rising : Handed
  -- a list, written as a listing and read back, is the register at the list's moment
  pub listed : ListedMoment
