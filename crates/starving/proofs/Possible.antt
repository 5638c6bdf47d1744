-- Demand 3's premise can be met: at every reached register, for every range started there and each window of at
-- least 16, round robin over the sixteen sessions is fair.
-- In order: the schedule; it is fair; the premise, and demand 3 of it.
-- Not here: the demand. Assumes nothing.
use Prim.Native.Nat.{ℕ, zero, suc, ◌≤◌}
use mathlib.Core.Path.{refl}
use mathlib.Core.List.{List}
use Rattle.nodes.specs.Nodes.{key_at, value_at}
use Rattle.terms.specs.Terms.{small}
use Rattle.terms.specs.declared.Op.{Op}
use Rattle.sixteen.specs.declared.Call.{Call}
use Rattle.reached.specs.Reached.{go, on}
use Rattle.reached.specs.Fair.{Lived, go_on, whose, Busy, Open, AllInWords, begun, Begins, FairFor, InTime, EndsWell}
use Rattle.fairness.specs.Calls.{Fair}
use Rattle.fairness.specs.Robin.{robin, Counts}
use Rattle.fairness.proofs.Along.{along_map}
use Rattle.fairness.proofs.Ended.{fair_while}
use Rattle.fairness.proofs.Robin.{robin_fair}
use Rattle.words.proofs.Show.{Agrees}
use Rattle.words.proofs.Land.{used_of}
use Rattle.words.proofs.Back.{agree_back}
use Rattle.words.proofs.Whole.{reached_shown}
use Rattle.starving.proofs.Words.{busy_drawn, busy_counts}
use Rattle.starving.proofs.Demand3.{demand_3}
use Rattle.starving.proofs.Reaches.{Reaches, along_reach}

-- ---- round robin: call number k is a step of session k mod 16
abbrev pub round : (k m : ℕ) → List Call
round k m = robin Call.Step 16 k m

pub round_words : (k m : ℕ) → AllInWords (round k m)
round_words k zero = tt
round_words k (suc m) = (tt, round_words (suc k) m)

-- a busy session of a reached register is one of sixteen, and its step is counted
pub reached_counts : (l : Lived) → Reaches l → Counts Call.Step 16 whose Busy l
reached_counts l r i busy =
    let τ = go small l.state (Call.Step i) in
    let key = key_at τ.nodes in
    let val = value_at τ.nodes in
    let agrees : Agrees key val (used_of τ) τ.nodes = record { keyed = λ x _. refl; valued = λ x _. refl } in
    let S = reached_shown r key val (agree_back small key val l.state (Call.Step i) agrees) in
    ((busy_drawn key val l S.0 S.1 i busy).0, busy_counts key val l S.0 S.1 i agrees busy)

pub round_fair : (l : Lived) → Reaches l → (w k m : ℕ) → 16 ≤ w → Fair go_on whose Busy w l (round k m)
round_fair l r w k m w≥16 = robin_fair Call.Step 16 go_on whose Busy w k m l w≥16
    (along_map go_on Reaches (Counts Call.Step 16 whose Busy) reached_counts l (round k m)
    (along_reach l r (round k m) (round_words k m)))

-- ---- SO DEMAND 3's PREMISE CAN BE MET, whatever register is reached and whatever range is started there
module _ (l : Lived) (q low high : ℕ) (B : Begins l q low high) (w k m : ℕ) (w≥16 : 16 ≤ w) where
  pub premise : FairFor l q low high w (round k m)
  premise = fair_while go_on whose (Open q low high) Busy w (begun l q low high) (round k m)
      (round_fair (begun l q low high) (on B.reached (Call.Start q (Op.Range low high)) B.in_words) w k m w≥16)

  pub served_in_turn : InTime l q low high w (round k m) × EndsWell l q low high w (round k m)
  served_in_turn = demand_3.in_time l q low high B w (round k m) (round_words k m) premise
