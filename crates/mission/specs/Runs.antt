-- Calls one after the other from a register: the register and the history after them; and phases by name.
-- In order: after calls; the thirteen phases.
-- Not here: a call and its history (crate reached). Assumes nothing.
use Rattle.std.specs.Prelude.{List, [], ◌∷◌}
use Rattle.terms.specs.Terms.{small}
use Rattle.steps.specs.declared.Phase.{Phase}
use Rattle.sixteen.specs.declared.Call.{Call}
use Rattle.reached.specs.Reached.{State, go, Past, note}

-- ---- after calls
abbrev pub run : State → List Call → State
run σ [] = σ
run σ (c ∷ calls) = run (go small σ c) calls

abbrev pub past_of : State → Past → List Call → Past
past_of σ h [] = h
past_of σ h (c ∷ calls) = past_of (go small σ c) (note small σ c h) calls

-- ---- the thirteen phases, by name
pub data Kind : Type 0 where
  idle walk lock lock_curr check prepare number link finish newest fix follow hand : Kind

abbrev pub kind_of : Phase → Kind
kind_of Phase.Idle = idle
kind_of (Phase.Walk pred curr) = walk
kind_of (Phase.Lock pred curr) = lock
kind_of (Phase.LockCurr pred curr) = lock_curr
kind_of (Phase.Check pred curr) = check
kind_of (Phase.Prepare pred curr) = prepare
kind_of (Phase.Number pred node lower upper) = number
kind_of (Phase.Link pred node lower upper n) = link
kind_of (Phase.Finish pred node lower upper n) = finish
kind_of (Phase.Newest at) = newest
kind_of (Phase.Fix pred) = fix
kind_of (Phase.Follow at snapshot handed) = follow
kind_of (Phase.Hand at snapshot handed) = hand
