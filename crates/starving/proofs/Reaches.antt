-- Registers with their histories that calls reach, and go on reaching.
-- In order: reached; after calls; along them; a part of calls whose keys are words.
-- Assumes nothing.
use mathlib.Core.List.{List, [], ◌∷◌, ◌++◌}
use Rattle.terms.specs.Terms.{small}
use Rattle.sixteen.specs.declared.Call.{Call}
use Rattle.reached.specs.Reached.{Reached, on}
use Rattle.reached.specs.Fair.{Lived, go_on, AllInWords}
use Rattle.fairness.specs.Calls.{after, Along}

abbrev pub Reaches : Lived → Type 0
Reaches l = Reached small l.state l.past

pub calls_reach : (l : Lived) → Reaches l → (calls : List Call) → AllInWords calls → Reaches (after go_on l calls)
calls_reach l r [] words = r
calls_reach l r (c ∷ calls) words = calls_reach (go_on l c) (on r c words.0) calls words.1

pub along_reach : (l : Lived) → Reaches l → (calls : List Call) → AllInWords calls → Along go_on Reaches l calls
along_reach l r [] words = r
along_reach l r (c ∷ calls) words = (r, along_reach (go_on l c) (on r c words.0) calls words.1)

pub words_front : (a b : List Call) → AllInWords (a ++ b) → AllInWords a
words_front [] b u = tt
words_front (c ∷ a) b u = (u.0, words_front a b u.1)
