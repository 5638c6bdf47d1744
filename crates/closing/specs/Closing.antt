-- The short ways of an update's last steps: what is tested of its words and of the tables, and what is then told.
-- In order: Number (phase 6), which tells the update's number; Finish (phase 8), which tells whether it is one.
-- `z` is the size, `ns` and `es` are the tables, `o` and `p` the words of the operation and of the phase.
-- Not here: that this is the step (proofs/Agrees.antt). Assumes nothing.
use Rattle.std.specs.Prelude.{ℕ, ◌+◌, List, Bool, true, false, cond, ltb, eqb, Option, Some, None}
use Rattle.bundle.specs.Bundle.{finish_of}
use Rattle.nodes.specs.Nodes.{unlocked_both}
use Rattle.terms.specs.declared.Size.{Size}
use Rattle.steps.specs.Steps.{in_tables}
use Rattle.encoding.specs.declared.OpWords.{OpWords}
use Rattle.encoding.specs.declared.PhaseWords.{PhaseWords}
use Rattle.advancing.specs.Advancing.{updates_of, removing}

-- ---- Number
unfoldable pub number_ahead : Size → ℕ → OpWords → PhaseWords → Option ℕ
number_ahead z stamp o p =
    cond (eqb p.phase 6)
    (cond (eqb p.e 0) (cond (updates_of o) (cond (ltb stamp z.updates) (Some (stamp + 1)) None) None) None)
    None

-- ---- Finish: both entries and the nodes that are locked are in the tables
unfoldable pub usable_ahead : Size → Bool → PhaseWords → Bool
usable_ahead z removes p = in_tables z removes p.a p.b p.c p.d

pub data Finished : Type 0 where
  finished : List ℕ → List ℕ → Bool → Finished

unfoldable pub finish_ahead : Size → List ℕ → List ℕ → OpWords → PhaseWords → Finished
finish_ahead z ns es o p =
    cond (eqb p.phase 8)
    (cond (updates_of o)
    (cond (usable_ahead z (removing o) p)
    (finished (unlocked_both ns p.a p.b (removing o))
    (finish_of (finish_of es p.c p.e) p.d p.e) true)
    (finished ns es false))
    (finished ns es false))
    (finished ns es false)
