-- The short ways of a step: what is tested of a record's words and of the tables, and what the step then leads to.
-- In order: Walk that moves on; Follow that goes on or meets a key; Hand; a range's two. `z` is the size, `ns` and
-- `es` are the tables, `w` a record's words. A way tells what changes (crate source); None where a test fails.
-- Not here: that this is the step (proofs/Agrees.antt). Assumes nothing.
use Rattle.std.specs.Prelude.{ℕ, ◌+◌, List, Bool, false, cond, ltb, leb, eqb, Option, Some, None, Result, Ok, Err}
use Rattle.bundle.specs.Bundle.{at_of}
use Rattle.bundle.specs.declared.Held.{Held}
use Rattle.nodes.specs.Nodes.{key_at, value_at, newest_at}
use Rattle.terms.specs.declared.Size.{Size}
use Rattle.steps.specs.Steps.{moves_on}
use Rattle.encoding.specs.declared.OpWords.{OpWords}
use Rattle.encoding.specs.declared.PhaseWords.{PhaseWords}
use Rattle.encoding.specs.declared.Words.{Words}
use Rattle.encoding.specs.Encoding.{same_three, op_right}
use Rattle.shortly.specs.declared.Ranged.{Ranged}

-- ---- Walk that moves on, for the key sought
-- an operation's words, and not None's: the first number is the key sought
unfoldable pub seeks_of : OpWords → Bool
seeks_of o = cond (eqb o.kind 0) false (op_right o)

-- the words that Walk does not use are 0
abbrev pub walk_zeros : PhaseWords → Bool
walk_zeros p = same_three p.c p.d p.e 0 0 0

unfoldable pub walk_shortly : Size → List ℕ → ℕ → PhaseWords → Option ℕ
walk_shortly z ns sought p =
    cond (eqb p.phase 1) (cond (walk_zeros p) (moves_on z ns sought p.b) None) None

-- ---- Follow of a range from low to high, which goes on or meets a key
unfoldable pub sees_shortly : Size → List ℕ → ℕ → ℕ → ℕ → Option Ranged
sees_shortly z ns low high to =
    cond (ltb to z.nodes)
    (cond (ltb (key_at ns to) low)
    (Some (Ranged.Leads 11 to))
    (cond (leb (key_at ns to) high) (Some (Ranged.Leads 12 to)) None))
    None

abbrev pub on_taken : Result ℕ Held → (ℕ → Option Ranged) → Option Ranged
on_taken (Ok to) next = next to
on_taken (Err _) next = None

unfoldable pub follow_shortly : Size → List ℕ → List ℕ → ℕ → ℕ → ℕ → ℕ → Option Ranged
follow_shortly z ns es low high at snapshot =
    cond (ltb at z.nodes)
    (on_taken (at_of z.entries es (newest_at ns at) snapshot) (sees_shortly z ns low high))
    None

-- ---- Hand
unfoldable pub hand_shortly : Size → List ℕ → ℕ → ℕ → Option Ranged
hand_shortly z ns at handed =
    cond (ltb at z.nodes)
    (cond (ltb handed z.keys) (Some (Ranged.Hands (handed + 1) (key_at ns at) (value_at ns at))) None)
    None

-- ---- a range's two, by the phase; the words that they do not use are 0
abbrev pub range_zeros : Words → Bool
range_zeros w = same_three 0 w.phase.d w.phase.e 0 0 0

unfoldable pub range_shortly : Size → List ℕ → List ℕ → Words → Option Ranged
range_shortly z ns es w =
    cond (eqb w.op.kind 4)
    (cond (range_zeros w)
    (cond (eqb w.phase.phase 11)
    (follow_shortly z ns es w.op.first w.op.second w.phase.a w.phase.b)
    (cond (eqb w.phase.phase 12) (hand_shortly z ns w.phase.a w.phase.c) None))
    None)
    None
