-- What it is for a short way of an update to tell the step: where it tells a phase, the words are a record's that is
-- under way, and its step makes the nodes what they are, changes of the record the phase's number alone, and answers
-- working (2). Not here: that they do (proofs/Agrees.antt). Assumes nothing.
use Rattle.std.specs.Prelude.{ℕ, List, Some, None}
use Rattle.terms.specs.declared.Size.{Size}
use Rattle.encoding.specs.declared.Words.{Words}
use Rattle.packing.specs.Packing.{reply_with}
use Rattle.shortly.specs.Told.{Agrees, led_to}
use Rattle.advancing.specs.Advancing.{Advanced, advanced}

abbrev pub AdvanceTold : Size → List ℕ → List ℕ → ℕ → Words → Advanced → Type 0
AdvanceTold z ns es who w (advanced ns' (Some f)) =
    Agrees z ns es who w ns' (led_to w.phase f w.phase.a) (reply_with 2 0 0)
AdvanceTold z ns es who w (advanced ns' None) = Unit {0}
