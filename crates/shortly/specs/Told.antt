-- What it is for a short way to tell the step of the record that the words stand for.
-- In order: to agree with that step; the phase's words afterwards; Walk; a range's two. Names of answers: 2 working, 4
-- key. Not here: that they do (proofs/Agrees.antt). Assumes nothing.
use Rattle.std.specs.Prelude.{ℕ, ◌≡◌, List, true, Option, Some, None, Ok}
use Rattle.terms.specs.declared.Size.{Size}
use Rattle.terms.specs.declared.Counters.{Counters}
use Rattle.terms.specs.declared.Op.{Op}
use Rattle.terms.specs.declared.Answer.{Answer}
use Rattle.steps.specs.declared.Phase.{Phase}
use Rattle.steps.specs.Steps.{done, busy_of, gives, act_step}
use Rattle.encoding.specs.declared.PhaseWords.{PhaseWords}
use Rattle.encoding.specs.declared.Words.{Words}
use Rattle.encoding.specs.Encoding.{phase_with, phase_words, op_from, phase_from, session_from, decode}
use Rattle.packing.specs.declared.Reply.{Reply}
use Rattle.packing.specs.Packing.{reply_with, reply_of, number_of}
use Rattle.shortly.specs.declared.Ranged.{Ranged}

-- the operation that the words stand for
abbrev pub named : Words → Op
named w = op_from w.op.kind w.op.first w.op.second

-- ---- the words are a record's that is under way; its step leaves the entries, the counters and the operation, makes
-- the nodes ns', leads to the phase with the words p, and answers with the reply r, which is no refusal
pub record Agrees (z : Size) (ns es : List ℕ) (who : ℕ) (w : Words) (ns' : List ℕ) (p : PhaseWords) (r : Reply)
    : Type 0 where
  pub phase : Phase
  pub answer : Answer
  pub read : decode w ≡ Ok (session_from w)
  pub busy : busy_of (session_from w) ≡ true
  pub acts : (c : Counters)
      → act_step z ns es c who (named w) (phase_from w.phase) ≡ done ns' es (gives c (named w) phase answer)
  pub words : phase_words phase ≡ p
  pub reply : reply_of answer ≡ r
  pub number : number_of r ≡ 0

-- ---- the phase's words afterwards: a walk moved on to n, a range led to a node in phase f, n keys handed out
abbrev pub moved_to : PhaseWords → ℕ → PhaseWords
moved_to p n = phase_with p.phase p.b n p.c p.d p.e

abbrev pub led_to : PhaseWords → ℕ → ℕ → PhaseWords
led_to p f to = phase_with f to p.b p.c p.d p.e

abbrev pub handed_out : PhaseWords → ℕ → PhaseWords
handed_out p n = phase_with 11 p.a p.b n p.d p.e

-- ---- what is told is the step; None tells nothing
abbrev pub WalkTold : Size → List ℕ → List ℕ → ℕ → Words → Option ℕ → Type 0
WalkTold z ns es who w (Some n) = Agrees z ns es who w ns (moved_to w.phase n) (reply_with 2 0 0)
WalkTold z ns es who w None = Unit {0}

abbrev pub RangeTold : Size → List ℕ → List ℕ → ℕ → Words → Option Ranged → Type 0
RangeTold z ns es who w (Some (Ranged.Leads f to)) = Agrees z ns es who w ns (led_to w.phase f to) (reply_with 2 0 0)
RangeTold z ns es who w (Some (Ranged.Hands n k v)) = Agrees z ns es who w ns (handed_out w.phase n) (reply_with 4 k v)
RangeTold z ns es who w None = Unit {0}
