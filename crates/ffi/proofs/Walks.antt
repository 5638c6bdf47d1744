-- A walk's short way is the step. Assumes nothing.
use Prim.Native.Nat.{ℕ}
use mathlib.Core.Path.{◌≡◌}
use mathlib.Core.List.{List}
use mathlib.Core.Bool.{Bool, true}
use Rattle.std.specs.Prelude.{Option, Some}
use Rattle.terms.specs.declared.Size.{Size}
use Rattle.terms.specs.declared.Answer.{Answer}
use Rattle.encoding.specs.declared.OpWords.{OpWords}
use Rattle.encoding.specs.declared.PhaseWords.{PhaseWords}
use Rattle.packing.specs.declared.Reply.{Reply}
use Rattle.packing.specs.Packing.{op_at, phase_at, record_at, reply_of}
use Rattle.packing.proofs.Same.{walk_put}
use Rattle.exchange.specs.Exchange.{left}
use Rattle.shortly.specs.Shortly.{seeks_of, walk_shortly}
use Rattle.shortly.specs.Told.{WalkTold}
use Rattle.shortly.proofs.Agrees.{walk_is_step}
use Rattle.stepping.specs.Stepping.{IsAdmitted, heard, went, step_call}
use Rattle.stepping.proofs.Short.{short_steps}
use Rattle.ffi.specs.Ffi.{IsWalker}

pub seeks_first : (z : Size) (ns es ws out : List ℕ) (who : ℕ) (o : OpWords) (b : Bool) → IsAdmitted z ns es ws out who
    → o ≡ op_at ws who → b ≡ seeks_of o → b ≡ true → IsWalker z ns es ws out who o.first
seeks_first z ns es ws out who o b ready op seeks h = (ready, (cc), (cc))

module _ (z : Size) (ns es ws out : List ℕ) (who sought : ℕ) (ready : IsWalker z ns es ws out who sought) where
  pub walks_shortly : (p : PhaseWords) (r : Reply) (x : Option ℕ) (next n : ℕ) (ws' out' : List ℕ)
      → p ≡ phase_at ws who → x ≡ walk_shortly z ns sought p → x ≡ Some next
      → r ≡ reply_of Answer.Working → heard ws' out' n ≡ went ws out who 7 p.b 8 next r
      → left ns es ws' out' n ≡ step_call z ns es ws out who
  walks_shortly p r x next n ws' out' phase e goes says puts =
      let told : walk_shortly z ns (op_at ws who).first (phase_at ws who) ≡ Some next
      = rw (← ready.2, ← phase, ← e, goes) in
      let g : WalkTold z ns es who (record_at ws who) (Some next)
      = rw told at (walk_is_step z ns es who (record_at ws who) ready.1) in
      cc (short_steps z ns es ws out who ready.0 _ _ _ g, walk_put ws who (phase_at ws who).b next)
