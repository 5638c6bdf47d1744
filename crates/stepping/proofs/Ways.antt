-- A step's way out where the answer has another length, over plain values. Assumes nothing.
use Prim.Native.Nat.{ℕ}
use mathlib.Core.Path.{◌≡◌}
use mathlib.Core.List.{List}
use lib.ListN.{length}
use borrow.Author.Tests.{ne_eqb}
use Rattle.terms.specs.declared.Size.{Size}
use Rattle.exchange.specs.Exchange.{left}
use Rattle.stepping.specs.Stepping.{step_call}

pub step_silent : (z : Size) (ns es ws out : List ℕ) (who : ℕ) → (length out ≡ 3 → ⊥)
    → left ns es ws out 7 ≡ step_call z ns es ws out who
unfolding step_call
step_silent z ns es ws out who h = rw (ne_eqb _ _ h)
