-- Every reached drawing answers right, is not stuck, and has a list of the nodes given.
-- Not here: that it has the invariant (Shape). Assumes nothing.
use mathlib.Core.Path.{◌≡◌}
use mathlib.Core.Logic.{◌⊎◌}
use mathlib.Core.List.{List}
use Prim.Native.Nat.{ℕ}
use Rattle.order.specs.History.{Start, InOrder}
use Rattle.order.specs.Shape.{at_beginning, gone_on}
use Rattle.drawing.specs.Phases.{Phase, idle}
use Rattle.drawing.specs.Drawing.{Drawing}
use Rattle.drawing.specs.Effects.{Effect, given_by}
use Rattle.drawing.specs.Steps.{Out, Step, Waits, starting, stepping}
use Rattle.drawing.specs.Answers.{Right}
use Rattle.drawing.proofs.Shape.{Reached, reached_inv}
use Rattle.drawing.proofs.Answers.{answers}
use Rattle.drawing.proofs.Goes.{Goes, goes_or_waits}
use Rattle.drawing.proofs.Given.{Listed, listed_beginning, listed_start, listed_step}

module _ (key val : ℕ → ℕ) (start : Start) (in_order : InOrder key start) where
  pub reached_answers : {m : Drawing} → Reached key val start m → (t : ℕ) {o : Out} {f : Effect} {φ : Phase} →
      Step key val start t m o f φ → Right key val start m t o
  reached_answers {m} r t s = answers key val start m (reached_inv key val start in_order r) t s

  pub reached_goes : {m : Drawing} → Reached key val start m → (t : ℕ) →
      (m.phase t ≡ idle) ⊎ (Waits t m ⊎ Goes key val start m t)
  reached_goes {m} r t = goes_or_waits key val start m (reached_inv key val start in_order r) t

  -- with the nodes given, each once
  pub reached_listed : {m : Drawing} → Reached key val start m → (given : List ℕ) × Listed given m
  reached_listed (at_beginning e) = rw e (start.loaded, listed_beginning key val start in_order)
  reached_listed (gone_on {σ = m} r (starting t {φ} s)) =
      let g = reached_listed r in (g.0, listed_start start m g.0 g.1 t φ)
  reached_listed (gone_on {σ = m} r (stepping t {f = f} s)) =
      let g = reached_listed r in
      (given_by f g.0, listed_step key val start m (reached_inv key val start in_order r) g.0 g.1 t s)
