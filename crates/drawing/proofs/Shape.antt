-- The list's drawing is a shape: it fills in the record of what the history asks (crate order, specs/Shape.antt).
-- In order: what going on numbers and keeps; the beginning; the shape; the invariant at the beginning, after a start,
-- after a step and of all that is reached.
-- The invariant comes from the record's laws, here and nowhere else: the history from what steps number (Owes), the
-- rest from what they keep (Keeps). Assumes nothing.
use mathlib.Core.Path.{◌≡◌, refl, ap}
use mathlib.Core.List.{[]}
use Prim.Native.Nat.{ℕ}
use Rattle.order.specs.History.{Start, InOrder, rows_from, History}
use Rattle.order.specs.Shape.{Numbers, nothing, Shape, ReachedBy}
use Rattle.order.proofs.Shape.{shape_begins, shape_goes, shape_history}
use Rattle.drawing.specs.Phases.{Phase}
use Rattle.drawing.specs.Drawing.{Drawing, beginning}
use Rattle.drawing.specs.Effects.{Effect, after, begun}
use Rattle.drawing.specs.Steps.{Out, Starts, Step, GoesOn, starting, stepping}
use Rattle.drawing.proofs.Inv.{Own, Inv}
use Rattle.drawing.proofs.Owes.{step_numbers}
use Rattle.drawing.proofs.Keeps.{start_keeps, step_keeps}
use Rattle.drawing.proofs.Begin.{begin_own}

module _ (key val : ℕ → ℕ) (start : Start) where
  -- ---- what going on numbers, and what it keeps
  pub goes_numbers : (m m' : Drawing) → GoesOn key val start m m' → Inv key val start m
      → Numbers key start m.rows m.log m'.rows m'.log
  goes_numbers m m' (starting t s) I = nothing
  goes_numbers m m' (stepping t s) I = step_numbers key val start t m I s

  pub goes_keeps : (m m' : Drawing) → GoesOn key val start m m' → Inv key val start m → Own key val start m'
  goes_keeps m m' (starting t s) I = start_keeps key val start m I t s
  goes_keeps m m' (stepping t s) I = step_keeps key val start m I t s

  -- ---- the beginning
  pub begins_so : (m : Drawing) → m ≡ beginning start → (m.rows ≡ rows_from start) × (m.log ≡ [])
  unfolding beginning
  begins_so m e = (ap (λ d. d.rows) e, ap (λ d. d.log) e)

  pub begins_own : (m : Drawing) → m ≡ beginning start → History key start m.rows m.log → Own key val start m
  begins_own m e H =
      let d = begins_so m e in rw e (begin_own key val start (rw (d.0, d.1) at H))

  -- ---- THE SHAPE
  abbrev pub list_shape : Shape key start
  list_shape = record {
    State = Drawing;
    rows = λ m. m.rows;
    log = λ m. m.log;
    Own = Own key val start;
    Begins = λ m. m ≡ beginning start;
    Goes = GoesOn key val start;
    begins = begins_so;
    own_begins = begins_own;
    numbers = goes_numbers;
    keeps = goes_keeps;
  }

  -- what starts and steps reach from the beginning
  abbrev pub Reached : Drawing → Type 0
  Reached = ReachedBy list_shape

  -- ---- THE INVARIANT, with the history, holds of the beginning, goes on, and so holds of all that is reached
  pub begin_inv : InOrder key start → Inv key val start (beginning start)
  begin_inv order = shape_begins list_shape order refl

  pub started_inv : {m : Drawing} → Inv key val start m → (t : ℕ) {φ : Phase} → Starts key val t m φ
      → Inv key val start (begun start m t φ)
  started_inv I t s = shape_goes list_shape I (starting t s)

  pub stepped_inv : {m : Drawing} → Inv key val start m → (t : ℕ) {o : Out} {f : Effect} {φ : Phase}
      → Step key val start t m o f φ → Inv key val start (after start m t f φ)
  stepped_inv I t s = shape_goes list_shape I (stepping t s)

  pub reached_inv : InOrder key start → {m : Drawing} → Reached m → Inv key val start m
  reached_inv order r = shape_history list_shape order r
