use mathlib.Core.Logic.{inl, inr}
use Rattle.loading.proofs.Words.{all_on, all_over}
use Rattle.loading.proofs.file_all.Goals as goal

pub loop-i-preserved : goal.loop-i-preserved
loop-i-preserved c =
    let t = c.in-Some.ensures.steps in
    rw t.2
    (all_on _ _ _ _ _ _ _ c.loop-i.invariant _ _ _ _ t.0.0 t.0.1 _ (rw t.1 at c.file.ensures))

pub returns : goal.returns
returns c =
    let steps = c.in-None.ensures.steps in
    elim steps.0 [
      | inl x ↦ all_over _ _ _ _ _ _ _ c.loop-i.invariant (inl x.1.0)
      | inr x ↦ all_over _ _ _ _ _ _ _ c.loop-i.invariant (inr x.1.0)
    ]
