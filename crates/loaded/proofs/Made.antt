-- Every register made is a reached one with a history that tells the same of all that is under way: what is proved of
-- reached registers holds of fresh and loaded ones alike. Assumes nothing.
use mathlib.Core.Path.{refl}
use Rattle.terms.specs.Terms.{small}
use Rattle.reached.specs.Reached.{State, Past, no_past, note, Reached}
use Rattle.reached.specs.Reached.{fresh as reached_fresh, on as reached_on}
use Rattle.loaded.specs.Made.{Made, fresh, loaded, on, Alike}
use Rattle.loaded.proofs.Loaded.{loaded_reached}
use Rattle.loaded.proofs.Alike.{alike_on}

pub made_reached : {σ : State} {k : Past} → Made small σ k → (h : Past) × Reached small σ h × Alike h k
made_reached (fresh ns es ns' es' c opens) = (
  no_past,
  reached_fresh ns es ns' es' c opens,
  record { updates = refl; under = refl; since = λ _ _. refl; handed = λ _ _. refl },
)
made_reached (loaded s ns es ns' es' c told) =
    let r = loaded_reached s ns es ns' es' c told in (
      r.0,
      r.1,
      record {
        updates = r.2;
        under = r.3;
        since = λ _ some_op. absurd (some_op refl);
        handed = λ _ some_op. absurd (some_op refl);
      },
    )
made_reached (on {σ} {h} made c words) =
    let r = made_reached made in
    (note small σ c r.0, reached_on r.1 c words, alike_on σ c r.0 h r.2)
