-- How an open range ends: by a step of its own that answers end, with demand 2's answer.
-- In order: steps that go on; the step that ends; the call that ends; when it has ended.
-- Assumes nothing.
use mathlib.Core.Path.{◌≡◌, refl, sym, ◌∙◌, ap, subst}
use mathlib.Core.Logic.{◌≢◌}
use mathlib.Core.Option.{Option, some}
use mathlib.Core.List.{List, ◌∷◌}
use Prim.Native.Nat.{ℕ}
use native.Mathlib.Decide.{ℕ_discrete}
use Rattle.order.specs.Set.{Pair}
use Rattle.order.specs.History.{Start}
use Rattle.drawing.specs.Phases.{Phase, idle, task}
use Rattle.drawing.specs.Drawing.{change, Drawing}
use Rattle.drawing.specs.Effects.{Effect, stays, after}
use Rattle.drawing.specs.Steps.{Out, ended, starts, Step}
use Rattle.drawing.specs.Steps.{walk_on, walk_arrive, lock_pred, lock_curr, check_again, check_present}
use Rattle.drawing.specs.Steps.{check_absent, check_pass, prepare_full, prepare_insert, prepare_remove}
use Rattle.drawing.specs.Steps.{number_it, link_it, finish_it, seek_on, seek_present, seek_absent, fix_it}
use Rattle.drawing.specs.Steps.{follow_on, follow_in, follow_end, hand_out}
use Rattle.drawing.specs.Answers.{Right}
use Rattle.drawing.proofs.Change.{change_same, change_other}
use Rattle.drawing.proofs.Inv.{Inv}
use Rattle.drawing.proofs.Answers.{answers}
use Rattle.drawing.proofs.Tasks.{task_stays}
use Rattle.fairness.specs.Calls
use Rattle.fairness.specs.Calls.{Along, Ended}
use Rattle.fairness.proofs.Along.{along_rest, along_here}
use Rattle.pace.specs.Turns.{Turn, refused, starting, waiting, stepping, Draws, Open, IsOpen}
use Rattle.pace.proofs.Turns.{none_some, not_update, not_has}

module _ (key val : ℕ → ℕ) (start : Start) (m : Drawing) (q low high : ℕ) (is_open : Open q low high m) where
  -- ---- a step that goes on leaves it open
  still : (f : Effect) (φ : Phase) → task φ ≡ task (m.phase q) → Open q low high (after start m q f φ)
  still f φ same = ap task (change_same m.phase q φ) ∙ same ∙ is_open

  goes : {P : Type 0} {o : Out} {f : Effect} {φ : Phase} → Step key val start q m o f φ →
      task φ ≡ task (m.phase q) → ¬ Open q low high (after start m q f φ) → P
  goes {f = f} {φ = φ} step same shut = absurd (shut (still f φ same))

  -- a step of another too
  others : (t : ℕ) (φ : Phase) → q ≢ t → task (change m.phase t φ q) ≡ task (m.phase q)
  others t φ q≢t = ap task (change_other m.phase t φ q q≢t)

  -- ---- the step that ends it
  abbrev pub Ends : Out → Effect → Phase → Type 0
  Ends o f φ = (s : ℕ) × (handed : List Pair) × (o ≡ ended s handed) × (f ≡ stays) × (φ ≡ idle)

  pub end_step : {o : Out} {f : Effect} {φ : Phase} → Step key val start q m o f φ →
      ¬ Open q low high (after start m q f φ) → Ends o f φ
  end_step (walk_on op p c e h) shut =
      goes (walk_on op p c e h) (task_stays key val start m q (walk_on op p c e h)) shut
  end_step (walk_arrive op p c e h) shut =
      goes (walk_arrive op p c e h) (task_stays key val start m q (walk_arrive op p c e h)) shut
  end_step (lock_pred u p c e l) shut = not_update (sym (ap task e) ∙ is_open)
  end_step (lock_curr k p c e l) shut = not_update (sym (ap task e) ∙ is_open)
  end_step (check_again u p c e s) shut = not_update (sym (ap task e) ∙ is_open)
  end_step (check_present k v p c e g h) shut = not_update (sym (ap task e) ∙ is_open)
  end_step (check_absent k p c e g h) shut = not_update (sym (ap task e) ∙ is_open)
  end_step (check_pass u p c e g h) shut = not_update (sym (ap task e) ∙ is_open)
  end_step (prepare_full k v p c r e b) shut = not_update (sym (ap task e) ∙ is_open)
  end_step (prepare_insert k v p c r n e bp bn n≢tail nk nv) shut = not_update (sym (ap task e) ∙ is_open)
  end_step (prepare_remove k p c r r₂ e bp bq) shut = not_update (sym (ap task e) ∙ is_open)
  end_step (number_it u p y z c e) shut = not_update (sym (ap task e) ∙ is_open)
  end_step (link_it u p y z c n e) shut = not_update (sym (ap task e) ∙ is_open)
  end_step (finish_it u p y z c n r r₂ e bp by) shut = not_update (sym (ap task e) ∙ is_open)
  end_step (seek_on k x c e answer h) shut = not_has (sym (ap task e) ∙ is_open)
  end_step (seek_present k x c e answer h) shut = not_has (sym (ap task e) ∙ is_open)
  end_step (seek_absent k x c e answer h) shut = not_has (sym (ap task e) ∙ is_open)
  end_step (fix_it l h p e) shut = goes (fix_it l h p e) (task_stays key val start m q (fix_it l h p e)) shut
  end_step (follow_on l h x s c handed e answer k) shut =
      goes (follow_on l h x s c handed e answer k)
      (task_stays key val start m q (follow_on l h x s c handed e answer k)) shut
  end_step (follow_in l h x s c handed e answer k j) shut =
      goes (follow_in l h x s c handed e answer k j)
      (task_stays key val start m q (follow_in l h x s c handed e answer k j)) shut
  end_step (follow_end l h x s c handed e answer k j) shut = (s, handed, refl, refl, refl)
  end_step (hand_out l h x s handed e) shut =
      goes (hand_out l h x s handed e) (task_stays key val start m q (hand_out l h x s handed e)) shut

  -- ---- THE CALL THAT ENDS IT is its own step, and answers end with demand 2's answer
  pub record EndsRight (o : Option ℕ) (m' : Drawing) : Type 0 where
    pub its_own : o ≡ some q
    pub snapshot : ℕ
    pub handed : List Pair
    pub step : Step key val start q m (ended snapshot handed) stays idle
    pub next : m' ≡ after start m q stays idle
    pub right : Right key val start m q (ended snapshot handed)

  own_end : (I : Inv key val start m) {o : Out} {f : Effect} {φ : Phase} → Step key val start q m o f φ → Ends o f φ →
      EndsRight (some q) (after start m q f φ)
  own_end I step (s, handed, o≡, f≡, φ≡) =
      let ends : Step key val start q m (ended s handed) stays idle = rw (o≡, f≡, φ≡) at step in record {
        its_own = refl;
        snapshot = s;
        handed = handed;
        step = ends;
        next = rw (f≡, φ≡) refl;
        right = answers key val start m I q ends;
      }

  pub end_turn : (given : List ℕ) {o : Option ℕ} {m' : Drawing} {given' : List ℕ} →
      Turn key val start m given o m' given' → Inv key val start m → ¬ Open q low high m' → EndsRight o m'
  end_turn given refused I shut = absurd (shut is_open)
  end_turn given (starting t (starts op e f)) I shut =
      absurd (shut (others t _ (λ z. none_some (sym (ap task (ap m.phase z ∙ e)) ∙ is_open)) ∙ is_open))
  end_turn given (waiting t w) I shut = absurd (shut is_open)
  end_turn given (stepping t {o = a} {f = f} {φ = φ} s) I shut = elim (ℕ_discrete q t) [
    | no q≢t ↦ absurd (shut (others t φ q≢t ∙ is_open))
    | yes q≡t ↦ subst
        (λ w. Step key val start w m a f φ → ¬ Open q low high (after start m w f φ) →
        EndsRight (some w) (after start m w f φ))
        q≡t (λ s' shut'. own_end I s' (end_step s' shut')) s shut
  ]

-- ---- so when a range has ended, its last call was its own step with that answer
pub ended_right : {State Call : Type 0} (go : State → Call → State) (who : State → Call → Option ℕ)
    (Good : State → Type 0) (key val : ℕ → ℕ) (start : Start) (D : Draws go who Good key val start) (q low high : ℕ)
    (σ : State) (calls : List Call) → Along go Good σ calls → (d : Ended go (IsOpen D q low high) σ calls) →
    (is_open : Open q low high (D.drawing (Calls.after go σ d.lived))) →
    EndsRight key val start (D.drawing (Calls.after go σ d.lived)) q low high is_open
    (who (Calls.after go σ d.lived) d.last) (D.drawing (go (Calls.after go σ d.lived) d.last))
ended_right go who Good key val start D q low high σ calls good d is_open =
    let τ = Calls.after go σ d.lived in
    let rest = along_rest go Good σ d.lived (d.last ∷ d.later) (rw d.whole at good) in
    end_turn key val start (D.drawing τ) q low high is_open (D.given τ)
    (D.turn τ d.last rest.0 (along_here go Good (go τ d.last) d.later rest.1)) (D.inv τ) d.shut
