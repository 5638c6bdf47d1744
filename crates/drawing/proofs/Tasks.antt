-- A session's operation stays until its answer: a step goes on with it and answers working or a key, or ends it.
-- In order: the phases between; what an answer says of the phase after it; every step.
-- Assumes nothing.
use mathlib.Core.Path.{◌≡◌, refl, sym, ◌∙◌, ap}
use mathlib.Core.Option.{some}
use Prim.Native.Nat.{ℕ}
use Rattle.order.specs.Set.{Update, insert, remove}
use Rattle.order.specs.History.{Start}
use Rattle.drawing.specs.Phases.{Op, upd, has, range, Phase, idle, arrived, locked, task}
use Rattle.drawing.specs.Drawing.{Drawing}
use Rattle.drawing.specs.Effects.{Effect}
use Rattle.drawing.specs.Steps.{Out, working, present, absent, full, inserted, removed, key_value, ended, done}
use Rattle.drawing.specs.Steps.{Step, walk_on, walk_arrive, lock_pred, lock_curr, check_again, check_present}
use Rattle.drawing.specs.Steps.{check_absent, check_pass, prepare_full, prepare_insert, prepare_remove}
use Rattle.drawing.specs.Steps.{number_it, link_it, finish_it, seek_on, seek_present, seek_absent, fix_it}
use Rattle.drawing.specs.Steps.{follow_on, follow_in, follow_end, hand_out}

-- ---- the phases between
arrived_task : (op : Op) (p q : ℕ) → task (arrived op p q) ≡ some op
arrived_task (upd u) p q = refl
arrived_task (has k) p q = refl
arrived_task (range low high) p q = refl

locked_task : (u : Update) (p q : ℕ) → task (locked u p q) ≡ some (upd u)
locked_task (insert k v) p q = refl
locked_task (remove k) p q = refl

-- ---- what an answer says of the phase after it: the operation goes on, or has ended
abbrev pub Next : Out → (before next : Phase) → Type 0
Next working ψ φ = task φ ≡ task ψ
Next present ψ φ = φ ≡ idle
Next absent ψ φ = φ ≡ idle
Next full ψ φ = φ ≡ idle
Next (inserted n) ψ φ = φ ≡ idle
Next (removed n) ψ φ = φ ≡ idle
Next (key_value k v) ψ φ = task φ ≡ task ψ
Next (ended s handed) ψ φ = φ ≡ idle

finish_next : (u : Update) (n : ℕ) (ψ : Phase) → Next (done u n) ψ idle
finish_next (insert k v) n ψ = refl
finish_next (remove k) n ψ = refl

-- ---- EVERY STEP
pub task_stays : (key val : ℕ → ℕ) (start : Start) (m : Drawing) (t : ℕ) {o : Out} {f : Effect} {φ : Phase} →
    Step key val start t m o f φ → Next o (m.phase t) φ
task_stays key val start m t (walk_on op p q e h) = sym (ap task e)
task_stays key val start m t (walk_arrive op p q e h) = arrived_task op p q ∙ sym (ap task e)
task_stays key val start m t (lock_pred u p q e l) = locked_task u p q ∙ sym (ap task e)
task_stays key val start m t (lock_curr k p q e l) = sym (ap task e)
task_stays key val start m t (check_again u p q e s) = sym (ap task e)
task_stays key val start m t (check_present k v p q e g h) = refl
task_stays key val start m t (check_absent k p q e g h) = refl
task_stays key val start m t (check_pass u p q e g h) = sym (ap task e)
task_stays key val start m t (prepare_full k v p q r e b) = refl
task_stays key val start m t (prepare_insert k v p q r n e bp bn n≢tail nk nv) = sym (ap task e)
task_stays key val start m t (prepare_remove k p q r r₂ e bp bq) = sym (ap task e)
task_stays key val start m t (number_it u p y z c e) = sym (ap task e)
task_stays key val start m t (link_it u p y z c n e) = sym (ap task e)
task_stays key val start m t (finish_it u p y z c n r r₂ e bp by) = finish_next u n (m.phase t)
task_stays key val start m t (seek_on k x q e answer h) = sym (ap task e)
task_stays key val start m t (seek_present k x q e answer h) = refl
task_stays key val start m t (seek_absent k x q e answer h) = refl
task_stays key val start m t (fix_it low high p e) = sym (ap task e)
task_stays key val start m t (follow_on low high x s q handed e answer h) = sym (ap task e)
task_stays key val start m t (follow_in low high x s q handed e answer h k) = sym (ap task e)
task_stays key val start m t (follow_end low high x s q handed e answer h k) = refl
task_stays key val start m t (hand_out low high x s handed e) = sym (ap task e)
