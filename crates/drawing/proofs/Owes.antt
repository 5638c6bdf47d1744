-- What the list owes the history: what a session has ready at Number, and that no other step numbers.
-- In order: keys of the set; an insert and a remove that may be numbered; what each step numbers.
-- It is said here alone, and Number and Shape both use it. Not here: that the history is kept by it (crate order,
-- proofs/Shape). Assumes nothing.
use mathlib.Core.Path.{◌≡◌, ◌∙◌, ap}
use mathlib.Core.Logic.{inl, inr, ⊎_elim}
use mathlib.Core.Option.{some}
use mathlib.Core.List.Memᴰ
use mathlib.Core.List.{◌∷◌, Memᴰ}
use Prim.Native.Nat.{ℕ, ◌≤◌, ◌<◌}
use native.Mathlib.Omega.{arith}
use Rattle.order.specs.Set.{Update, insert, remove}
use Rattle.order.specs.Rows.{Row}
use Rattle.order.specs.History.{head, tail, next, Log, Start, stamp, members, History}
use Rattle.order.specs.Shape.{MayInsert, MayRemove, Numbers, nothing, an_insert, a_remove}
use Rattle.order.proofs.Chains.{from_head, to_tail}
use Rattle.order.proofs.Keeps.{current, divided}
use Rattle.order.proofs.Near.{row_fresh}
use Rattle.drawing.specs.Phases.{Phase, numbering, old_next}
use Rattle.drawing.specs.Drawing.{Drawing, now}
use Rattle.drawing.specs.Effects.{Effect, numbers, rows_by, log_by}
use Rattle.drawing.specs.Steps.{Out, Step, walk_on, walk_arrive, lock_pred, lock_curr, check_again}
use Rattle.drawing.specs.Steps.{check_present, check_absent, check_pass, prepare_full, prepare_insert}
use Rattle.drawing.specs.Steps.{prepare_remove, number_it, link_it, finish_it, seek_on, seek_present}
use Rattle.drawing.specs.Steps.{seek_absent, fix_it, follow_on, follow_in, follow_end, hand_out}
use Rattle.drawing.proofs.Inv.{lead, In, Facts, Inv}

-- ---- keys of the set lie between the head's and the tail's
module _ (key : ℕ → ℕ) (start : Start) (rows : ℕ → Row) (log : Log) (H : History key start rows log) where
  pub head_least : (x : ℕ) → Memᴰ x (head ∷ members key start log) → key head ≤ key x
  head_least x m = from_head key (next rows (stamp start log)) x (members key start log)
      (divided key start (next rows (stamp start log)) log (current key start rows log H) x m)

  pub below_tail : (x : ℕ) → Memᴰ x (head ∷ members key start log) → key x < key tail
  below_tail x m =
      let a = divided key start (next rows (stamp start log)) log (current key start rows log H) x m in
      to_tail key (next rows (stamp start log)) x a.back a.behind

module _ (key val : ℕ → ℕ) (start : Start) (t : ℕ) (m : Drawing) (I : Inv key val start m) where
  -- ---- what a session at Number has ready: pred is in the set and leads to what its plain next names
  pred_now : (u : Update) (p y z c : ℕ) → Facts key val start m t (numbering u p y z c) →
      In key val start m p × (lead start m p ≡ some (old_next u y z))
  pred_now u p y z c F =
      let d = F.1.pred F.2.pred_on F.2.pred_gone in (d.0, d.1 ∙ ap some F.2.pred_next)

  pub may_insert : (k v p y z c : ℕ) → Facts key val start m t (numbering (insert k v) p y z c)
      → MayInsert key start m.rows m.log p z y
  may_insert k v p y z c F =
      let d = pred_now (insert k v) p y z c F in
      let out = F.2.named.0 in
      record {
        pred_in = d.0;
        leads = d.1;
        above_pred = F.2.low;
        below_curr = F.2.up;
        unlinked = row_fresh key start m.rows m.log I.hist y (λ e. out (inl (inl e)))
            (λ i. out (inl (inr i)));
      }

  pub may_remove : (k p y z c : ℕ) → Facts key val start m t (numbering (remove k) p y z c)
      → MayRemove key start m.rows m.log p y z
  may_remove k p y z c F =
      let d = pred_now (remove k) p y z c F in
      let y_now = F.1.node F.2.named.0 F.2.node_gone in
      let least = head_least key start m.rows m.log I.hist p d.0 in
      record {
        pred_in = d.0;
        leads = d.1;
        curr_in = ⊎_elim (λ e. absurd (omega (arith, ap key e, F.2.low, least))) (λ b. b)
            (Memᴰ.cases_cons y_now.0);
        leads_on = y_now.1 ∙ ap some F.2.node_next;
      }

  at_number : (u : Update) (p y z c : ℕ) → Facts key val start m t (numbering u p y z c)
      → Numbers key start m.rows m.log (rows_by (now start m) (numbers u p y z) m.rows)
      (log_by (numbers u p y z) m.log)
  at_number (insert k v) p y z c F = an_insert p z y (may_insert k v p y z c F)
  at_number (remove k) p y z c F = a_remove p y z (may_remove k p y z c F)

  -- ---- a step numbers an update at Number, and nothing elsewhere
  abbrev StepNumbers : Effect → Type 0
  StepNumbers f =
      Numbers key start m.rows m.log (rows_by (now start m) f m.rows) (log_by f m.log)

  pub step_numbers : {o : Out} {f : Effect} {φ : Phase} → Step key val start t m o f φ → StepNumbers f
  step_numbers (walk_on op p q e h) = nothing
  step_numbers (walk_arrive op p q e h) = nothing
  step_numbers (lock_pred u p q e l) = nothing
  step_numbers (lock_curr k p q e l) = nothing
  step_numbers (check_again u p q e s) = nothing
  step_numbers (check_present k v p q e g h) = nothing
  step_numbers (check_absent k p q e g h) = nothing
  step_numbers (check_pass u p q e g h) = nothing
  step_numbers (prepare_full k v p q r e b) = nothing
  step_numbers (prepare_insert k v p q r n e bp bn n≢tail nk nv) = nothing
  step_numbers (prepare_remove k p q r r₂ e bp bq) = nothing
  step_numbers (number_it u p y z c e) = at_number u p y z c (rw e at (I.own.facts t))
  step_numbers (link_it u p y z c n e) = nothing
  step_numbers (finish_it u p y z c n r r₂ e bp by) = nothing
  step_numbers (seek_on k x q e a h) = nothing
  step_numbers (seek_present k x q e a h) = nothing
  step_numbers (seek_absent k x q e a h) = nothing
  step_numbers (fix_it low high p e) = nothing
  step_numbers (follow_on low high x s q handed e a h) = nothing
  step_numbers (follow_in low high x s q handed e a h k) = nothing
  step_numbers (follow_end low high x s q handed e a h k) = nothing
  step_numbers (hand_out low high x s handed e) = nothing
