-- Each answer is right (demand 2, one step at a time); and what a range has handed out is a first part of its answer.
-- In order: pred at a good Check; has's node at its last step; Finish; all answers; the first part.
-- Assumes nothing.
use mathlib.Core.Path.{◌≡◌, sym, ◌∙◌, ap}
use mathlib.Core.Option.{some}
use mathlib.Core.List.{List, [], ◌∷◌, ◌++◌, map, append_assoc, append-nil}
use Prim.Native.Nat.{ℕ, ◌≤◌, ◌<◌}
use native.Mathlib.Omega.{arith}
use Rattle.order.specs.Set.{Pair, within, Update, insert, remove}
use Rattle.order.specs.Rows.{found, read_newest}
use Rattle.order.specs.History.{next, Start, entry}
use Rattle.order.proofs.Near.{still_in, set_lacks, set_has}
use Rattle.drawing.specs.Phases.{upd, has, Phase, checking, finishing, seeking, following, handing, task}
use Rattle.drawing.specs.Drawing.{shown, Drawing}
use Rattle.drawing.specs.Effects.{Effect}
use Rattle.drawing.specs.Steps.{Out, done, Good, Step, walk_on, walk_arrive, lock_pred, lock_curr, check_again}
use Rattle.drawing.specs.Steps.{check_present, check_absent, check_pass, prepare_full, prepare_insert}
use Rattle.drawing.specs.Steps.{prepare_remove, number_it, link_it, finish_it, seek_on, seek_present}
use Rattle.drawing.specs.Steps.{seek_absent, fix_it, follow_on, follow_in, follow_end, hand_out}
use Rattle.drawing.specs.Answers.{Answer, Right}
use Rattle.drawing.proofs.Ahead.{ahead_end}
use Rattle.drawing.proofs.Inv.{lead, In, Ranging, Facts, Inv}
use Rattle.drawing.proofs.Keeps.{read_right, newest_right}

module _ (key val : ℕ → ℕ) (start : Start) (m : Drawing) (I : Inv key val start m) (t : ℕ) where
  its : (φ : Phase) → m.phase t ≡ φ → Facts key val start m t φ
  its φ e = rw e at (I.own.facts t)

  -- ---- pred in the set, and leading to curr, at a good Check
  pred_now : (u : Update) (p q : ℕ) → Facts key val start m t (checking u p q) → Good m u p q →
      In key val start m p × (lead start m p ≡ some q)
  pred_now u p q F g = let d = F.2.pred F.0.stand.pred_on g.0 in (d.0, d.1 ∙ ap some g.1)

  -- ---- has's node at its last step
  seek_now : (k x q : ℕ) → Facts key val start m t (seeking k x) → read_newest (shown (m.bundle x)) ≡ found (some q) →
      k ≤ key q → In key val start m x × (lead start m x ≡ some q)
  seek_now k x q F answer k≤q =
      let link = newest_right key val start m I x (some q) answer in
      (still_in key start m.rows m.log I.hist x q F.1 link (λ z. omega (arith, ap key z, F.0.0)), link)

  -- ---- Finish
  finish_right : (u : Update) (p y z c n : ℕ) → m.phase t ≡ finishing u p y z c n → Right key val start m t (done u n)
  finish_right (insert k v) p y z c n e = (k, v, ap task e, (its (finishing (insert k v) p y z c n) e).3)
  finish_right (remove k) p y z c n e = (k, ap task e, (its (finishing (remove k) p y z c n) e).3)

  -- ---- a range: what was handed out and what is found ahead are the answer
  pub handed_first : (low high x s : ℕ) (handed : List Pair) → Ranging key val start m t low high x s handed →
      (rest : List Pair) × Answer key val start m t low high s (handed ++ rest)
  handed_first low high x s handed F =
      let rest = map (entry key val) (within key low high F.ahead) in
      (rest, record { late = F.late; in_past = F.in_past; right = F.whole })

  -- at any moment the keys handed out are a first part of the answer
  pub following_first : (low high x s : ℕ) (handed : List Pair) → m.phase t ≡ following low high x s handed →
      (rest : List Pair) × Answer key val start m t low high s (handed ++ rest)
  following_first low high x s handed e = handed_first low high x s handed (its (following low high x s handed) e)

  pub handing_first : (low high x s : ℕ) (handed : List Pair) → m.phase t ≡ handing low high x s handed →
      (rest : List Pair) × Answer key val start m t low high s (handed ++ rest)
  handing_first low high x s handed e =
      let F = (its (handing low high x s handed) e).2 in
      let rest = map (entry key val) (within key low high F.ahead) in (
        entry key val x ∷ rest,
        record {
          late = F.late;
          in_past = F.in_past;
          right = sym (append_assoc handed (entry key val x ∷ []) rest) ∙ F.whole;
        },
      )

  end_right : (low high x s q : ℕ) (handed : List Pair) → Ranging key val start m t low high x s handed →
      next m.rows s x ≡ some q → high < key q → Answer key val start m t low high s handed
  unfolding within
  end_right low high x s q handed F link high<q =
      let none_left = ahead_end key (next m.rows s) high x q F.ahead link high<q F.reads in
      record {
        late = F.late;
        in_past = F.in_past;
        right = sym (append-nil handed)
            ∙ ap (λ l. handed ++ map (entry key val) (within key low high l)) (sym none_left) ∙ F.whole;
      }

  -- ---- EVERY ANSWER IS RIGHT
  pub answers : {o : Out} {f : Effect} {φ : Phase} → Step key val start t m o f φ → Right key val start m t o
  answers (walk_on op p q e h) = tt
  answers (walk_arrive op p q e h) = tt
  answers (lock_pred u p q e l) = tt
  answers (lock_curr k p q e l) = tt
  answers (check_again u p q e s) = tt
  answers (check_present k v p q e g h) =
      let F = its (checking (insert k v) p q) e in
      let d = pred_now (insert k v) p q F g in (
        upd (insert k v),
        ap task e,
        set_has key start m.rows m.log I.hist p q d.0 d.1 val k h F.0.fine.1,
      )
  answers (check_absent k p q e g h) =
      let F = its (checking (remove k) p q) e in
      let d = pred_now (remove k) p q F g in (
        upd (remove k),
        ap task e,
        set_lacks key start m.rows m.log I.hist p q d.0 d.1 val k F.0.stand.below
            (omega (arith, F.0.reach)),
      )
  answers (check_pass u p q e g h) = tt
  answers (prepare_full k v p q r e b) = (k, v, ap task e)
  answers (prepare_insert k v p q r n e bp bn n≢tail n_key n_val) = tt
  answers (prepare_remove k p q r r₂ e bp bq) = tt
  answers (number_it u p y z c e) = tt
  answers (link_it u p y z c n e) = tt
  answers (finish_it u p y z c n r r₂ e bp by) = finish_right u p y z c n e
  answers (seek_on k x q e answer h) = tt
  answers (seek_present k x q e answer h) =
      let F = its (seeking k x) e in
      let d = seek_now k x q F answer (omega arith) in
      (has k, ap task e, set_has key start m.rows m.log I.hist x q d.0 d.1 val k h F.0.1)
  answers (seek_absent k x q e answer h) =
      let F = its (seeking k x) e in
      let d = seek_now k x q F answer (omega arith) in
      (has k, ap task e, set_lacks key start m.rows m.log I.hist x q d.0 d.1 val k F.2 h)
  answers (fix_it low high p e) = tt
  answers (follow_on low high x s q handed e answer h) = tt
  answers (follow_in low high x s q handed e answer h k) = tt
  answers (follow_end low high x s q handed e answer h k) =
      let F = its (following low high x s handed) e in
      (low, high, x, e, end_right low high x s q handed F (read_right key val start m I s x (some q) answer) k)
  answers (hand_out low high x s handed e) =
      let F = (its (handing low high x s handed) e).2 in
      let rest = map (entry key val) (within key low high F.ahead) in (
        low,
        high,
        x,
        s,
        handed,
        rest,
        e,
        record {
          late = F.late;
          in_past = F.in_past;
          right = sym (append_assoc handed (entry key val x ∷ []) rest) ∙ F.whole;
        },
      )
