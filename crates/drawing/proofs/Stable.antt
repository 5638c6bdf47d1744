-- Each phase's facts survive what others do.
-- In order: a remove's part; each record of facts; all phases.
-- Assumes nothing.
use mathlib.Core.Path.{◌≡◌, sym, ◌∙◌, ap}
use mathlib.Core.Logic.{inl, inr, ⊎_map}
use mathlib.Core.Option.{some}
use mathlib.Core.List.{List, [], ◌∷◌, ◌++◌}
use Prim.Native.Nat.{ℕ, ◌-◌}
use native.Mathlib.Omega.{arith}
use Rattle.order.specs.Set.{Pair, Update, insert, remove}
use Rattle.order.specs.History.{Start, entry}
use Rattle.drawing.specs.Phases.{key_in, sought, pred_target, node_target, OfRemove}
use Rattle.drawing.specs.Phases.{Phase, idle, walking, locking, locking_curr, checking, preparing, numbering}
use Rattle.drawing.specs.Phases.{linking, finishing, seeking, fixing, following, handing}
use Rattle.drawing.specs.Drawing.{Drawing}
use Rattle.drawing.specs.Steps.{Good}
use Rattle.drawing.specs.Answers.{in_set, Numbered}
use Rattle.drawing.proofs.Inv.{At, Coupled, Stand, Reach, Grip, Sound, Named, Laid, Dated, Owing, Ranging}
use Rattle.drawing.proofs.Inv.{Facts, Kept, Rely}

-- ---- a remove's part, carried over
pub of_remove : (u : Update) {P : Type 0} → P → OfRemove u P
of_remove (insert k v) a = tt
of_remove (remove k) a = a

pub of_remove_map : (u : Update) {P Q : Type 0} → (P → Q) → OfRemove u P → OfRemove u Q
of_remove_map (insert k v) f a = tt
of_remove_map (remove k) f a = f a

pub of_remove_map₂ : (u : Update) {P Q R : Type 0} → (P → Q → R) → OfRemove u P → OfRemove u Q → OfRemove u R
of_remove_map₂ (insert k v) f a b = tt
of_remove_map₂ (remove k) f a b = f a b

module _ (key val : ℕ → ℕ) (start : Start) (t : ℕ) (m m' : Drawing) (R : Rely key val start t m m') where
  pub at_on : (x : ℕ) → At start m x → At start m' x
  at_on x = ⊎_map (R.on x) (λ e. e)

  pub stand : (k p q : ℕ) → Stand key val start m k p q → Stand key val start m' k p q
  stand k p q s =
      record { pred_on = R.on p s.pred_on; curr_at = at_on q s.curr_at; below = s.below; rise = s.rise }

  pub reach : (u : Update) (p q : ℕ) → Reach key val start m u p q → Reach key val start m' u p q
  reach u p q r = record { fine = r.fine; stand = stand (key_in u) p q r.stand; reach = r.reach }

  pub coupled : (x : ℕ) → m.lock x ≡ some t → Coupled key val start m x → Coupled key val start m' x
  coupled x mine c on stays =
      let k = R.kept x (inl mine) in
      let d = c (k.unnamed on) (sym k.gone ∙ stays) in
      (k.stays d.0, k.leads ∙ d.1 ∙ ap some (sym k.plain))

  pub grip : (u : Update) (p y : ℕ) → Grip key val start m t u p y → Grip key val start m' t u p y
  grip u p y g = record { lock_p = R.locks p g.lock_p; lock_y = of_remove_map u (R.locks y) g.lock_y }

  pub sound : (u : Update) (p y : ℕ) → Grip key val start m t u p y → Sound key val start m u p y →
      Sound key val start m' u p y
  sound u p y g s =
      record { pred = coupled p g.lock_p s.pred; node = of_remove_map₂ u (coupled y) g.lock_y s.node }

  pub good : (u : Update) (p q : ℕ) → Grip key val start m t u p q → Good m u p q → Good m' u p q
  good u p q g a =
      let k = R.kept p (inl g.lock_p) in
      (k.gone ∙ a.0, k.plain ∙ a.1, of_remove_map₂ u (λ l e. (R.kept q (inl l)).gone ∙ e) g.lock_y a.2)

  pub named : (u : Update) (y : ℕ) → Kept key val start m m' y → Named key val start m u y →
      Named key val start m' u y
  named (insert k v) y kept n = (λ a. n.0 (⊎_map kept.unnamed (λ e. e) a), n.1, n.2)
  named (remove k) y kept n = (R.on y n.0, n.1)

  pub laid : (u : Update) (p y z c : ℕ) → Laid key val start m t u p y z c → Laid key val start m' t u p y z c
  laid u p y z c l =
      let kp = R.kept p (inr (c, pred_target u y z, m.rows p, l.pend_p)) in
      let ky = R.kept y (inr (c, node_target u y z, m.rows y, l.pend_y)) in
      record {
        pend_p = rw kp.row (R.pends p c (pred_target u y z) (m.rows p) l.pend_p);
        pend_y = rw ky.row (R.pends y c (node_target u y z) (m.rows y) l.pend_y);
        carried = omega (arith, R.stamp, l.carried);
        pred_on = R.on p l.pred_on;
        pred_gone = kp.gone ∙ l.pred_gone;
        pred_next = kp.plain ∙ l.pred_next;
        node_gone = ky.gone ∙ l.node_gone;
        node_next = ky.plain ∙ l.node_next;
        behind = at_on z l.behind;
        low = l.low;
        up = l.up;
        named = named u y ky l.named;
      }

  pub dated : (u : Update) (p y z c n : ℕ) → Dated key val start m t u p y z c n →
      Dated key val start m' t u p y z c n
  dated u p y z c n d =
      let kp = R.kept p (inr (c, pred_target u y z, d.row_p, d.pend_p)) in
      let ky = R.kept y (inr (c, node_target u y z, d.row_y, d.pend_y)) in
      record {
        row_p = d.row_p;
        row_y = d.row_y;
        pend_p = R.pends p c (pred_target u y z) d.row_p d.pend_p;
        pend_y = R.pends y c (node_target u y z) d.row_y d.pend_y;
        rows_p = kp.row ∙ d.rows_p;
        rows_y = ky.row ∙ d.rows_y;
        carried = d.carried;
        distinct = d.distinct;
      }

  pub owing : (u : Update) (p y z c n : ℕ) → Grip key val start m t u p y → Dated key val start m t u p y z c n →
      Owing key val start m u p y z → Owing key val start m' u p y z
  owing u p y z c n g d o =
      let kp = R.kept p (inl g.lock_p) in
      let ky = R.kept y (inr (c, node_target u y z, d.row_y, d.pend_y)) in
      record {
        pred_in = kp.stays o.pred_in;
        pred_lead = kp.leads ∙ o.pred_lead;
        rise = o.rise;
        target = at_on (pred_target u y z) o.target;
        node_next = ky.plain ∙ o.node_next;
      }

  pub counted : (u : Update) (n : ℕ) → Numbered key val start m t u n → Numbered key val start m' t u n
  counted u n c =
      let same = (R.past n c.in_log).1 in
      let before = (R.past (n - 1) (omega (arith, c.in_log))).1 in
      record {
        it = c.it;
        this = c.this;
        there = same ∙ c.there ∙ ap (λ l. c.it ∷ l) (sym before);
        late = omega (arith, R.since, c.late);
        in_log = omega (arith, R.stamp, c.in_log);
        was = ap (in_set key val start (key_in u)) before ∙ c.was;
      }

  pub ranging : (low high x s : ℕ) (handed : List Pair) → Ranging key val start m t low high x s handed →
      Ranging key val start m' t low high x s handed
  ranging low high x s handed r = record {
    fine = r.fine;
    from_base = r.from_base;
    in_past = omega (arith, R.stamp, r.in_past);
    late = omega (arith, R.since, r.late);
    on = rw (R.past s r.in_past).1 r.on;
    ahead = r.ahead;
    reads = rw (R.past s r.in_past).0 r.reads;
    whole = rw (R.past s r.in_past).1 r.whole;
  }

  -- ---- EVERY PHASE'S FACTS ARE STABLE
  pub stable : (φ : Phase) → Facts key val start m t φ → Facts key val start m' t φ
  stable idle f = tt
  stable (walking op p q) f = (f.0, stand (sought op) p q f.1)
  stable (locking u p q) f = reach u p q f
  stable (locking_curr k p q) f = (reach (remove k) p q f.0, R.locks p f.1, coupled p f.1 f.2)
  stable (checking u p q) f = (reach u p q f.0, grip u p q f.1, sound u p q f.1 f.2)
  stable (preparing u p q) f =
      (reach u p q f.0, grip u p q f.1, sound u p q f.1 f.2, good u p q f.1 f.3, f.4)
  stable (numbering u p y z c) f = (grip u p y f.0, sound u p y f.0 f.1, laid u p y z c f.2)
  stable (linking u p y z c n) f =
      (grip u p y f.0, dated u p y z c n f.1, owing u p y z c n f.0 f.1 f.2, counted u n f.3)
  stable (finishing u p y z c n) f =
      (grip u p y f.0, sound u p y f.0 f.1, dated u p y z c n f.2, counted u n f.3)
  stable (seeking k x) f = (f.0, R.on x f.1, f.2)
  stable (fixing low high p) f = (f.0, R.on p f.1, f.2)
  stable (following low high x s handed) f = ranging low high x s handed f
  stable (handing low high x s handed) f =
      (f.0, f.1, ranging low high x s (handed ++ (entry key val x ∷ [])) f.2)
