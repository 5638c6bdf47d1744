-- Every start and every step of every session keeps what the list keeps of its own; and reading answers from the
-- effective rows.
-- In order: bounds of keys; effective rows; rules B3 and B4; where links lead; Walk and Lock; a range's steps; all.
-- Not here: the history after a step (Shape). Assumes nothing.
use mathlib.Core.Path.{◌≡◌, refl, sym, ◌∙◌, ap}
use mathlib.Core.Logic.{◌⊎◌, inl, inr, ⊎_elim, ⊎_map, ◌≢◌}
use mathlib.Core.Option.{Option, none, some}
use mathlib.Core.List.{List, [], ◌∷◌, ◌++◌, map, append_assoc}
use Prim.Native.Nat.{ℕ, ◌≤◌, ◌<◌}
use native.Mathlib.Omega.{arith}
use borrow.Author.Tests.{lt-ltb, le-ltb, le-leb}
use Rattle.order.specs.Set.{Pair, within, Update, insert, remove}
use Rattle.order.specs.Rows.{Row, found, read_at, read_newest, Effective}
use Rattle.order.specs.History.{head, tail, next, Start, up_to, Given, entry}
use Rattle.order.proofs.Keeps.{up_to_all}
use Rattle.order.proofs.Rules.{read_at_right, read_newest_now}
use Rattle.order.proofs.Frame.{members_given}
use Rattle.drawing.specs.Phases.{Op, upd, has, range, key_in, sought, pred_target, node_target}
use Rattle.drawing.specs.Phases.{Phase, idle, walking, locking, locking_curr, checking, preparing, numbering}
use Rattle.drawing.specs.Phases.{linking, finishing, seeking, fixing, following, handing, arrived, locked}
use Rattle.drawing.specs.Drawing.{change, Owned, final, pending, shown, Drawing, now}
use Rattle.drawing.specs.Effects.{stays, holds, Effect, after, begun}
use Rattle.drawing.specs.Steps.{Out, Free, Fine, Starts, starts, Step, walk_on, walk_arrive, lock_pred}
use Rattle.drawing.specs.Steps.{lock_curr, check_again, check_present, check_absent, check_pass, prepare_full}
use Rattle.drawing.specs.Steps.{prepare_insert, prepare_remove, number_it, link_it, finish_it, seek_on}
use Rattle.drawing.specs.Steps.{seek_present, seek_absent, fix_it, follow_on, follow_in, follow_end, hand_out}
use Rattle.drawing.proofs.Change.{change_cases, change_same}
use Rattle.drawing.proofs.Ahead.{ahead_on, fixed, snap_target}
use Rattle.drawing.proofs.Inv.{On, At, lead, Holds, Pends, Stand, Dated, Ranging, Facts, Own, Inv}
use Rattle.drawing.proofs.Inv.{Rely, Grant}
use Rattle.drawing.proofs.Stable
use Rattle.drawing.proofs.Quiet.{assemble, quiet_rely, stay_step, hold_step, leave_step, begin_step}
use Rattle.drawing.proofs.Prepare.{insert_grants, remove_grants}
use Rattle.drawing.proofs.Number.{number_grants}
use Rattle.drawing.proofs.Link.{held_sound, link_grants, finish_grants}

module _ (key val : ℕ → ℕ) where
  -- ---- the key sought is between the head's and the tail's
  pub low_bound : (op : Op) → Fine key val op → key head < sought op
  low_bound (upd u) f = f.0
  low_bound (has k) f = f.0
  low_bound (range low high) f = f.0

  pub high_bound : (op : Op) → Fine key val op → sought op < key tail
  high_bound (upd u) f = f.1
  high_bound (has k) f = f.1
  high_bound (range low high) f = omega (arith, f.1, f.2)

  module _ (start : Start) (m : Drawing) (I : Inv key val start m) where
    -- ---- a pending entry counts from its Number on: what a bundle shows has this effective row
    dated_row : (w x c g : ℕ) (r : Row) (u : Update) (p y z c₂ n : ℕ) → m.bundle x ≡ pending w c g r →
        Dated key val start m w u p y z c₂ n → (x ≡ p) ⊎ (x ≡ y) → Effective (shown (pending w c g r)) (m.rows x)
    dated_row w x c g r u p y z c₂ n b d (inl x≡p) =
        let h : pending w c₂ (pred_target u y z) d.row_p ≡ pending w c g r = sym d.pend_p ∙ (rw x≡p at b) in
        let e₁ : c₂ ≡ c = cc in
        let e₂ : pred_target u y z ≡ g = cc in
        let e₃ : d.row_p ≡ r = cc in
        inr (n, omega (arith, d.carried), ap m.rows x≡p ∙ d.rows_p ∙ rw (e₂, e₃))
    dated_row w x c g r u p y z c₂ n b d (inr x≡y) =
        let h : pending w c₂ (node_target u y z) d.row_y ≡ pending w c g r = sym d.pend_y ∙ (rw x≡y at b) in
        let e₁ : c₂ ≡ c = cc in
        let e₂ : node_target u y z ≡ g = cc in
        let e₃ : d.row_y ≡ r = cc in
        inr (n, omega (arith, d.carried), ap m.rows x≡y ∙ d.rows_y ∙ rw (e₂, e₃))

    pending_row : (w x c g : ℕ) (r : Row) (φ : Phase) → m.bundle x ≡ pending w c g r → Facts key val start m w φ →
        Pends φ x → Effective (shown (pending w c g r)) (m.rows x)
    pending_row w x c g r idle b F h = absurd h
    pending_row w x c g r (walking op p q) b F h = absurd h
    pending_row w x c g r (locking u p q) b F h = absurd h
    pending_row w x c g r (locking_curr k p q) b F h = absurd h
    pending_row w x c g r (checking u p q) b F h = absurd h
    pending_row w x c g r (preparing u p q) b F h = absurd h
    pending_row w x c g r (numbering u p y z c₂) b F (inl x≡p) =
        let h : pending w c₂ (pred_target u y z) (m.rows p) ≡ pending w c g r = sym F.2.pend_p ∙ (rw x≡p at b) in
        let e : m.rows p ≡ r = cc in
        inl (ap m.rows x≡p ∙ e)
    pending_row w x c g r (numbering u p y z c₂) b F (inr x≡y) =
        let h : pending w c₂ (node_target u y z) (m.rows y) ≡ pending w c g r = sym F.2.pend_y ∙ (rw x≡y at b) in
        let e : m.rows y ≡ r = cc in
        inl (ap m.rows x≡y ∙ e)
    pending_row w x c g r (linking u p y z c₂ n) b F h = dated_row w x c g r u p y z c₂ n b F.1 h
    pending_row w x c g r (finishing u p y z c₂ n) b F h = dated_row w x c g r u p y z c₂ n b F.2 h
    pending_row w x c g r (seeking k y) b F h = absurd h
    pending_row w x c g r (fixing low high p) b F h = absurd h
    pending_row w x c g r (following low high y s handed) b F h = absurd h
    pending_row w x c g r (handing low high y s handed) b F h = absurd h

    pub effective : (x : ℕ) → Effective (shown (m.bundle x)) (m.rows x)
    effective x = go (m.bundle x) refl
      where
        go : (b : Owned) → m.bundle x ≡ b → Effective (shown b) (m.rows x)
        go (final r) e = I.own.settled x r e
        go (pending w c g r) e = pending_row w x c g r (m.phase w) e (I.own.facts w) (I.own.owned w x c g r e)

    -- ---- rules B3 and B4
    pub read_right : (s x : ℕ) (o : Option ℕ) → read_at s (shown (m.bundle x)) ≡ found o → next m.rows s x ≡ o
    read_right s x o answer = read_at_right s (shown (m.bundle x)) (m.rows x) o (effective x) answer

    pub newest_right : (x : ℕ) (o : Option ℕ) → read_newest (shown (m.bundle x)) ≡ found o → lead start m x ≡ o
    newest_right x o answer =
        read_newest_now (now start m) (shown (m.bundle x)) (m.rows x) o (I.hist.under x) (effective x) answer

    -- ---- where a link leads at snapshot `s`, from the head or a node given by then: to such a one, or to the tail
    pub past_target : (s x q : ℕ) → start.base ≤ s → s ≤ now start m →
        (x ≡ head) ⊎ Given start x (up_to start s m.log) → next m.rows s x ≡ some q →
        ((q ≡ head) ⊎ Given start q (up_to start s m.log)) ⊎ (q ≡ tail)
    past_target s x q base≤s s≤now on link = ⊎_elim (λ e. inl (inl e))
        (⊎_elim inr (λ k. inl (inr (members_given key start q (up_to start s m.log) k))))
        (snap_target key start (next m.rows s) (up_to start s m.log) (I.hist.snap s base≤s s≤now) x q on link)

    pub now_target : (x q : ℕ) → On start m x → lead start m x ≡ some q → At start m q
    now_target x q on link =
        let all = up_to_all start (now start m) m.log (omega arith) in
        rw all at (past_target (now start m) x q (omega arith) (omega arith) (rw all on) link)

    module _ (t : ℕ) where
      -- the phase's facts
      its : (φ : Phase) → m.phase t ≡ φ → Facts key val start m t φ
      its φ e = rw e at (I.own.facts t)

      -- ---- the steps that change phases and locks
      rely_stay : (φ : Phase) → Rely key val start t m (after start m t stays φ)
      rely_stay φ = quiet_rely key val start t m I φ m.lock m.since t refl (λ x l. l)

      rely_hold : (φ : Phase) (y : ℕ) → Rely key val start t m (after start m t (holds y) φ)
      rely_hold φ y = quiet_rely key val start t m I φ (change m.lock y (some t)) m.since t refl
          (λ x l. change_cases (λ o. o ≡ some t) m.lock y (some t) x (λ _. refl) (λ _. l))

      at_head : (op : Op) → Fine key val op → (m' : Drawing) → ((x : ℕ) → On start m x → On start m' x) →
          Stand key val start m' (sought op) head (m.plain head)
      at_head op f m' on = record {
        pred_on = inl refl;
        curr_at = ⊎_map (on (m.plain head)) (λ e. e) (I.own.links head (inl refl)).1;
        below = low_bound op f;
        rise = (I.own.links head (inl refl)).0;
      }

      walk_grants : (op : Op) (p q : ℕ) → m.phase t ≡ walking op p q → key q < sought op →
          Grant key val start t m (after start m t stays (walking op q (m.plain q)))
      walk_grants op p q e h =
          let F = its (walking op p q) e in
          let on : On start m q =
          ⊎_elim (λ a. a) (λ z. absurd (omega (arith, ap key z, high_bound op F.0))) F.1.curr_at in
          stay_step key val start t m I (walking op p q) (walking op q (m.plain q)) e (λ x a. a) (λ x a. a)
          (F.0, record { pred_on = on; curr_at = (I.own.links q on).1; below = h; rise = (I.own.links q on).0 })

      arrive_grants : (op : Op) (p q : ℕ) → m.phase t ≡ walking op p q → sought op ≤ key q →
          Grant key val start t m (after start m t stays (arrived op p q))
      arrive_grants (upd u) p q e h =
          let F = its (walking (upd u) p q) e in
          let s = Stable.stand key val start t m _ (rely_stay _) (key_in u) p q F.1 in
          stay_step key val start t m I (walking (upd u) p q) (locking u p q) e (λ x a. a) (λ x a. a)
          (record { fine = F.0; stand = s; reach = h })
      arrive_grants (has k) p q e h =
          let F = its (walking (has k) p q) e in
          stay_step key val start t m I (walking (has k) p q) (seeking k p) e (λ x a. a) (λ x a. a)
          (F.0, F.1.pred_on, F.1.below)
      arrive_grants (range low high) p q e h =
          let F = its (walking (range low high) p q) e in
          stay_step key val start t m I (walking (range low high) p q) (fixing low high p) e (λ x a. a) (λ x a. a)
          (F.0, F.1.pred_on, F.1.below)

      -- a lock that no other holds is free, if it is not one's own
      unheld : (x : ℕ) → Free t (m.lock x) → ¬ Holds (m.phase t) x → m.lock x ≡ none
      unheld x mine out = go (m.lock x) refl
        where
          go : (o : Option ℕ) → m.lock x ≡ o → o ≡ none
          go none e = refl
          go (some w) e = absurd (out (I.own.held t x (e ∙ ap some (mine w e))).0)

      lock_grants : (u : Update) (p q : ℕ) → m.phase t ≡ locking u p q → m.lock p ≡ none →
          Grant key val start t m (after start m t (holds p) (locked u p q))
      lock_grants (insert k v) p q e l =
          let F = its (locking (insert k v) p q) e in
          hold_step key val start t m I (locking (insert k v) p q) (checking (insert k v) p q) e (λ x a. a) p l
          (inl F.stand.pred_on) (λ x a. ⊎_elim (λ z. z) (λ z. absurd z) a) (
            Stable.reach key val start t m _ (rely_hold _ p) (insert k v) p q F,
            record { lock_p = change_same m.lock p (some t); lock_y = tt },
            record { pred = I.own.free p l; node = tt },
          )
      lock_grants (remove k) p q e l =
          let F = its (locking (remove k) p q) e in
          hold_step key val start t m I (locking (remove k) p q) (locking_curr k p q) e (λ x a. a) p l
          (inl F.stand.pred_on) (λ x a. ⊎_elim (λ z. z) (λ z. absurd z) a) (
            Stable.reach key val start t m _ (rely_hold _ p) (remove k) p q F,
            change_same m.lock p (some t),
            I.own.free p l,
          )

      lock_curr_grants : (k p q : ℕ) → m.phase t ≡ locking_curr k p q → m.lock q ≡ none →
          Grant key val start t m (after start m t (holds q) (checking (remove k) p q))
      lock_curr_grants k p q e l =
          let F = its (locking_curr k p q) e in
          hold_step key val start t m I (locking_curr k p q) (checking (remove k) p q) e (λ x a. a) q l
          F.0.stand.curr_at (λ x a. ⊎_elim inr inl a) (
            Stable.reach key val start t m _ (rely_hold _ q) (remove k) p q F.0,
            record {
              lock_p = (rely_hold (checking (remove k) p q) q).locks p F.1;
              lock_y = change_same m.lock q (some t);
            },
            record { pred = F.2; node = I.own.free q l },
          )

      -- ---- a range's steps
      fix_grants : (low high p : ℕ) → m.phase t ≡ fixing low high p →
          Grant key val start t m (after start m t stays (following low high p (now start m) []))
      fix_grants low high p e =
          let F = its (fixing low high p) e in
          let on : (p ≡ head) ⊎ Given start p (up_to start (now start m) m.log) =
          rw (up_to_all start (now start m) m.log (omega arith)) F.1 in
          let S = fixed key val start (next m.rows (now start m)) (up_to start (now start m) m.log)
          (I.hist.snap (now start m) (omega arith) (omega arith))
          low high F.0.0 F.0.1 F.0.2 p on F.2 in
          stay_step key val start t m I (fixing low high p) (following low high p (now start m) []) e
          (λ x a. a) (λ x a. a) (record {
            fine = F.0;
            from_base = omega arith;
            in_past = omega arith;
            late = (I.own.begun t).1;
            on = on;
            ahead = S.ahead;
            reads = S.reads;
            whole = S.same;
          })

      -- a node read that is not above `high` is not the tail
      read_on : (low high x s q : ℕ) (handed : List Pair) → Ranging key val start m t low high x s handed →
          next m.rows s x ≡ some q → key q ≤ high → (q ≡ head) ⊎ Given start q (up_to start s m.log)
      read_on low high x s q handed F link q≤high =
          ⊎_elim (λ a. a) (λ z. absurd (omega (arith, ap key z, F.fine.2)))
          (past_target s x q F.from_base F.in_past F.on link)

      skips : (low high q : ℕ) (ns : List ℕ) → key q < low → within key low high (q ∷ ns) ≡ within key low high ns
      unfolding within
      skips low high q ns q<low = rw (lt-ltb (key q) low q<low)

      takes : (low high q : ℕ) (ns : List ℕ) → low ≤ key q → key q ≤ high →
          within key low high (q ∷ ns) ≡ q ∷ within key low high ns
      unfolding within
      takes low high q ns low≤q q≤high = rw (le-ltb (key q) low low≤q, le-leb (key q) high q≤high)

      follow_on_grants : (low high x s q : ℕ) (handed : List Pair) → m.phase t ≡ following low high x s handed →
          read_at s (shown (m.bundle x)) ≡ found (some q) → key q < low →
          Grant key val start t m (after start m t stays (following low high q s handed))
      follow_on_grants low high x s q handed e answer q<low =
          let F = its (following low high x s handed) e in
          let link = read_right s x (some q) answer in
          let a = ahead_on key (next m.rows s) high x q F.ahead link (omega (arith, F.fine.1)) F.reads in
          stay_step key val start t m I (following low high x s handed) (following low high q s handed) e
          (λ x a. a) (λ x a. a) (record {
            fine = F.fine;
            from_base = F.from_base;
            in_past = F.in_past;
            late = F.late;
            on = read_on low high x s q handed F link (omega (arith, F.fine.1));
            ahead = a.0;
            reads = a.2;
            whole = ap (λ l. handed ++ map (entry key val) l)
                (sym (ap (within key low high) a.1 ∙ skips low high q a.0 q<low)) ∙ F.whole;
          })

      follow_in_grants : (low high x s q : ℕ) (handed : List Pair) → m.phase t ≡ following low high x s handed →
          read_at s (shown (m.bundle x)) ≡ found (some q) → low ≤ key q → key q ≤ high →
          Grant key val start t m (after start m t stays (handing low high q s handed))
      follow_in_grants low high x s q handed e answer low≤q q≤high =
          let F = its (following low high x s handed) e in
          let link = read_right s x (some q) answer in
          let a = ahead_on key (next m.rows s) high x q F.ahead link q≤high F.reads in
          let rest = map (entry key val) (within key low high a.0) in
          stay_step key val start t m I (following low high x s handed) (handing low high q s handed) e
          (λ x a. a) (λ x a. a) (
            low≤q,
            q≤high,
            record {
              fine = F.fine;
              from_base = F.from_base;
              in_past = F.in_past;
              late = F.late;
              on = read_on low high x s q handed F link q≤high;
              ahead = a.0;
              reads = a.2;
              whole = append_assoc handed (entry key val q ∷ []) rest
                  ∙ ap (λ l. handed ++ map (entry key val) l)
                  (sym (ap (within key low high) a.1 ∙ takes low high q a.0 low≤q q≤high)) ∙ F.whole;
            },
          )

      hand_grants : (low high x s : ℕ) (handed : List Pair) → m.phase t ≡ handing low high x s handed →
          Grant key val start t m (after start m t stays (following low high x s (handed ++ (entry key val x ∷ []))))
      hand_grants low high x s handed e =
          let F = its (handing low high x s handed) e in
          stay_step key val start t m I (handing low high x s handed)
          (following low high x s (handed ++ (entry key val x ∷ []))) e (λ x a. a) (λ x a. a)
          (Stable.ranging key val start t m _ (rely_stay _) low high x s (handed ++ (entry key val x ∷ [])) F.2)

      -- ---- every step
      pub start_grants : {φ : Phase} → Starts key val t m φ → Grant key val start t m (begun start m t φ)
      start_grants (starts op e f) =
          begin_step key val start t m I idle (walking op head (m.plain head)) e (λ x a. a) (λ x a. a)
          (f, at_head op f _ (λ x a. a))

      pub step_grants : {o : Out} {f : Effect} {φ : Phase} → Step key val start t m o f φ →
          Grant key val start t m (after start m t f φ)
      step_grants (walk_on op p q e h) = walk_grants op p q e h
      step_grants (walk_arrive op p q e h) = arrive_grants op p q e h
      step_grants (lock_pred u p q e l) = lock_grants u p q e (unheld p l (λ h. rw e at h))
      step_grants (lock_curr k p q e l) =
          let F = its (locking_curr k p q) e in
          let q≢p : q ≢ p = λ z. omega (arith, ap key z, F.0.stand.rise) in
          lock_curr_grants k p q e (unheld q l (rw e q≢p))
      step_grants (check_again u p q e s) = let F = its (checking u p q) e in
          leave_step key val start t m I (checking u p q) (walking (upd u) head (m.plain head)) e (λ x a. a)
          (λ x. held_sound key val start m u p q x F.2) (F.0.fine, at_head (upd u) F.0.fine _ (λ x a. a))
      step_grants (check_present k v p q e g h) = let F = its (checking (insert k v) p q) e in
          leave_step key val start t m I (checking (insert k v) p q) idle e (λ x a. a)
          (λ x. held_sound key val start m (insert k v) p q x F.2) tt
      step_grants (check_absent k p q e g h) = let F = its (checking (remove k) p q) e in
          leave_step key val start t m I (checking (remove k) p q) idle e (λ x a. a)
          (λ x. held_sound key val start m (remove k) p q x F.2) tt
      step_grants (check_pass u p q e g h) = let F = its (checking u p q) e in
          stay_step key val start t m I (checking u p q) (preparing u p q) e (λ x a. a) (λ x a. a) (
            Stable.reach key val start t m _ (rely_stay _) u p q F.0,
            Stable.grip key val start t m _ (rely_stay _) u p q F.1,
            Stable.sound key val start t m _ (rely_stay _) u p q F.1 F.2,
            g,
            h,
          )
      step_grants (prepare_full k v p q r e b) = let F = its (preparing (insert k v) p q) e in
          leave_step key val start t m I (preparing (insert k v) p q) idle e (λ x a. a)
          (λ x. held_sound key val start m (insert k v) p q x F.2) tt
      step_grants (prepare_insert k v p q r n e bp bn n≢tail n_key n_val) =
          insert_grants key val start t m I k v p q r n e bp bn n≢tail n_key n_val
      step_grants (prepare_remove k p q r r₂ e bp bq) = remove_grants key val start t m I k p q r r₂ e bp bq
      step_grants (number_it u p y z c e) = number_grants key val start t m I u p y z c e
      step_grants (link_it u p y z c n e) = link_grants key val start t m I u p y z c n e
      step_grants (finish_it u p y z c n r r₂ e bp by) =
          finish_grants key val start t m I u p y z c n r r₂ bp by e
      step_grants (seek_on k x q e answer h) = let F = its (seeking k x) e in
          let q_at = now_target x q F.1 (newest_right x (some q) answer) in
          let on = ⊎_elim (λ a. a) (λ z. absurd (omega (arith, ap key z, F.0.1))) q_at in
          stay_step key val start t m I (seeking k x) (seeking k q) e (λ x a. a) (λ x a. a) (F.0, on, h)
      step_grants (seek_present k x q e answer h) =
          stay_step key val start t m I (seeking k x) idle e (λ x a. a) (λ x a. a) tt
      step_grants (seek_absent k x q e answer h) =
          stay_step key val start t m I (seeking k x) idle e (λ x a. a) (λ x a. a) tt
      step_grants (fix_it low high p e) = fix_grants low high p e
      step_grants (follow_on low high x s q handed e answer h) = follow_on_grants low high x s q handed e answer h
      step_grants (follow_in low high x s q handed e answer h k) = follow_in_grants low high x s q handed e answer h k
      step_grants (follow_end low high x s q handed e answer h k) =
          stay_step key val start t m I (following low high x s handed) idle e (λ x a. a) (λ x a. a) tt
      step_grants (hand_out low high x s handed e) = hand_grants low high x s handed e

      -- ---- EVERY START AND EVERY STEP KEEPS THE LIST'S OWN
      pub start_keeps : {φ : Phase} → Starts key val t m φ → Own key val start (begun start m t φ)
      start_keeps s = assemble key val start t m I _ (start_grants s)

      pub step_keeps : {o : Out} {f : Effect} {φ : Phase} → Step key val start t m o f φ →
          Own key val start (after start m t f φ)
      step_keeps s = assemble key val start t m I _ (step_grants s)
