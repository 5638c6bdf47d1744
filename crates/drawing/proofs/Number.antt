-- Number keeps the list's own: the log has one update more, and two effective rows have one pair more.
-- In order: what an insert and a remove show each in its way; what both grant.
-- Not here: the history, which is kept because Number may number (Owes). Assumes nothing.
use mathlib.Core.Path.{◌≡◌, refl, sym, ◌∙◌, ap}
use mathlib.Core.Logic.{◌⊎◌, inl, inr, ⊎_elim, ⊎_map, ◌≢◌}
use mathlib.Core.Option.{none, some}
use mathlib.Core.List.Memᴰ
use mathlib.Core.List.{[], ◌∷◌, Memᴰ}
use Prim.Native.Nat.{ℕ, suc, ◌-◌, ◌<◌}
use native.Mathlib.Decide.{ℕ_discrete}
use native.Mathlib.Omega.{arith}
use Rattle.order.specs.Set.{Update, insert, remove}
use Rattle.order.specs.Rows.{Row}
use Rattle.order.specs.History.{head, tail, next, number, Logged, rem, Start, up_to, Given, said, members}
use Rattle.order.proofs.Rows.{none_some, some_same, Relinked, number_old, number_row, number_rows, number_links}
use Rattle.order.proofs.Sets.{put_keeps, put_new, cut_keeps}
use Rattle.order.proofs.Chains.{chain_split, by_key}
use Rattle.order.proofs.Steps.{given_more, given_ins, given_rem}
use Rattle.order.proofs.Keeps.{up_to_old, up_to_all, stamp_next, current}
use Rattle.order.proofs.Near.{link_between, set_lacks, set_has}
use Rattle.drawing.specs.Phases.{Phase, numbering, linking, key_in, pred_target, node_target, logged}
use Rattle.drawing.specs.Drawing.{final, pending, Drawing, now}
use Rattle.drawing.specs.Effects.{numbers, after}
use Rattle.drawing.specs.Answers.{in_set, was_there, Numbered}
use Rattle.drawing.proofs.Change.{change_same, change_other, final_pending, one_owner}
use Rattle.drawing.proofs.Inv.{On, At, lead, Once, In, Coupled, Dated}
use Rattle.drawing.proofs.Inv.{Facts, Inv, Kept, Rely, Grant}
use Rattle.drawing.proofs.Owes.{head_least, below_tail, may_insert, may_remove}

module _ (key val : ℕ → ℕ) (start : Start) (t : ℕ) (m : Drawing) (I : Inv key val start m) where
  abbrev T : ℕ
  T = now start m

  abbrev next_phase : Update → (p y z c : ℕ) → Phase
  next_phase u p y z c = linking u p y z c (suc T)

  abbrev numbered : Update → (p y z c : ℕ) → Drawing
  numbered u p y z c = after start m t (numbers u p y z) (next_phase u p y z c)

  -- ---- what the two kinds show each in its way
  record Kind (u : Update) (p y z c : ℕ) : Type 0 where
    once : Once start (logged u y ∷ m.log)
    stays : (x : ℕ) → x ≢ y → In key val start m x → In key val start (numbered u p y z c) x
    unnamed : (x : ℕ) → x ≢ y → On start (numbered u p y z c) x → On start m x
    unlocked : (w x : ℕ) → w ≢ t → m.lock x ≡ some w → x ≢ y
    free_y : m.lock y ≡ none → In key val start (numbered u p y z c) y × (node_target u y z ≡ z)
    rise : key p < key (pred_target u y z)
    target : At start (numbered u p y z c) (pred_target u y z)
    this : said key val (logged u y) ≡ u
    was : in_set key val start (key_in u) m.log ≡ was_there u

  on_more : (w : Logged) (x : ℕ) → On start m x → (x ≡ head) ⊎ Given start x (w ∷ m.log)
  on_more w x = ⊎_map (λ e. e) (given_more start x x m.log w)

  insert_kind : (k v p y z c : ℕ) → Facts key val start m t (numbering (insert k v) p y z c) →
      Kind (insert k v) p y z c
  unfolding members
  insert_kind k v p y z c F =
      let may = may_insert key val start t m I k v p y z c F in
      let out = F.2.named.0 in
      let k≡ : key y ≡ k = F.2.named.1 in
      let v≡ : val y ≡ v = F.2.named.2 in
      let new : (x : ℕ) → Memᴰ x (members key start m.log) → key x ≢ key y =
      λ x a e. omega (
        arith,
        e,
        F.2.low,
        F.2.up,
        link_between key start m.rows m.log I.hist p z may.pred_in may.leads x a
            (omega (arith, e, F.2.low)),
      ) in
      record {
        once = (λ g. out (inl (inr g)), I.own.once);
        stays = λ x n i. ⊎_elim Memᴰ.head
            (λ a. Memᴰ.tail (put_keeps key x y (members key start m.log) a)) (Memᴰ.cases_cons i);
        unnamed = λ x n o. ⊎_elim inl
            (λ g. ⊎_elim (λ e. absurd (n e)) inr (given_ins start x y m.log g)) o;
        unlocked = λ w x n l e. out (rw e at (I.own.held w x l).1);
        free_y = λ _. (Memᴰ.tail (put_new key y (members key start m.log) new), refl);
        rise = F.2.low;
        target = inl (inr (inr (Memᴰ.head refl)));
        this = rw (k≡, v≡);
        was = set_lacks key start m.rows m.log I.hist p z may.pred_in may.leads val k
            (omega (arith, F.2.low)) (omega (arith, F.2.up));
      }

  remove_kind : (k p y z c : ℕ) → Facts key val start m t (numbering (remove k) p y z c) → Kind (remove k) p y z c
  unfolding members
  remove_kind k p y z c F =
      let may = may_remove key val start t m I k p y z c F in
      let least = head_least key start m.rows m.log I.hist p may.pred_in in
      let y≢head : y ≢ head = λ e. omega (arith, ap key e, F.2.low, least) in
      let snap = current key start m.rows m.log I.hist in
      let chain = (chain_split key (next m.rows T) head (members key start m.log) (tail ∷ []) snap.walk).0 in
      record {
        once = (
          ⊎_elim (λ e. absurd (y≢head e)) (λ g. g) F.2.named.0,
          λ r. omega (arith, ap key (some_same may.leads_on (snap.gone y r)), F.2.low, F.2.up, least),
          I.own.once,
        );
        stays = λ x n i. ⊎_elim Memᴰ.head
            (λ b. Memᴰ.tail (cut_keeps key x (key y) (members key start m.log)
            (λ e. n (by_key key (next m.rows T) head x y (members key start m.log) chain b may.curr_in e)) b))
            (Memᴰ.cases_cons i);
        unnamed = λ x n o. ⊎_map (λ e. e) (given_rem start x y m.log) o;
        unlocked = λ w x n l e. n (some_same (rw e at l) F.0.lock_y);
        free_y = λ l. none_some (m.lock y) t l F.0.lock_y;
        rise = omega (arith, F.2.low, F.2.up);
        target = ⊎_map (on_more (rem y) z) (λ e. e) F.2.behind;
        this = ap remove F.2.named.1;
        was = set_has key start m.rows m.log I.hist p y may.pred_in may.leads val k F.2.named.1
            (omega (
              arith,
              F.2.named.1,
              below_tail key start m.rows m.log I.hist y (Memᴰ.tail may.curr_in),
            ));
      }

  kind : (u : Update) (p y z c : ℕ) → Facts key val start m t (numbering u p y z c) → Kind u p y z c
  kind (insert k v) p y z c F = insert_kind k v p y z c F
  kind (remove k) p y z c F = remove_kind k p y z c F

  -- ---- what both grant
  module _ (u : Update) (p y z c : ℕ) (F : Facts key val start m t (numbering u p y z c)) (K : Kind u p y z c) where
    abbrev m' : Drawing
    m' = numbered u p y z c

    abbrev rows' : ℕ → Row
    rows' = number m.rows (suc T) p (pred_target u y z) y (node_target u y z)

    p≢y : p ≢ y
    p≢y e = omega (arith, ap key e, F.2.low)

    stamp' : now start m' ≡ suc T
    stamp' = stamp_next start (logged u y) m.log

    relinked : Relinked (next m.rows T) (next rows' (suc T)) p (pred_target u y z) y (node_target u y z)
    relinked = number_links m.rows T p (pred_target u y z) y (node_target u y z) p≢y I.hist.under

    -- where links lead after it
    lead' : (x q : ℕ) → next rows' (suc T) x ≡ some q → lead start m' x ≡ some q
    lead' x q e = ap (λ s. next rows' s x) stamp' ∙ e

    -- which nodes are not the two
    other_lock : (w x : ℕ) → w ≢ t → m.lock x ≡ some w → (x ≢ p) × (x ≢ y)
    other_lock w x n l = (λ e. n (some_same (rw e at l) F.0.lock_p), K.unlocked w x n l)

    other_pend : (w x a g : ℕ) (r : Row) → w ≢ t → m.bundle x ≡ pending w a g r → (x ≢ p) × (x ≢ y)
    other_pend w x a g r n b = (
      λ e. n (one_owner (m.bundle p) w a g r t c _ _ (rw e at b) F.2.pend_p),
      λ e. n (one_owner (m.bundle y) w a g r t c _ _ (rw e at b) F.2.pend_y),
    )

    on : (x : ℕ) → On start m x → On start m' x
    on = on_more (logged u y)

    at_on : (x : ℕ) → At start m x → At start m' x
    at_on x = ⊎_map (on x) (λ e. e)

    kept : (x : ℕ) → (x ≢ p) × (x ≢ y) → Kept key val start m m' x
    kept x n = record {
      plain = refl;
      gone = refl;
      row = number_row m.rows T p (pred_target u y z) y (node_target u y z) x n.0 n.1;
      leads = ap (λ s. next rows' s x) stamp' ∙ relinked.rest x n.0 n.1;
      stays = K.stays x n.1;
      unnamed = K.unnamed x n.1;
    }

    rely : (w : ℕ) → w ≢ t → Rely key val start w m m'
    rely w n = record {
      since = refl;
      stamp = omega (arith, stamp');
      on = on;
      locks = λ x l. l;
      pends = λ x a g r b. b;
      kept = λ x mine. kept x (⊎_elim (other_lock w x n) (λ b. other_pend w x b.0 b.1 b.2 n b.3) mine);
      past = λ s h. (
        number_old m.rows T p (pred_target u y z) y (node_target u y z) s h,
        up_to_old start s (logged u y) m.log h,
      );
    }

    -- the updates before it
    before : up_to start (suc T - 1) m'.log ≡ m.log
    before = up_to_old start (suc T - 1) (logged u y) m.log (omega arith)
        ∙ up_to_all start (suc T - 1) m.log (omega arith)

    counted : Numbered key val start m' t u (suc T)
    counted = record {
      it = logged u y;
      this = K.this;
      there = up_to_all start (suc T) m'.log (omega (arith, stamp')) ∙ ap (λ l. logged u y ∷ l) (sym before);
      late = omega (arith, (I.own.begun t).1);
      in_log = omega (arith, stamp');
      was = ap (in_set key val start (key_in u)) before ∙ K.was;
    }

    dated : Dated key val start m' t u p y z c (suc T)
    dated =
        let both = number_rows m.rows T p (pred_target u y z) y (node_target u y z) p≢y in
        record {
          row_p = m.rows p;
          row_y = m.rows y;
          pend_p = F.2.pend_p;
          pend_y = F.2.pend_y;
          rows_p = both.0;
          rows_y = both.1;
          carried = omega (arith, F.2.carried);
          distinct = p≢y;
        }

    number_free : (x : ℕ) → m.lock x ≡ none → Coupled key val start m' x
    number_free x l o g = elim (ℕ_discrete x y) [
      | yes e ↦ let a = K.free_y (rw e at l) in
          rw e (a.0, lead' y (node_target u y z) relinked.two ∙ ap some (a.1 ∙ sym F.2.node_next))
      | no n ↦ let k = kept x (λ e. none_some (m.lock p) t (rw e at l) F.0.lock_p, n) in
          let d = I.own.free x l (k.unnamed o) g in (k.stays d.0, k.leads ∙ d.1)
    ]

    number_links_up : (x : ℕ) → On start m' x → (key x < key (m.plain x)) × At start m' (m.plain x)
    number_links_up x o = elim (ℕ_discrete x y) [
      | yes e ↦ rw (e, F.2.node_next) (F.2.up, at_on z F.2.behind)
      | no n ↦ let d = I.own.links x (K.unnamed x n o) in (d.0, at_on (m.plain x) d.1)
    ]

    not_final : (x : ℕ) (r : Row) → m.bundle x ≡ final r → (x ≢ p) × (x ≢ y)
    not_final x r b = (
      λ e. final_pending (m.bundle p) t c _ r _ (rw e at b) F.2.pend_p,
      λ e. final_pending (m.bundle y) t c _ r _ (rw e at b) F.2.pend_y,
    )

    number_facts : Facts key val start m' t (next_phase u p y z c)
    number_facts = (
      record { lock_p = F.0.lock_p; lock_y = F.0.lock_y },
      dated,
      record {
        pred_in = K.stays p p≢y (F.1.pred F.2.pred_on F.2.pred_gone).0;
        pred_lead = lead' p (pred_target u y z) relinked.one;
        rise = K.rise;
        target = K.target;
        node_next = F.2.node_next;
      },
      counted,
    )

    number_grant : m.phase t ≡ numbering u p y z c → Grant key val start t m m'
    number_grant e = record {
      others = rely;
      apart = λ w n. record {
        phase = change_other m.phase t _ w n;
        locks = λ x l. l;
        pends = λ x a g r b. b;
      };
      once = K.once;
      links = number_links_up;
      free = number_free;
      held = λ x l. let a = I.own.held t x l in
          (rw (change_same m.phase t (next_phase u p y z c)) (rw e at a.0), at_on x a.1);
      settled = λ x r b. (kept x (not_final x r b)).row ∙ I.own.settled x r b;
      owned = λ x a g r b. rw (change_same m.phase t (next_phase u p y z c)) (rw e at (I.own.owned t x a g r b));
      ends = I.own.ends;
      begun = ((I.own.begun t).0, omega (arith, (I.own.begun t).1, stamp'));
      facts = rw (change_same m.phase t (next_phase u p y z c)) number_facts;
    }

  pub number_grants : (u : Update) (p y z c : ℕ) → m.phase t ≡ numbering u p y z c →
      Grant key val start t m (after start m t (numbers u p y z) (linking u p y z c (suc (now start m))))
  number_grants u p y z c e =
      let F : Facts key val start m t (numbering u p y z c) = rw e at (I.own.facts t) in
      number_grant u p y z c F (kind u p y z c F) e
