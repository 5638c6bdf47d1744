-- The nodes given: they are listed as Prepare gives them, and how many updates have been laid is told by them.
-- In order: the list stays whole; a node whose newest entry leads to the head; counting them; each step; room for
-- entries; the beginning; nodes given one after the other.
-- Two entries are laid for each update, so that this bounds the entries.
-- Assumes nothing.
use mathlib.Core.Path.{◌≡◌, refl, sym, ◌∙◌, ap}
use mathlib.Core.Logic.{inl, inr, ⊎_elim, ◌≢◌}
use mathlib.Core.Bool.{cond}
use mathlib.Core.Option.{some}
use mathlib.Core.List.Memᴰ
use mathlib.Core.List.{List, [], ◌∷◌, ◌++◌, Memᴰ}
use Prim.Native.Nat.{ℕ, zero, suc, ◌+◌, ◌*◌, ◌≤◌, ◌<◌}
use native.Mathlib.Decide.{dec_lt, ℕ_discrete}
use native.Mathlib.Omega.{arith}
use lib.Dec.{eqb}
use lib.ListN.{length}
use borrow.Author.Tests.{ne_eqb}
use Rattle.order.specs.Set.{Update, insert, remove}
use Rattle.order.specs.Rows.{Row, Under, look}
use Rattle.order.specs.History.{head, tail, Start, InOrder, members, linked, rows_from}
use Rattle.order.proofs.Tests.{eqb_cases}
use Rattle.order.proofs.Rows.{some_same, look_newest}
use Rattle.order.proofs.Keeps.{linked_there, link_rises, current}
use Rattle.drawing.specs.Phases.{Phase, preparing}
use Rattle.drawing.specs.Drawing.{change, Owned, final, pending, Drawing, now, beginning}
use Rattle.drawing.specs.Effects.{Effect, stays, holds, leaves, lays, numbers, links, finishes, given_by, after}
use Rattle.drawing.specs.Effects.{two_entries, begun}
use Rattle.drawing.specs.Steps.{Out, Step}
use Rattle.drawing.specs.Steps.{walk_on, walk_arrive, lock_pred, lock_curr, check_again, check_present}
use Rattle.drawing.specs.Steps.{check_absent, check_pass, prepare_full, prepare_insert, prepare_remove}
use Rattle.drawing.specs.Steps.{number_it, link_it, finish_it, seek_on, seek_present, seek_absent, fix_it}
use Rattle.drawing.specs.Steps.{follow_on, follow_in, follow_end, hand_out}
use Rattle.drawing.proofs.Change.{change_same, pair_cases}
use Rattle.drawing.proofs.Ahead.{Distinct, chain_distinct}
use Rattle.drawing.proofs.Inv.{On, lead, In, Facts, Inv}
use Rattle.drawing.proofs.Owes.{head_least}
use Rattle.drawing.proofs.Room.{Covers, walk_from_head, on_used, pends_used}
use Rattle.drawing.proofs.Shape.{begin_inv}

-- ---- the nodes given stay covered
module _ (key val : ℕ → ℕ) (start : Start) (m : Drawing) (I : Inv key val start m) (given : List ℕ)
    (C : Covers given m) (t : ℕ) where
  its : (φ : Phase) → m.phase t ≡ φ → Facts key val start m t φ
  its φ e = rw e at (I.own.facts t)

  -- two bundles of nodes in use change
  two_covered : (p y : ℕ) (a b : Owned) → m.bundle p ≢ final [] → m.bundle y ≢ final [] → (x : ℕ) → x ≢ head →
      change (change m.bundle p a) y b x ≢ final [] →
      Memᴰ x given
  two_covered p y a b used_p used_y x x≢head =
      pair_cases (λ o. o ≢ final [] → Memᴰ x given) m.bundle p y a b x
      (λ x≡y _. C x x≢head (rw x≡y used_y)) (λ _ x≡p _. C x x≢head (rw x≡p used_p)) (λ _ _ used. C x x≢head used)

  pub covers_step : {o : Out} {f : Effect} {φ : Phase} → Step key val start t m o f φ →
      Covers (given_by f given) (after start m t f φ)
  covers_step (walk_on op p q e h) = C
  covers_step (walk_arrive op p q e h) = C
  covers_step (lock_pred u p q e l) = C
  covers_step (lock_curr k p q e l) = C
  covers_step (check_again u p q e s) = C
  covers_step (check_present k v p q e g h) = C
  covers_step (check_absent k p q e g h) = C
  covers_step (check_pass u p q e g h) = C
  covers_step (prepare_full k v p q r e b) = C
  covers_step (prepare_insert k v p q r n e bp bn n≢tail nk nv) = λ x x≢head.
      let p_used = on_used key val start m I p (its (preparing (insert k v) p q) e).0.stand.pred_on in
      pair_cases (λ o. o ≢ final [] → Memᴰ x (n ∷ given)) m.bundle p n _ _ x
      (λ x≡n _. Memᴰ.head x≡n) (λ _ x≡p _. Memᴰ.tail (C x x≢head (rw x≡p p_used)))
      (λ _ _ used. Memᴰ.tail (C x x≢head used))
  covers_step (prepare_remove k p q r r₂ e bp bq) =
      let F = its (preparing (remove k) p q) e in
      let on : On start m q = ⊎_elim (λ o. o) (λ z. absurd (omega (arith, ap key z, F.0.fine, F.4)))
      F.0.stand.curr_at in
      two_covered p q _ _ (on_used key val start m I p F.0.stand.pred_on) (on_used key val start m I q on)
  covers_step (number_it u p y z c e) = C
  covers_step (link_it u p y z c n e) = C
  covers_step (finish_it u p y z c n r r₂ e bp by) =
      two_covered p y _ _ (pends_used key val start m I t p c _ r bp) (pends_used key val start m I t y c _ r₂ by)
  covers_step (seek_on k x q e answer h) = C
  covers_step (seek_present k x q e answer h) = C
  covers_step (seek_absent k x q e answer h) = C
  covers_step (fix_it low high p e) = C
  covers_step (follow_on low high x s q handed e answer h) = C
  covers_step (follow_in low high x s q handed e answer h k) = C
  covers_step (follow_end low high x s q handed e answer h k) = C
  covers_step (hand_out low high x s handed e) = C

-- at the beginning the starting nodes are given
linked_mem : (base p x : ℕ) (ns : List ℕ) → x ≢ p → linked base p (ns ++ (tail ∷ [])) x ≢ [] → Memᴰ x ns
unfolding linked
linked_mem base p x [] x≢p used = absurd (used (linked_there base p tail x [] x≢p))
linked_mem base p x (n ∷ ns) x≢p used = elim (ℕ_discrete x n) [
  | yes x≡n ↦ Memᴰ.head x≡n
  | no x≢n ↦ Memᴰ.tail (linked_mem base n x ns x≢n
      (λ e. used (linked_there base p n x (ns ++ (tail ∷ [])) x≢p ∙ e)))
]

pub covers_beginning : (start : Start) → Covers start.loaded (beginning start)
unfolding beginning
covers_beginning start x x≢head used =
    linked_mem start.base head x start.loaded x≢head (λ e. used (ap final e))

-- ---- a node whose newest entry leads to the head: its remove has been laid
unfoldable pub back : Owned → ℕ
back (final []) = 0
back (final (pair ∷ r)) = cond (eqb pair.1 head) 1 0
back (pending w c g r) = cond (eqb g head) 1 0

back_one : (b : Owned) → back b ≤ 1
unfolding back
back_one (final []) = omega arith
back_one (final (pair ∷ r)) = eqb_cases (λ n. n ≤ 1) pair.1 head 1 0 (λ _. omega arith) (λ _. omega arith)
back_one (pending w c g r) = eqb_cases (λ n. n ≤ 1) g head 1 0 (λ _. omega arith) (λ _. omega arith)

back_pending : (w c g : ℕ) (r : Row) → g ≢ head → back (pending w c g r) ≡ 0
unfolding back
back_pending w c g r g≢head = rw (ne_eqb g head g≢head)

back_head : (w c : ℕ) (r : Row) → back (pending w c head r) ≡ 1
unfolding back
back_head w c r = refl

-- Finish leaves it as it was
back_finish : (w c n g : ℕ) (r : Row) → back (final ((n, g) ∷ r)) ≡ back (pending w c g r)
unfolding back
back_finish w c n g r = refl

-- ---- counting them
abbrev pub backs : (ℕ → Owned) → List ℕ → ℕ
backs b [] = 0
backs b (x ∷ l) = back (b x) + backs b l

pub backs_most : (b : ℕ → Owned) (l : List ℕ) → backs b l ≤ length l
backs_most b [] = omega arith
backs_most b (x ∷ l) = omega (arith, back_one (b x), backs_most b l)

backs_same : (b b' : ℕ → Owned) (l : List ℕ) → ((x : ℕ) → Memᴰ x l → back (b' x) ≡ back (b x)) →
    backs b' l ≡ backs b l
backs_same b b' [] same = refl
backs_same b b' (x ∷ l) same =
    omega (arith, same x (Memᴰ.head refl), backs_same b b' l (λ y m. same y (Memᴰ.tail m)))

-- one more
backs_more : (b b' : ℕ → Owned) (q : ℕ) (l : List ℕ) → Distinct l → Memᴰ q l → back (b q) ≡ 0 →
    back (b' q) ≡ 1 → ((x : ℕ) → x ≢ q → back (b' x) ≡ back (b x)) → backs b' l ≡ suc (backs b l)
backs_more b b' q [] d m was is same = absurd (Memᴰ.not-nil m)
backs_more b b' q (x ∷ l) d m was is same = ⊎_elim
    (λ q≡x. omega (
      arith,
      was,
      is,
      ap (λ y. back (b y)) q≡x,
      ap (λ y. back (b' y)) q≡x,
      backs_same b b' l (λ y k. same y (λ y≡q. d.0 (rw (y≡q ∙ q≡x) at k))),
    ))
    (λ k. omega (arith, same x (λ x≡q. d.0 (rw x≡q k)), backs_more b b' q l d.1 k was is same))
    (Memᴰ.cases_cons m)

backs_less : (b : ℕ → Owned) (q : ℕ) (l : List ℕ) → Memᴰ q l → back (b q) ≡ 0 → backs b l < length l
backs_less b q [] m was = absurd (Memᴰ.not-nil m)
backs_less b q (x ∷ l) m was = ⊎_elim
    (λ q≡x. omega (arith, was, ap (λ y. back (b y)) q≡x, backs_most b l))
    (λ k. omega (arith, back_one (b x), backs_less b q l k was)) (Memᴰ.cases_cons m)

-- ---- how many updates have been laid: each node given was laid by an insert or is a starting one
abbrev pub laid : Drawing → List ℕ → ℕ
laid m given = length given + backs m.bundle given

-- how many a step lays
abbrev pub laid_by : Effect → ℕ
laid_by stays = 0
laid_by (holds x) = 0
laid_by leaves = 0
laid_by (lays u p y z r r₂) = 1
laid_by (numbers u p y z) = 0
laid_by (links u p y z) = 0
laid_by (finishes u p y z n r r₂) = 0

pending_used : (w c g : ℕ) (r : Row) → pending w c g r ≢ final []
pending_used w c g r e = let z : ◌≡◌ {A = ℕ} 0 1 = cc in omega arith

final_used : (pair : ℕ × ℕ) (r : Row) → final (pair ∷ r) ≢ final []
final_used pair r e = let z : ◌≡◌ {A = ℕ} 0 1 = cc in omega arith

-- the nodes given, each once, and each in use
pub record Listed (given : List ℕ) (m : Drawing) : Type 0 where
  pub covers : Covers given m
  pub distinct : Distinct given
  pub used : (x : ℕ) → Memᴰ x given → m.bundle x ≢ final []

module _ (key val : ℕ → ℕ) (start : Start) (m : Drawing) (I : Inv key val start m) where
  -- a link out of the set leads on, not to the head
  leads_on : (x z : ℕ) → In key val start m x → lead start m x ≡ some z → z ≢ head
  leads_on x z i link e = omega (
    arith,
    ap key e,
    head_least key start m.rows m.log I.hist x i,
    link_rises key start m.rows m.log I.hist x z i link,
  )

  newest_on : (x z : ℕ) (r : Row) → m.rows x ≡ r → lead start m x ≡ some z → z ≢ head → back (final r) ≡ 0
  unfolding back
  newest_on x z [] e link z≢head = refl
  newest_on x z (pair ∷ r) e link z≢head =
      let u : Under (suc (now start m)) (pair ∷ r) = rw e at (I.hist.under x) in
      let newest = ap (look (now start m)) e ∙ look_newest (now start m) (pair ∷ r) u in
      rw (ne_eqb pair.1 head (λ h. z≢head (some_same (sym newest ∙ link) refl ∙ h)))

  back_on : (x z : ℕ) (r : Row) → m.bundle x ≡ final r → In key val start m x → lead start m x ≡ some z →
      back (m.bundle x) ≡ 0
  back_on x z r b i link = rw b (newest_on x z r (I.own.settled x r b) link (leads_on x z i link))

  module _ (given : List ℕ) (L : Listed given m) (t : ℕ) where
    facts : (φ : Phase) → m.phase t ≡ φ → Facts key val start m t φ
    facts φ e = rw e at (I.own.facts t)

    -- at Prepare pred leads to curr, and so to no head
    pred_back : (u : Update) (p q : ℕ) (r : Row) → m.phase t ≡ preparing u p q → m.bundle p ≡ final r →
        (back (m.bundle p) ≡ 0) × (q ≢ head)
    pred_back u p q r e b =
        let F = facts (preparing u p q) e in
        let d = F.2.pred F.0.stand.pred_on F.3.0 in
        let link : lead start m p ≡ some q = d.1 ∙ ap some F.3.1 in
        (back_on p q r b d.0 link, leads_on p q d.0 link)

    -- and a remove's curr leads on
    curr_back : (k p q : ℕ) (r₂ : Row) → m.phase t ≡ preparing (remove k) p q → m.bundle q ≡ final r₂ →
        (back (m.bundle q) ≡ 0) × (m.plain q ≢ head) × On start m q
    curr_back k p q r₂ e b =
        let F = facts (preparing (remove k) p q) e in
        let on : On start m q = ⊎_elim (λ o. o) (λ z. absurd (omega (arith, ap key z, F.0.fine, F.4)))
        F.0.stand.curr_at in
        let d = F.2.node on F.3.2 in
        (back_on q (m.plain q) r₂ b d.0 d.1, leads_on q (m.plain q) d.0 d.1, on)

    curr_given : (k p q : ℕ) (r r₂ : Row) → m.phase t ≡ preparing (remove k) p q → m.bundle p ≡ final r →
        m.bundle q ≡ final r₂ → Memᴰ q given
    curr_given k p q r r₂ e bp bq = L.covers q (pred_back (remove k) p q r e bp).1
        (on_used key val start m I q (curr_back k p q r₂ e bq).2)

    -- ---- A REMOVE'S PREPARE HAS ROOM: fewer updates than two a node have been laid
    pub remove_room_ways : (k p q : ℕ) (r r₂ : Row) → m.phase t ≡ preparing (remove k) p q → m.bundle p ≡ final r →
        m.bundle q ≡ final r₂ → laid m given < 2 * length given
    remove_room_ways k p q r r₂ e bp bq = omega (
      arith,
      backs_less m.bundle q given (curr_given k p q r r₂ e bp bq) (curr_back k p q r₂ e bq).0,
    )

    -- an insert lays one: the new node is one more, and neither entry leads to the head
    insert_lays : (k v p q n : ℕ) (r : Row) (c : ℕ) → m.phase t ≡ preparing (insert k v) p q →
        m.bundle p ≡ final r → m.bundle n ≡ final [] →
        backs (two_entries m.bundle p (pending t c n r) n (pending t c q [])) (n ∷ given) ≡ backs m.bundle given
    insert_lays k v p q n r c e bp bn =
        let d = pred_back (insert k v) p q r e bp in
        let n≢head : n ≢ head = λ z. on_used key val start m I head (inl refl) (rw z at bn) in
        let b' = two_entries m.bundle p (pending t c n r) n (pending t c q []) in
        let new : back (b' n) ≡ 0 = ap back (change_same _ n _) ∙ back_pending t c q [] d.1 in
        omega (
          arith,
          new,
          backs_same m.bundle b' given
              (λ x k. pair_cases (λ o. back o ≡ back (m.bundle x)) m.bundle p n _ _ x
              (λ x≡n. absurd (L.used x k (ap m.bundle x≡n ∙ bn)))
              (λ _ x≡p. back_pending t c n r n≢head ∙ sym (ap (λ y. back (m.bundle y)) x≡p ∙ d.0)) (λ _ _. refl)),
        )

    -- a remove lays one: curr leads to the head from then on
    remove_lays : (k p q : ℕ) (r r₂ : Row) (c : ℕ) → m.phase t ≡ preparing (remove k) p q →
        m.bundle p ≡ final r → m.bundle q ≡ final r₂ →
        backs (two_entries m.bundle p (pending t c (m.plain q) r) q (pending t c head r₂)) given
        ≡ suc (backs m.bundle given)
    remove_lays k p q r r₂ c e bp bq =
        let d = pred_back (remove k) p q r e bp in
        let f = curr_back k p q r₂ e bq in
        backs_more m.bundle (two_entries m.bundle p (pending t c (m.plain q) r) q (pending t c head r₂)) q given
        L.distinct (curr_given k p q r r₂ e bp bq) f.0 (ap back (change_same _ q _) ∙ back_head t c r₂)
        (λ x x≢q. pair_cases (λ o. back o ≡ back (m.bundle x)) m.bundle p q _ _ x (λ x≡q. absurd (x≢q x≡q))
        (λ _ x≡p. back_pending t c (m.plain q) r f.1 ∙ sym (ap (λ y. back (m.bundle y)) x≡p ∙ d.0))
        (λ _ _. refl))

    -- Finish lays none
    finish_lays : (p y c g g₂ n : ℕ) (r r₂ : Row) → m.bundle p ≡ pending t c g r → m.bundle y ≡ pending t c g₂ r₂ →
        backs (two_entries m.bundle p (final ((n, g) ∷ r)) y (final ((n, g₂) ∷ r₂))) given ≡ backs m.bundle given
    finish_lays p y c g g₂ n r r₂ bp by =
        backs_same m.bundle (two_entries m.bundle p (final ((n, g) ∷ r)) y (final ((n, g₂) ∷ r₂))) given
        (λ x _. pair_cases (λ o. back o ≡ back (m.bundle x)) m.bundle p y _ _ x
        (λ x≡y. back_finish t c n g₂ r₂ ∙ sym (ap (λ z. back (m.bundle z)) x≡y ∙ ap back by))
        (λ _ x≡p. back_finish t c n g r ∙ sym (ap (λ z. back (m.bundle z)) x≡p ∙ ap back bp)) (λ _ _. refl))

    -- ---- EACH STEP LAYS WHAT IT SAYS
    pub laid_step : {o : Out} {f : Effect} {φ : Phase} → Step key val start t m o f φ →
        laid (after start m t f φ) (given_by f given) ≡ laid m given + laid_by f
    laid_step (walk_on op p q e h) = omega arith
    laid_step (walk_arrive op p q e h) = omega arith
    laid_step (lock_pred u p q e l) = omega arith
    laid_step (lock_curr k p q e l) = omega arith
    laid_step (check_again u p q e s) = omega arith
    laid_step (check_present k v p q e g h) = omega arith
    laid_step (check_absent k p q e g h) = omega arith
    laid_step (check_pass u p q e g h) = omega arith
    laid_step (prepare_full k v p q r e b) = omega arith
    laid_step (prepare_insert k v p q r n e bp bn n≢tail nk nv) =
        omega (arith, insert_lays k v p q n r (now start m) e bp bn)
    laid_step (prepare_remove k p q r r₂ e bp bq) = omega (arith, remove_lays k p q r r₂ (now start m) e bp bq)
    laid_step (number_it u p y z c e) = omega arith
    laid_step (link_it u p y z c n e) = omega arith
    laid_step (finish_it u p y z c n r r₂ e bp by) = omega (arith, finish_lays p y c _ _ n r r₂ bp by)
    laid_step (seek_on k x q e answer h) = omega arith
    laid_step (seek_present k x q e answer h) = omega arith
    laid_step (seek_absent k x q e answer h) = omega arith
    laid_step (fix_it low high p e) = omega arith
    laid_step (follow_on low high x s q handed e answer h) = omega arith
    laid_step (follow_in low high x s q handed e answer h k) = omega arith
    laid_step (follow_end low high x s q handed e answer h k) = omega arith
    laid_step (hand_out low high x s handed e) = omega arith

    -- ---- and leaves the nodes given listed
    two_used : (p y : ℕ) (a b : Owned) → a ≢ final [] → b ≢ final [] → (x : ℕ) → m.bundle x ≢ final [] →
        two_entries m.bundle p a y b x ≢ final []
    two_used p y a b a_used b_used x used =
        pair_cases (λ o. o ≢ final []) m.bundle p y a b x (λ _. b_used) (λ _ _. a_used) (λ _ _. used)

    quietly : (φ : Phase) → Listed given (after start m t stays φ)
    quietly φ = record { covers = L.covers; distinct = L.distinct; used = L.used }

    listed_two : (m' : Drawing) (p y : ℕ) (a b : Owned) → m'.bundle ≡ two_entries m.bundle p a y b →
        a ≢ final [] → b ≢ final [] → Covers given m' → Listed given m'
    listed_two m' p y a b same a_used b_used C = record {
      covers = C;
      distinct = L.distinct;
      used = λ x k. rw same (two_used p y a b a_used b_used x (L.used x k));
    }

    listed_new : (k v p q n : ℕ) (r : Row) (φ : Phase) → m.bundle n ≡ final [] →
        Covers (n ∷ given) (after start m t (lays (insert k v) p n q r []) φ) →
        Listed (n ∷ given) (after start m t (lays (insert k v) p n q r []) φ)
    listed_new k v p q n r φ bn C = record {
      covers = C;
      distinct = (λ k. L.used n k bn, L.distinct);
      used = λ x k. pair_cases (λ o. o ≢ final []) m.bundle p n _ _ x
          (λ _. pending_used t _ _ _) (λ _ _. pending_used t _ _ _)
          (λ x≢n _. L.used x (⊎_elim (λ z. absurd (x≢n z)) (λ a. a) (Memᴰ.cases_cons k)));
    }

    pub listed_step : {o : Out} {f : Effect} {φ : Phase} → Step key val start t m o f φ →
        Listed (given_by f given) (after start m t f φ)
    listed_step (walk_on op p q e h) = quietly _
    listed_step (walk_arrive op p q e h) = quietly _
    listed_step (lock_pred u p q e l) = record { covers = L.covers; distinct = L.distinct; used = L.used }
    listed_step (lock_curr k p q e l) = record { covers = L.covers; distinct = L.distinct; used = L.used }
    listed_step (check_again u p q e s) = record { covers = L.covers; distinct = L.distinct; used = L.used }
    listed_step (check_present k v p q e g h) =
        record { covers = L.covers; distinct = L.distinct; used = L.used }
    listed_step (check_absent k p q e g h) = record { covers = L.covers; distinct = L.distinct; used = L.used }
    listed_step (check_pass u p q e g h) = quietly _
    listed_step (prepare_full k v p q r e b) = record { covers = L.covers; distinct = L.distinct; used = L.used }
    listed_step (prepare_insert k v p q r n e bp bn n≢tail nk nv) =
        listed_new k v p q n r _ bn (covers_step key val start m I given L.covers t
        (prepare_insert k v p q r n e bp bn n≢tail nk nv))
    listed_step (prepare_remove k p q r r₂ e bp bq) =
        listed_two _ p q _ _ refl (pending_used t _ _ _) (pending_used t _ _ _)
        (covers_step key val start m I given L.covers t (prepare_remove k p q r r₂ e bp bq))
    listed_step (number_it u p y z c e) = record { covers = L.covers; distinct = L.distinct; used = L.used }
    listed_step (link_it u p y z c n e) = record { covers = L.covers; distinct = L.distinct; used = L.used }
    listed_step (finish_it u p y z c n r r₂ e bp by) =
        listed_two _ p y _ _ refl (final_used _ _) (final_used _ _)
        (covers_step key val start m I given L.covers t (finish_it u p y z c n r r₂ e bp by))
    listed_step (seek_on k x q e answer h) = quietly _
    listed_step (seek_present k x q e answer h) = quietly _
    listed_step (seek_absent k x q e answer h) = quietly _
    listed_step (fix_it low high p e) = quietly _
    listed_step (follow_on low high x s q handed e answer h) = quietly _
    listed_step (follow_in low high x s q handed e answer h k) = quietly _
    listed_step (follow_end low high x s q handed e answer h k) = quietly _
    listed_step (hand_out low high x s handed e) = quietly _

-- ---- ROOM FOR ENTRIES: at most two updates a node have been laid
pub laid_room : (m : Drawing) (given : List ℕ) → laid m given ≤ 2 * length given
laid_room m given = omega (arith, backs_most m.bundle given)

-- ---- at a start nothing is laid, and at the beginning one for each starting node
pub listed_start : (start : Start) (m : Drawing) (given : List ℕ) → Listed given m → (t : ℕ) (φ : Phase) →
    Listed given (begun start m t φ)
listed_start start m given L t φ = record { covers = L.covers; distinct = L.distinct; used = L.used }

none_back : (b : ℕ → Owned) (l : List ℕ) → ((x : ℕ) → Memᴰ x l → back (b x) ≡ 0) → backs b l ≡ 0
none_back b [] none_of = refl
none_back b (x ∷ l) none_of =
    omega (arith, none_of x (Memᴰ.head refl), none_back b l (λ y k. none_of y (Memᴰ.tail k)))

module _ (key val : ℕ → ℕ) (start : Start) (in_order : InOrder key start) where
  abbrev I₀ : Inv key val start (beginning start)
  I₀ = begin_inv key val start in_order

  loaded_given : (x : ℕ) → Memᴰ x start.loaded → On start (beginning start) x
  unfolding beginning
  loaded_given x k = inr (inl k)

  loaded_distinct : Distinct start.loaded
  unfolding members beginning
  loaded_distinct = chain_distinct key _ head start.loaded
      (walk_from_head key start _ [] (current key start (rows_from start) [] I₀.hist))

  pub listed_beginning : Listed start.loaded (beginning start)
  listed_beginning = record {
    covers = covers_beginning start;
    distinct = loaded_distinct;
    used = λ x k. on_used key val start (beginning start) I₀ x (loaded_given x k);
  }

  loaded_on : (x : ℕ) → Memᴰ x start.loaded → back ((beginning start).bundle x) ≡ 0
  unfolding beginning
  loaded_on x k =
      let d = I₀.own.free x refl (loaded_given x k) refl in
      back_on key val start (beginning start) I₀ x _ (rows_from start x) refl d.0 d.1

  pub laid_beginning : laid (beginning start) start.loaded ≡ length start.loaded
  laid_beginning = omega (arith, none_back (beginning start).bundle start.loaded loaded_on)

-- ---- nodes given one after the other from 2 on, the newest in front
abbrev pub nodes_of : ℕ → List ℕ
nodes_of zero = []
nodes_of (suc n) = (n + 2) ∷ nodes_of n

pub nodes_length : (n : ℕ) → length (nodes_of n) ≡ n
nodes_length zero = refl
nodes_length (suc n) = ap suc (nodes_length n)

pub nodes_mem : (x n : ℕ) → 2 ≤ x → x < n + 2 → Memᴰ x (nodes_of n)
nodes_mem x zero 2≤x x<n = absurd (omega arith)
nodes_mem x (suc n) 2≤x x<n = elim (ℕ_discrete x (n + 2)) [
  | yes e ↦ Memᴰ.head e
  | no e ↦ Memᴰ.tail (nodes_mem x n 2≤x (omega arith))
]

pub mem_nodes : (x n : ℕ) → Memᴰ x (nodes_of n) → (2 ≤ x) × (x < n + 2)
mem_nodes x zero k = absurd (Memᴰ.not-nil k)
mem_nodes x (suc n) k = ⊎_elim (λ e. (omega (arith, e), omega (arith, e)))
    (λ j. let r = mem_nodes x n j in (r.0, omega (arith, r.1))) (Memᴰ.cases_cons k)

-- they are all that is in use, if no node from there on has an entry
pub nodes_cover : (key val : ℕ → ℕ) (start : Start) (m : Drawing) → Inv key val start m → (n : ℕ) →
    ((x : ℕ) → n + 2 ≤ x → m.bundle x ≡ final []) → Covers (nodes_of n) m
nodes_cover key val start m I n beyond x x≢head used = nodes_mem x n (above x x≢head used) (under x used)
  where
    under : (y : ℕ) → m.bundle y ≢ final [] → y < n + 2
    under y y_used = elim (dec_lt y (n + 2)) [
      | yes h ↦ h
      | no h ↦ absurd (y_used (beyond y (omega arith)))
    ]

    above : (y : ℕ) → y ≢ head → m.bundle y ≢ final [] → 2 ≤ y
    above y y≢head y_used = elim (ℕ_discrete y tail) [
      | yes e ↦ absurd (y_used (rw e I.own.ends))
      | no e ↦ omega arith
    ]
