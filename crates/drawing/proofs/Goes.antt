-- Nothing is stuck: each busy session waits or has a step, and never both.
-- In order: cases; what a wait is for; Check; has's Follow; a range's Follow; every session; never both.
-- Not here: that not all wait. Assumes nothing.
use mathlib.Core.Path.{◌≡◌, refl, sym, ◌∙◌, ap}
use mathlib.Core.Logic.{◌⊎◌, inl, inr, ⊎_elim, ⊎_map}
use mathlib.Core.Bool.{Bool, true, false}
use mathlib.Core.Option.{Option, none, some}
use mathlib.Core.List.{List, [], ◌∷◌}
use Prim.Native.Nat.{ℕ, ◌<◌}
use native.Mathlib.Decide.{dec_le, dec_lt, ℕ_discrete}
use native.Mathlib.Omega.{arith}
use Rattle.order.specs.Set.{Pair, Update, insert, remove}
use Rattle.order.specs.Rows.{Row, newest, Seen, wait, found, read_at, read_newest}
use Rattle.order.specs.History.{next, Start}
use Rattle.order.proofs.Tests.{ltb_cases}
use Rattle.order.proofs.Rows.{some_same}
use Rattle.order.proofs.Rules.{wait_found}
use Rattle.order.proofs.Near.{row_given}
use Rattle.drawing.specs.Phases.{sought, Phase, idle, walking, locking, locking_curr, checking, preparing}
use Rattle.drawing.specs.Phases.{numbering, linking, finishing, seeking, fixing, following, handing}
use Rattle.drawing.specs.Drawing.{Owned, final, pending, shown, Drawing}
use Rattle.drawing.specs.Effects.{Effect}
use Rattle.drawing.specs.Steps.{Out, Held, Free, Stale, Step, Pending, WaitsIn, Waits, walk_on, walk_arrive}
use Rattle.drawing.specs.Steps.{lock_pred, lock_curr, check_again, check_present, check_absent, check_pass}
use Rattle.drawing.specs.Steps.{prepare_full, prepare_insert, prepare_remove, number_it, link_it, finish_it}
use Rattle.drawing.specs.Steps.{seek_on, seek_present, seek_absent, fix_it, follow_on, follow_in, follow_end}
use Rattle.drawing.specs.Steps.{hand_out}
use Rattle.drawing.proofs.Ahead.{ahead_link}
use Rattle.drawing.proofs.Inv.{On, Facts, Inv}
use Rattle.drawing.proofs.Keeps.{read_right}

-- ---- cases
gone_cases : (b : Bool) → (b ≡ true) ⊎ (b ≡ false)
gone_cases true = inl refl
gone_cases false = inr refl

pub lock_cases : (t : ℕ) (o : Option ℕ) → Free t o ⊎ Held t o
lock_cases t none = inl (λ w e. let z : ◌≡◌ {A = ℕ} 0 1 = cc in absurd (omega arith))
lock_cases t (some w) = elim (ℕ_discrete w t) [
  | yes w≡t ↦ inl (λ u e. some_same e refl ∙ w≡t)
  | no w≢t ↦ inr (w, refl, w≢t)
]

-- the newest is pending, or all are final
pub bundle_cases : (b : Owned) → ((r : Row) × (b ≡ final r)) ⊎ (read_newest (shown b) ≡ wait)
unfolding read_newest
bundle_cases (final r) = inl (r, refl)
bundle_cases (pending w c g r) = inr refl

seen_cases : (o : Seen) → (o ≡ wait) ⊎ ((q : Option ℕ) × (o ≡ found q))
seen_cases wait = inl refl
seen_cases (found q) = inr (q, refl)

-- ---- what a wait is for: B4, any pending entry; B3, one that carries less than the snapshot
pub newest_wait : (b : Owned) → read_newest (shown b) ≡ wait → (w c g : ℕ) × (r : Row) × (b ≡ pending w c g r)
unfolding read_newest
newest_wait (final r) e = wait_found (sym e)
newest_wait (pending w c g r) e = (w, c, g, r, refl)

older : (s w c g : ℕ) (r : Row) → read_at s (shown (pending w c g r)) ≡ wait → c < s
unfolding read_at
older s w c g r = ltb_cases (λ seen. seen ≡ wait → c < s) c s _ _ (λ c<s _. c<s) (λ _ e. wait_found (sym e))

pub read_wait : (s : ℕ) (b : Owned) → read_at s (shown b) ≡ wait →
    (w c g : ℕ) × (r : Row) × (b ≡ pending w c g r) × (c < s)
unfolding read_at
read_wait s (final r) e = wait_found (sym e)
read_wait s (pending w c g r) e = (w, c, g, r, refl, older s w c g r e)

-- ---- a final newest entry is found
pub newest_final : (r : Row) → read_newest (shown (final r)) ≡ found (newest r)
unfolding read_newest
newest_final r = refl

module _ (key val : ℕ → ℕ) (start : Start) (m : Drawing) where
  abbrev pub Goes : ℕ → Type 0
  Goes t = (o : Out) × (f : Effect) × (φ : Phase) × Step key val start t m o f φ

  module _ (I : Inv key val start m) (t : ℕ) where
    its : (φ : Phase) → m.phase t ≡ φ → Facts key val start m t φ
    its φ e = rw e at (I.own.facts t)

    -- ---- Check
    check_goes : (u : Update) (p q : ℕ) → m.phase t ≡ checking u p q → Goes t
    check_goes u p q e = ⊎_elim (λ g. stale (inl g)) (λ g. elim (ℕ_discrete (m.plain p) q) [
      | no n ↦ stale (inr (inl n))
      | yes n ↦ met u e g n
    ]) (gone_cases (m.gone p))
      where
        stale : Stale m u p q → Goes t
        stale s = (_, _, _, check_again u p q e s)

        met : (w : Update) → m.phase t ≡ checking w p q → m.gone p ≡ false → m.plain p ≡ q → Goes t
        met (insert k v) e g n = elim (ℕ_discrete (key q) k) [
          | yes h ↦ (_, _, _, check_present k v p q e (g, n, tt) h)
          | no h ↦ (_, _, _, check_pass (insert k v) p q e (g, n, tt) h)
        ]
        met (remove k) e g n = ⊎_elim (λ a. (_, _, _, check_again (remove k) p q e (inr (inr (k, refl, a)))))
            (λ a. elim (ℕ_discrete (key q) k) [
              | yes h ↦ (_, _, _, check_pass (remove k) p q e (g, n, a) h)
              | no h ↦ (_, _, _, check_absent k p q e (g, n, a) h)
            ]) (gone_cases (m.gone q))

    -- ---- the bundle of a given node is not empty, so there is a newest entry
    pub newest_found : (x : ℕ) (r : Row) → On start m x → m.bundle x ≡ final r →
        (q : ℕ) × (read_newest (shown (m.bundle x)) ≡ found (some q))
    newest_found x [] on b = absurd (row_given key start m.rows m.log I.hist x on (I.own.settled x [] b))
    newest_found x (pair ∷ r) on b = (pair.1, rw b (newest_final (pair ∷ r)))

    seek_goes : (k x q : ℕ) → m.phase t ≡ seeking k x → read_newest (shown (m.bundle x)) ≡ found (some q) → Goes t
    seek_goes k x q e answer = elim (dec_lt (key q) k) [
      | yes h ↦ (_, _, _, seek_on k x q e answer h)
      | no h ↦ elim (ℕ_discrete (key q) k) [
        | yes a ↦ (_, _, _, seek_present k x q e answer a)
        | no a ↦ (_, _, _, seek_absent k x q e answer (omega arith))
      ]
    ]

    -- ---- from Fix on there is an entry to take, or a wait is due
    pub follow_finds : (low high x s : ℕ) (handed : List Pair) → m.phase t ≡ following low high x s handed →
        (read_at s (shown (m.bundle x)) ≡ wait)
        ⊎ ((q : ℕ) × (read_at s (shown (m.bundle x)) ≡ found (some q)))
    follow_finds low high x s handed e =
        let F = its (following low high x s handed) e in
        let d = ahead_link key (next m.rows s) high x F.ahead F.reads in
        ⊎_map (λ w. w)
        (λ f. (d.0, f.1 ∙ ap found (sym (read_right key val start m I s x f.0 f.1) ∙ d.1)))
        (seen_cases (read_at s (shown (m.bundle x))))

    follow_goes : (low high x s q : ℕ) (handed : List Pair) → m.phase t ≡ following low high x s handed →
        read_at s (shown (m.bundle x)) ≡ found (some q) → Goes t
    follow_goes low high x s q handed e answer = elim (dec_lt (key q) low) [
      | yes h ↦ (_, _, _, follow_on low high x s q handed e answer h)
      | no h ↦ elim (dec_le (key q) high) [
        | yes k ↦ (_, _, _, follow_in low high x s q handed e answer (omega arith) k)
        | no k ↦ (_, _, _, follow_end low high x s q handed e answer (omega arith) (omega arith))
      ]
    ]

    -- ---- EVERY BUSY SESSION GOES OR WAITS
    goes_in : (φ : Phase) → m.phase t ≡ φ → (φ ≡ idle) ⊎ (WaitsIn t m φ ⊎ Goes t)
    goes_in idle e = inl refl
    goes_in (walking op p q) e = inr (inr (elim (dec_lt (key q) (sought op)) [
      | yes h ↦ (_, _, _, walk_on op p q e h)
      | no h ↦ (_, _, _, walk_arrive op p q e (omega arith))
    ]))
    goes_in (locking u p q) e =
        inr (⊎_elim (λ l. inr (_, _, _, lock_pred u p q e l)) inl (lock_cases t (m.lock p)))
    goes_in (locking_curr k p q) e =
        inr (⊎_elim (λ l. inr (_, _, _, lock_curr k p q e l)) inl (lock_cases t (m.lock q)))
    goes_in (checking u p q) e = inr (inr (check_goes u p q e))
    goes_in (preparing (insert k v) p q) e =
        inr (⊎_elim (λ b. inr (_, _, _, prepare_full k v p q b.0 e b.1)) (λ b. inl (inl b))
        (bundle_cases (m.bundle p)))
    goes_in (preparing (remove k) p q) e = inr (⊎_elim
        (λ b. ⊎_elim (λ a. inr (_, _, _, prepare_remove k p q b.0 a.0 e b.1 a.1))
        (λ a. inl (inr (k, refl, a))) (bundle_cases (m.bundle q)))
        (λ b. inl (inl b)) (bundle_cases (m.bundle p)))
    goes_in (numbering u p y z c) e = inr (inr (_, _, _, number_it u p y z c e))
    goes_in (linking u p y z c n) e = inr (inr (_, _, _, link_it u p y z c n e))
    goes_in (finishing u p y z c n) e =
        let F = its (finishing u p y z c n) e in
        inr (inr (_, _, _, finish_it u p y z c n F.2.row_p F.2.row_y e F.2.pend_p F.2.pend_y))
    goes_in (seeking k x) e = inr (⊎_elim
        (λ b. let d = newest_found x b.0 (its (seeking k x) e).1 b.1 in inr (seek_goes k x d.0 e d.1))
        inl (bundle_cases (m.bundle x)))
    goes_in (fixing low high p) e = inr (inr (_, _, _, fix_it low high p e))
    goes_in (following low high x s handed) e = inr (⊎_elim inl
        (λ a. inr (follow_goes low high x s a.0 handed e a.1)) (follow_finds low high x s handed e))
    goes_in (handing low high x s handed) e = inr (inr (_, _, _, hand_out low high x s handed e))

    pub goes_or_waits : (m.phase t ≡ idle) ⊎ (Waits t m ⊎ Goes t)
    goes_or_waits = goes_in (m.phase t) refl

  -- ---- NEVER BOTH: who waits has no step
  no_final : (x : ℕ) (r : Row) → m.bundle x ≡ final r → ¬ Pending m x
  no_final x r b waits = wait_found (sym waits ∙ ap (λ o. read_newest (shown o)) b ∙ newest_final r)

  insert_remove : (k v j : ℕ) → insert k v ≡ remove j → ⊥
  insert_remove k v j e = let z : ◌≡◌ {A = ℕ} 0 1 = cc in absurd (omega arith)

  remove_waits : (k p q : ℕ) (r r₂ : Row) → m.bundle p ≡ final r → m.bundle q ≡ final r₂ → (t : ℕ) →
      ¬ WaitsIn t m (preparing (remove k) p q)
  remove_waits k p q r r₂ bp bq t = ⊎_elim (no_final p r bp) (λ d. no_final q r₂ bq d.2)

  insert_waits : (k v p q : ℕ) (r : Row) → m.bundle p ≡ final r → (t : ℕ) → ¬ WaitsIn t m (preparing (insert k v) p q)
  insert_waits k v p q r bp t = ⊎_elim (no_final p r bp) (λ d. insert_remove k v d.0 d.1)

  pub waits_no_step : (t : ℕ) {o : Out} {f : Effect} {φ : Phase} → Step key val start t m o f φ → ¬ Waits t m
  waits_no_step t (walk_on op p q e h) w = rw e at w
  waits_no_step t (walk_arrive op p q e h) w = rw e at w
  waits_no_step t (lock_pred u p q e l) w = let d : Held t (m.lock p) = rw e at w in d.2 (l d.0 d.1)
  waits_no_step t (lock_curr k p q e l) w = let d : Held t (m.lock q) = rw e at w in d.2 (l d.0 d.1)
  waits_no_step t (check_again u p q e s) w = rw e at w
  waits_no_step t (check_present k v p q e g h) w = rw e at w
  waits_no_step t (check_absent k p q e g h) w = rw e at w
  waits_no_step t (check_pass u p q e g h) w = rw e at w
  waits_no_step t (prepare_full k v p q r e b) w = insert_waits k v p q r b t (rw e at w)
  waits_no_step t (prepare_insert k v p q r n e bp bn n≢tail nk nv) w = insert_waits k v p q r bp t (rw e at w)
  waits_no_step t (prepare_remove k p q r r₂ e bp bq) w = remove_waits k p q r r₂ bp bq t (rw e at w)
  waits_no_step t (number_it u p y z c e) w = rw e at w
  waits_no_step t (link_it u p y z c n e) w = rw e at w
  waits_no_step t (finish_it u p y z c n r r₂ e bp by) w = rw e at w
  waits_no_step t (seek_on k x q e answer h) w = let d : Pending m x = rw e at w in wait_found (sym d ∙ answer)
  waits_no_step t (seek_present k x q e answer h) w = let d : Pending m x = rw e at w in wait_found (sym d ∙ answer)
  waits_no_step t (seek_absent k x q e answer h) w = let d : Pending m x = rw e at w in wait_found (sym d ∙ answer)
  waits_no_step t (fix_it low high p e) w = rw e at w
  waits_no_step t (follow_on low high x s q handed e answer h) w =
      let d : read_at s (shown (m.bundle x)) ≡ wait = rw e at w in wait_found (sym d ∙ answer)
  waits_no_step t (follow_in low high x s q handed e answer h k) w =
      let d : read_at s (shown (m.bundle x)) ≡ wait = rw e at w in wait_found (sym d ∙ answer)
  waits_no_step t (follow_end low high x s q handed e answer h k) w =
      let d : read_at s (shown (m.bundle x)) ≡ wait = rw e at w in wait_found (sym d ∙ answer)
  waits_no_step t (hand_out low high x s handed e) w = rw e at w
