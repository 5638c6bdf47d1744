-- From a step's grants to what the list keeps of its own; and the steps that change no more than locks.
-- In order: putting it together; quiet steps in general; only the phase; one lock more; leaving; a start.
-- `leave_step` is the one lemma of leaving: walk again, present, absent, full (and later a withdrawal).
-- Assumes nothing.
use mathlib.Core.Path.{◌≡◌, refl}
use mathlib.Core.Logic.{◌⊎◌, inl, inr, ⊎_elim, ⊎_map, ◌≢◌}
use mathlib.Core.Option.{Option, none, some}
use Prim.Native.Nat.{ℕ, ◌≤◌}
use native.Mathlib.Decide.{ℕ_discrete}
use native.Mathlib.Omega.{arith}
use Rattle.order.specs.History.{Start}
use Rattle.order.proofs.Rows.{none_some, some_same}
use Rattle.drawing.specs.Phases.{Phase}
use Rattle.drawing.specs.Drawing.{change, release, Drawing, now}
use Rattle.drawing.specs.Effects.{stays, holds, leaves, after, begun}
use Rattle.drawing.proofs.Change.{change_cases, change_same, change_other}
use Rattle.drawing.proofs.Change.{without_none, without_some, without_other}
use Rattle.drawing.proofs.Inv.{At, Holds, Pends, Coupled, Facts, Own, Inv, Rely, Grant}
use Rattle.drawing.proofs.Stable.{stable}

module _ (key val : ℕ → ℕ) (start : Start) (t : ℕ) (m : Drawing) (I : Inv key val start m) where
  -- ---- others keep their facts by what they rely on; the rest is granted
  pub assemble : (m' : Drawing) → Grant key val start t m m' → Own key val start m'
  assemble m' G = record {
    once = G.once;
    links = G.links;
    free = G.free;
    settled = G.settled;
    ends = G.ends;
    held = λ w x l. elim (ℕ_discrete w t) [
      | yes e ↦ rw e (G.held x (rw e at l))
      | no n ↦ let h = I.own.held w x ((G.apart w n).locks x l) in
          (rw (G.apart w n).phase h.0, ⊎_map ((G.others w n).on x) (λ e. e) h.1)
    ];
    owned = λ w x c g r b. elim (ℕ_discrete w t) [
      | yes e ↦ rw e (G.owned x c g r (rw e at b))
      | no n ↦ rw (G.apart w n).phase (I.own.owned w x c g r ((G.apart w n).pends x c g r b))
    ];
    begun = λ w. elim (ℕ_discrete w t) [
      | yes e ↦ rw e G.begun
      | no n ↦ let b = I.own.begun w in let s = (G.others w n).since in
          (omega (arith, s, b.0), omega (arith, s, b.1, (G.others w n).stamp))
    ];
    facts = λ w. elim (ℕ_discrete w t) [
      | yes e ↦ rw e G.facts
      | no n ↦ rw (G.apart w n).phase (stable key val start w m m' (G.others w n) (m.phase w) (I.own.facts w))
    ];
  }

  -- ---- a step that changes the phase of `t`, locks and `since` alone
  module _ (φ : Phase) (lock' : ℕ → Option ℕ) (since' : ℕ → ℕ) where
    abbrev quiet : Drawing
    quiet = record {
      plain = m.plain;
      lock = lock';
      gone = m.gone;
      bundle = m.bundle;
      log = m.log;
      rows = m.rows;
      phase = change m.phase t φ;
      since = since';
    }

    pub quiet_rely : (w : ℕ) → since' w ≡ m.since w → ((x : ℕ) → m.lock x ≡ some w → lock' x ≡ some w) →
        Rely key val start w m quiet
    quiet_rely w same l = record {
      since = same;
      stamp = omega arith;
      on = λ x o. o;
      locks = l;
      pends = λ x c g r b. b;
      kept = λ x _. record { plain = refl; gone = refl; row = refl; leads = refl; stays = λ i. i; unnamed = λ o. o };
      past = λ s _. (refl, refl);
    }

    quiet_step : ((w : ℕ) → w ≢ t → since' w ≡ m.since w) →
        ((w x : ℕ) → w ≢ t → m.lock x ≡ some w → lock' x ≡ some w) →
        ((w x : ℕ) → w ≢ t → lock' x ≡ some w → m.lock x ≡ some w) →
        ((x : ℕ) → lock' x ≡ none → Coupled key val start m x) →
        ((x : ℕ) → lock' x ≡ some t → Holds φ x × At start m x) →
        ((x : ℕ) → Pends (m.phase t) x → Pends φ x) →
        (start.base ≤ since' t) × (since' t ≤ now start m) →
        Facts key val start quiet t φ → Grant key val start t m quiet
    quiet_step since locks locks' free held pends begun F = record {
      others = λ w n. quiet_rely w (since w n) (λ x. locks w x n);
      apart = λ w n. record {
        phase = change_other m.phase t φ w n;
        locks = λ x. locks' w x n;
        pends = λ x c g r e. e;
      };
      once = I.own.once;
      links = I.own.links;
      free = free;
      held = λ x e. rw (change_same m.phase t φ) (held x e);
      settled = I.own.settled;
      owned = λ x c g r e. rw (change_same m.phase t φ) (pends x (I.own.owned t x c g r e));
      ends = I.own.ends;
      begun = begun;
      facts = rw (change_same m.phase t φ) F;
    }

  module _ (φ₀ φ : Phase) (e : m.phase t ≡ φ₀) (pends : (x : ℕ) → Pends φ₀ x → Pends φ x) where
    -- ---- only the phase
    pub stay_step : ((x : ℕ) → Holds φ₀ x → Holds φ x) → Facts key val start (after start m t stays φ) t φ →
        Grant key val start t m (after start m t stays φ)
    stay_step h F = quiet_step φ m.lock m.since (λ w _. refl) (λ w x _ l. l) (λ w x _ l. l) I.own.free
        (λ x l. let a = I.own.held t x l in (h x (rw e at a.0), a.1)) (rw e pends) (I.own.begun t) F

    -- ---- one lock more
    pub hold_step : (y : ℕ) → m.lock y ≡ none → At start m y → ((x : ℕ) → (x ≡ y) ⊎ Holds φ₀ x → Holds φ x) →
        Facts key val start (after start m t (holds y) φ) t φ → Grant key val start t m (after start m t (holds y) φ)
    hold_step y l a h F = quiet_step φ (change m.lock y (some t)) m.since (λ w _. refl)
        (λ w x n k. change_cases (λ o. o ≡ some w) m.lock y (some t) x
        (λ z. none_some (m.lock y) w l (rw z at k)) (λ _. k))
        (λ w x n. change_cases (λ o. o ≡ some w → m.lock x ≡ some w) m.lock y (some t) x
        (λ _ z. absurd (n (some_same z refl))) (λ _ k. k))
        (λ x. change_cases (λ o. o ≡ none → Coupled key val start m x) m.lock y (some t) x
        (λ _ z. none_some (some t) t z refl) (λ _ k. I.own.free x k))
        (λ x. change_cases (λ o. o ≡ some t → Holds φ x × At start m x) m.lock y (some t) x
        (λ z _. (h x (inl z), rw z a)) (λ _ k. let b = I.own.held t x k in (h x (inr (rw e at b.0)), b.1)))
        (rw e pends) (I.own.begun t) F

    -- ---- leaving: no lock any more
    pub leave_step : ((x : ℕ) → Holds φ₀ x → Coupled key val start m x) →
        Facts key val start (after start m t leaves φ) t φ → Grant key val start t m (after start m t leaves φ)
    leave_step c F = quiet_step φ (release t m.lock) m.since (λ w _. refl)
        (λ w x n k. without_other t (m.lock x) w n k)
        (λ w x n k. (without_some t (m.lock x) w k).0)
        (λ x k. ⊎_elim (I.own.free x) (λ l. c x (rw e at (I.own.held t x l).0)) (without_none t (m.lock x) k))
        (λ x k. absurd ((without_some t (m.lock x) t k).1 refl))
        (rw e pends) (I.own.begun t) F

    -- ---- a start: no lock is held
    pub begin_step : ((x : ℕ) → Holds φ₀ x → ⊥) → Facts key val start (begun start m t φ) t φ →
        Grant key val start t m (begun start m t φ)
    begin_step h F = quiet_step φ m.lock (change m.since t (now start m))
        (λ w n. change_other m.since t (now start m) w n)
        (λ w x _ l. l) (λ w x _ l. l) I.own.free
        (λ x l. absurd (h x (rw e at (I.own.held t x l).0))) (rw e pends)
        (rw (change_same m.since t (now start m)) (omega arith, omega arith)) F
