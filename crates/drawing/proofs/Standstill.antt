-- Not all wait: if some session is busy, some session's next step is no wait.
-- In order: who is past Prepare goes; whose pending entry it is goes; who holds a lock goes, or waits for one of a
-- greater key; some session goes.
-- Assumes nothing.
use mathlib.Core.Path.{◌≡◌, ap}
use mathlib.Core.Logic.{◌⊎◌, inl, inr, ⊎_elim, ◌≢◌}
use mathlib.Core.Option.{some}
use Prim.Native.Nat.{ℕ, zero, suc, ◌+◌, ◌≤◌, ◌<◌}
use native.Mathlib.Omega.{arith}
use Rattle.order.specs.History.{tail, Start}
use Rattle.drawing.specs.Phases.{Phase, idle, walking, locking, locking_curr, checking, preparing, numbering}
use Rattle.drawing.specs.Phases.{linking, finishing, seeking, fixing, following, handing}
use Rattle.drawing.specs.Drawing.{Drawing}
use Rattle.drawing.specs.Steps.{Pending, WaitsIn}
use Rattle.drawing.proofs.Inv.{Holds, Pends, Facts, Inv}
use Rattle.drawing.proofs.Goes.{newest_wait, read_wait, Goes, goes_or_waits}

-- ---- who has pending entries does not wait, and is not idle
pends_busy : (φ : Phase) (x : ℕ) → Pends φ x → φ ≢ idle
pends_busy φ x h e = rw e at h

pends_no_wait : (t : ℕ) (m : Drawing) (φ : Phase) (x : ℕ) → Pends φ x → ¬ WaitsIn t m φ
pends_no_wait t m idle x h w = w
pends_no_wait t m (walking op p q) x h w = w
pends_no_wait t m (locking u p q) x h w = h
pends_no_wait t m (locking_curr k p q) x h w = h
pends_no_wait t m (checking u p q) x h w = w
pends_no_wait t m (preparing u p q) x h w = h
pends_no_wait t m (numbering u p y z c) x h w = w
pends_no_wait t m (linking u p y z c n) x h w = w
pends_no_wait t m (finishing u p y z c n) x h w = w
pends_no_wait t m (seeking k y) x h w = h
pends_no_wait t m (fixing low high p) x h w = w
pends_no_wait t m (following low high y s handed) x h w = h
pends_no_wait t m (handing low high y s handed) x h w = w

holds_busy : (φ : Phase) (x : ℕ) → Holds φ x → φ ≢ idle
holds_busy φ x h e = rw e at h

module _ (key val : ℕ → ℕ) (start : Start) (m : Drawing) (I : Inv key val start m) where
  abbrev pub SomeGoes : Type 0
  SomeGoes = (w : ℕ) × Goes key val start m w

  pends_goes : (w x : ℕ) → Pends (m.phase w) x → SomeGoes
  pends_goes w x h = ⊎_elim (λ i. absurd (pends_busy (m.phase w) x h i))
      (⊎_elim (λ a. absurd (pends_no_wait w m (m.phase w) x h a)) (λ g. (w, g)))
      (goes_or_waits key val start m I w)

  -- ---- whose pending entry it is, goes
  pending_goes : (x : ℕ) → Pending m x → SomeGoes
  pending_goes x h =
      let d = newest_wait (m.bundle x) h in pends_goes d.0 x (I.own.owned d.0 x d.1 d.2 d.3 d.4)

  -- ---- who holds the lock of `x` goes, or waits for a lock of a greater key
  unfoldable Further : ℕ → Type 0
  Further x = (q w : ℕ) × (m.lock q ≡ some w) × (key x < key q) × (key x < key tail)

  waits_further : (x w : ℕ) (φ : Phase) → Facts key val start m w φ → Holds φ x → WaitsIn w m φ → SomeGoes ⊎ Further x
  unfolding Further
  waits_further x w idle F h a = absurd a
  waits_further x w (walking op p q) F h a = absurd a
  waits_further x w (locking u p q) F h a = absurd h
  waits_further x w (locking_curr k p q) F h a = inr (
    q,
    a.0,
    a.1,
    omega (arith, ap key h, F.0.stand.rise),
    omega (arith, ap key h, F.0.stand.below, F.0.fine),
  )
  waits_further x w (checking u p q) F h a = absurd a
  waits_further x w (preparing u p q) F h a = inl (⊎_elim (pending_goes p) (λ d. pending_goes q d.2) a)
  waits_further x w (numbering u p y z c) F h a = absurd a
  waits_further x w (linking u p y z c n) F h a = absurd a
  waits_further x w (finishing u p y z c n) F h a = absurd a
  waits_further x w (seeking k y) F h a = absurd h
  waits_further x w (fixing low high p) F h a = absurd a
  waits_further x w (following low high y s handed) F h a = absurd h
  waits_further x w (handing low high y s handed) F h a = absurd a

  holder : (x w : ℕ) → m.lock x ≡ some w → SomeGoes ⊎ Further x
  holder x w l =
      let h = (I.own.held w x l).0 in
      ⊎_elim (λ i. absurd (holds_busy (m.phase w) x h i))
      (⊎_elim (waits_further x w (m.phase w) (I.own.facts w) h) (λ g. inl (w, g)))
      (goes_or_waits key val start m I w)

  -- keys end at the tail's
  holder_goes : (n x w : ℕ) → m.lock x ≡ some w → key tail ≤ key x + n → SomeGoes
  unfolding Further
  holder_goes zero x w l h = ⊎_elim (λ g. g) (λ d. absurd (omega (arith, d.4))) (holder x w l)
  holder_goes (suc n) x w l h =
      ⊎_elim (λ g. g) (λ d. holder_goes n d.0 d.1 d.2 (omega (arith, d.3))) (holder x w l)

  waits_goes : (t : ℕ) (φ : Phase) → WaitsIn t m φ → SomeGoes
  waits_goes t idle a = absurd a
  waits_goes t (walking op p q) a = absurd a
  waits_goes t (locking u p q) a = holder_goes (key tail) p a.0 a.1 (omega arith)
  waits_goes t (locking_curr k p q) a = holder_goes (key tail) q a.0 a.1 (omega arith)
  waits_goes t (checking u p q) a = absurd a
  waits_goes t (preparing u p q) a = ⊎_elim (pending_goes p) (λ d. pending_goes q d.2) a
  waits_goes t (numbering u p y z c) a = absurd a
  waits_goes t (linking u p y z c n) a = absurd a
  waits_goes t (finishing u p y z c n) a = absurd a
  waits_goes t (seeking k x) a = pending_goes x a
  waits_goes t (fixing low high p) a = absurd a
  waits_goes t (following low high x s handed) a =
      let d = read_wait s (m.bundle x) a in pends_goes d.0 x (I.own.owned d.0 x d.1 d.2 d.3 d.4)
  waits_goes t (handing low high x s handed) a = absurd a

  -- ---- IF SOME SESSION IS BUSY, SOME SESSION GOES
  pub some_goes : (t : ℕ) → m.phase t ≢ idle → SomeGoes
  some_goes t busy = ⊎_elim (λ i. absurd (busy i)) (⊎_elim (waits_goes t (m.phase t)) (λ g. (t, g)))
      (goes_or_waits key val start m I t)
