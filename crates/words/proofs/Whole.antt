-- THE WORDS OF EVERY REACHED REGISTER SHOW A DRAWING, for any key and value functions that agree with its nodes; and
-- every call to it does in words what the drawing does.
-- In order: a busy session's step, by its phase; any call; reached registers; what an answer says.
-- Not here: demand 2's own sentences (Demand2). Assumes nothing.
use Prim.Native.Nat.{ℕ, ◌<◌}
use mathlib.Core.Path.{◌≡◌, refl}
use mathlib.Core.Logic.{◌⊎◌, inl, inr, ⊎_elim}
use native.Mathlib.Decide.{dec_lt}
use native.Mathlib.Omega.{arith}
use Rattle.order.specs.History.{empty}
use Rattle.terms.specs.Terms.{small}
use Rattle.sixteen.specs.declared.Call.{Call}
use Rattle.reached.specs.Reached.{State, go, Past, note, InWords, Reached, fresh, on}
use Rattle.drawing.specs.Phases.{Phase, idle, walking, locking, locking_curr, checking, preparing, numbering}
use Rattle.drawing.specs.Phases.{linking, finishing, seeking, fixing, following, handing}
use Rattle.drawing.specs.Drawing.{Drawing, beginning}
use Rattle.words.proofs.Show.{Agrees, Shown, Advanced}
use Rattle.words.proofs.Land.{used_of, Busy, busy_or_idle}
use Rattle.words.proofs.Back.{agree_back}
use Rattle.words.proofs.Fresh.{fresh_shows}
use Rattle.words.proofs.Starts.{start_shown, idle_shown}
use Rattle.words.proofs.Steady.{AgreesAfter}
use Rattle.words.proofs.Lock.{lock_advances, lock_curr_advances}
use Rattle.words.proofs.Check.{check_advances}
use Rattle.words.proofs.Prepare.{prepare_advances}
use Rattle.words.proofs.Number.{number_advances}
use Rattle.words.proofs.Link.{link_advances}
use Rattle.words.proofs.Finish.{finish_advances}
use Rattle.words.proofs.Readers.{walk_advances, seek_advances, fix_advances, follow_advances, hand_advances}

-- ---- A BUSY SESSION'S STEP
module _ (key val : ℕ → ℕ) (σ : State) (h : Past) (m : Drawing) (S : Shown small key val σ h m) (t : ℕ)
    (t<16 : t < 16) (agrees : AgreesAfter key val σ t) where
  advances : (φ : Phase) → m.phase t ≡ φ → Busy φ → Advanced key val σ h m t
  advances idle e b = absurd b
  advances (walking op p q) e b = walk_advances key val σ h m S t t<16 agrees op p q e
  advances (locking u p q) e b = lock_advances key val σ h m S t t<16 agrees u p q e
  advances (locking_curr k p q) e b = lock_curr_advances key val σ h m S t t<16 agrees k p q e
  advances (checking u p q) e b = check_advances key val σ h m S t t<16 agrees u p q e
  advances (preparing u p q) e b = prepare_advances key val σ h m S t t<16 agrees u p q e
  advances (numbering u p y z c) e b = number_advances key val σ h m S t t<16 agrees u p y z c e
  advances (linking u p y z c n) e b = link_advances key val σ h m S t t<16 agrees u p y z c n e
  advances (finishing u p y z c n) e b = finish_advances key val σ h m S t t<16 agrees u p y z c n e
  advances (seeking k x) e b = seek_advances key val σ h m S t t<16 agrees k x e
  advances (fixing low high p) e b = fix_advances key val σ h m S t t<16 agrees low high p e
  advances (following low high x s given) e b =
      follow_advances key val σ h m S t t<16 agrees low high x s given e
  advances (handing low high x s given) e b = hand_advances key val σ h m S t t<16 agrees low high x s given e

-- a step: of an idle session, or of a busy one
pub step_advances : (key val : ℕ → ℕ) (σ : State) (h : Past) (m : Drawing) → Shown small key val σ h m → (t : ℕ)
    → AgreesAfter key val σ t → (m.phase t ≡ idle) ⊎ ((t < 16) × Advanced key val σ h m t)
step_advances key val σ h m S t agrees = elim (dec_lt t 16) [
  | yes low ↦ ⊎_elim (λ b. inr (low, advances key val σ h m S t low agrees (m.phase t) refl b)) inl
      (busy_or_idle (m.phase t))
  | no high ↦ inl (S.others t (omega arith))
]

-- ---- ANY CALL
pub call_shown : (key val : ℕ → ℕ) (σ : State) (h : Past) (m : Drawing) → Shown small key val σ h m → (c : Call)
    → InWords c → Agrees key val (used_of (go small σ c)) (go small σ c).nodes
    → (m' : Drawing) × Shown small key val (go small σ c) (note small σ c h) m'
call_shown key val σ h m S (Call.Start who op) words agrees = start_shown key val σ h m S who op words
call_shown key val σ h m S (Call.Step t) words agrees = ⊎_elim (λ e. (m, idle_shown key val σ h m S t e))
    (λ a. (a.1.0, a.1.1)) (step_advances key val σ h m S t agrees)

-- ---- REACHED REGISTERS
pub reached_shown : {σ : State} {h : Past} → Reached small σ h → (key val : ℕ → ℕ)
    → Agrees key val (used_of σ) σ.nodes → (m : Drawing) × Shown small key val σ h m
reached_shown (fresh ns es ns' es' c e) key val agrees =
    (beginning empty, fresh_shows ns es ns' es' c e key val agrees)
reached_shown (on {σ} {h} r c words) key val agrees =
    let before = reached_shown r key val (agree_back small key val σ c agrees) in
    call_shown key val σ h before.0 before.1 c words agrees
