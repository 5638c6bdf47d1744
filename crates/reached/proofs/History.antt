-- Laws of the history that calls give.
-- In order: one place of a table changed, and the others; what an answer does to what is under way; a list of one
-- value, of which a fresh register's records are one.
-- Not here: any register. Assumes nothing.
use Prim.Native.Nat.{ℕ, zero, suc}
use mathlib.Core.Path.{◌≡◌, refl}
use mathlib.Core.Logic.{◌≢◌}
use lib.ListN.{get_or, replicate}
use borrow.Author.Tests.{eq-eqb, ne_eqb}
use Rattle.order.proofs.Tests.{eqb_cases}
use Rattle.terms.specs.declared.Op.{Op}
use Rattle.terms.specs.declared.Refusal.{Refusal}
use Rattle.terms.specs.declared.Answer.{Answer}
use Rattle.reached.specs.Reached.{at, under_by}

-- ---- one place, and the others
pub at_same : {A : Type 0} (f : ℕ → A) (t : ℕ) (a : A) → at f t a t ≡ a
unfolding at
at_same f t a = rw (eq-eqb t t refl) refl

pub at_other : {A : Type 0} (f : ℕ → A) (t : ℕ) (a : A) (w : ℕ) → w ≢ t → at f t a w ≡ f w
unfolding at
at_other f t a w w≢t = rw (ne_eqb w t w≢t) refl

pub at_all : {A : Type 0} (P : A → Type 0) (f : ℕ → A) (t : ℕ) (a : A) → ((w : ℕ) → P (f w)) → P a
    → (w : ℕ) → P (at f t a w)
unfolding at
at_all P f t a all here w = eqb_cases P w t a (f w) (λ _. here) (λ _. all w)

-- ---- an answer leaves what is under way, begins what was asked for, or ends what was under way
pub under_cases : (P : (ℕ → Op) → Type 0) (t : ℕ) (op : Op) (f : ℕ → Op)
    → P f → P (at f t op) → P (at f t Op.None) → (a : Answer) → P (under_by a t op f)
under_cases P t op f stays begins ends Answer.Started = begins
under_cases P t op f stays begins ends Answer.Working = stays
under_cases P t op f stays begins ends Answer.Waiting = stays
under_cases P t op f stays begins ends (Answer.Key k v) = stays
under_cases P t op f stays begins ends (Answer.Inserted n) = ends
under_cases P t op f stays begins ends (Answer.Removed n) = ends
under_cases P t op f stays begins ends Answer.Present = ends
under_cases P t op f stays begins ends Answer.Absent = ends
under_cases P t op f stays begins ends (Answer.End s n) = ends
under_cases P t op f stays begins ends (Answer.Refused Refusal.BadSession) = stays
under_cases P t op f stays begins ends (Answer.Refused Refusal.Busy) = stays
under_cases P t op f stays begins ends (Answer.Refused Refusal.BadKey) = stays
under_cases P t op f stays begins ends (Answer.Refused Refusal.BadRange) = stays
under_cases P t op f stays begins ends (Answer.Refused Refusal.Idle) = stays
under_cases P t op f stays begins ends (Answer.Refused Refusal.Full) = ends
under_cases P t op f stays begins ends (Answer.Refused Refusal.BadTable) = stays
under_cases P t op f stays begins ends (Answer.Refused Refusal.Damaged) = stays

-- an answer leaves what other sessions have under way
pub under_other : (a : Answer) (t : ℕ) (op : Op) (f : ℕ → Op) (w : ℕ) → w ≢ t → under_by a t op f w ≡ f w
under_other a t op f w w≢t =
    under_cases (λ g. g w ≡ f w) t op f refl (at_other f t _ w w≢t) (at_other f t _ w w≢t) a

-- ---- a list of one value
pub get_d_default : {A : Type 0} (n i : ℕ) (a : A) → get_or (replicate n a) i a ≡ a
get_d_default zero i a = refl
get_d_default (suc n) zero a = refl
get_d_default (suc n) (suc i) a = get_d_default n i a
