-- Rules B3 and B4 answer from the effective row, whenever they answer.
-- In order: answers told apart; what a pending entry hides; B3; B4; what each step does to the effective row.
-- Not here: which steps lay, number and finish (the list's). Assumes nothing.
use mathlib.Core.Path.{◌≡◌, refl, ◌∙◌, ap}
use mathlib.Core.Logic.{inl, inr}
use mathlib.Core.Option.{Option}
use mathlib.Core.List.{◌∷◌}
use Prim.Native.Nat.{ℕ, suc, ◌≤◌, ◌<◌}
use native.Mathlib.Omega.{arith}
use borrow.Author.Tests.{lt-ltb, le-ltb}
use Rattle.order.specs.Rows.{Row, Under, look, newest, Bundle, final, pending, wait, found, read_at, read_newest}
use Rattle.order.specs.Rows.{Effective}
use Rattle.order.proofs.Tests.{ltb_cases}
use Rattle.order.proofs.Rows.{look_skip, look_newest}

pub found_same : {o o' : Option ℕ} → found o ≡ found o' → o ≡ o'
found_same e = cc

pub wait_found : {P : Type 0} {o : Option ℕ} → wait ≡ found o → P
wait_found e = let z : ◌≡◌ {A = ℕ} 0 1 = cc in absurd (omega arith)

-- a pending entry that carries the snapshot or more is not seen at it, numbered or not
pub pending_unseen : (s carried target : ℕ) (row e : Row) → s ≤ carried → Effective (pending carried target row) e →
    look s e ≡ look s row
pending_unseen s carried target row e s≤carried (inl same) = ap (look s) same
pending_unseen s carried target row e s≤carried (inr (n, carried<n, e≡)) =
    ap (look s) e≡ ∙ look_skip s n target row (omega arith)

-- rule B3
pub read_at_right : (s : ℕ) (b : Bundle) (e : Row) (o : Option ℕ) → Effective b e → read_at s b ≡ found o →
    look s e ≡ o
unfolding read_at
read_at_right s (final row) e o effective = λ answer. ap (look s) effective ∙ found_same answer
read_at_right s (pending carried target row) e o effective =
    ltb_cases (λ seen. seen ≡ found o → look s e ≡ o) carried s _ _ (λ _ answer. wait_found answer)
    (λ s≤carried answer. pending_unseen s carried target row e s≤carried effective ∙ found_same answer)

-- it waits exactly for an entry that carries less than the snapshot
pub read_at_waits : (s carried target : ℕ) (row : Row) → carried < s → read_at s (pending carried target row) ≡ wait
unfolding read_at
read_at_waits s carried target row carried<s = rw (lt-ltb carried s carried<s)

pub read_at_passes : (s carried target : ℕ) (row : Row) → s ≤ carried →
    read_at s (pending carried target row) ≡ found (look s row)
unfolding read_at
read_at_passes s carried target row s≤carried = rw (le-ltb carried s s≤carried)

-- rule B4
pub read_newest_right : (b : Bundle) (e : Row) (o : Option ℕ) → Effective b e → read_newest b ≡ found o → newest e ≡ o
unfolding read_newest
read_newest_right (final row) e o effective answer = ap newest effective ∙ found_same answer
read_newest_right (pending carried target row) e o effective answer = wait_found answer

-- the newest is what a reader at the stamp sees
pub read_newest_now : (T : ℕ) (b : Bundle) (e : Row) (o : Option ℕ) → Under (suc T) e → Effective b e →
    read_newest b ≡ found o → look T e ≡ o
read_newest_now T b e o under effective answer = look_newest T e under ∙ read_newest_right b e o effective answer

-- ---- the effective row: laying an entry leaves it, numbering adds the pair, finishing leaves it
pub lay_effective : (carried target : ℕ) (row e : Row) → Effective (final row) e →
    Effective (pending carried target row) e
lay_effective carried target row e same = inl same

pub number_effective : (carried target n : ℕ) (row : Row) → carried < n →
    Effective (pending carried target row) ((n, target) ∷ row)
number_effective carried target n row carried<n = inr (n, carried<n, refl)

pub finish_effective : (n target : ℕ) (row e : Row) → e ≡ (n, target) ∷ row → Effective (final ((n, target) ∷ row)) e
finish_effective n target row e numbered = numbered
