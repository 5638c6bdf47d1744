-- Guards against the vacuous: document 002's Figure 1 begins with an insert of 20, and that runs to its end here;
-- a range that begins between its Number and its Finish waits; and two broken drawings have no invariant.
-- In order: the figure's keys; the insert, drawing by drawing; a has and a remove; the waiting range; the broken
-- drawings.
-- Assumes nothing.
use mathlib.Core.Path.{◌≡◌, refl}
use mathlib.Core.Bool.{false}
use mathlib.Core.Logic.{inl, inr}
use mathlib.Core.Option.{none}
use mathlib.Core.List.Memᴰ
use mathlib.Core.List.{[], ◌∷◌}
use Prim.Native.Nat.{ℕ}
use native.Mathlib.Omega.{arith}
use lib.ListN.{get_or}
use Rattle.order.specs.Set.{insert, remove, set_after, put}
use Rattle.order.specs.Rows.{read_at, read_newest}
use Rattle.order.specs.History.{head, ins, rem, empty, set_of, linked}
use Rattle.order.specs.Shape.{at_beginning, gone_on}
use Rattle.order.proofs.Rows.{none_some}
use Rattle.drawing.specs.Phases.{upd, has, range, idle, walking, locking, checking, preparing, numbering}
use Rattle.drawing.specs.Phases.{Phase, linking, finishing, fixing, following}
use Rattle.drawing.specs.Drawing.{change, without, plainly, Drawing, beginning}
use Rattle.drawing.specs.Effects.{Effect, stays, holds, lays, numbers, links, finishes, after, begun}
use Rattle.drawing.specs.Steps.{Out, present, inserted, removed, Starts, Step, Waits, starting, stepping}
use Rattle.drawing.specs.Steps.{starts, walk_arrive, lock_pred, lock_curr, check_pass, prepare_insert}
use Rattle.drawing.specs.Steps.{prepare_remove, number_it, link_it, finish_it, seek_present, fix_it}
use Rattle.drawing.specs.Answers.{Right}
use Rattle.drawing.proofs.Inv.{Inv}
use Rattle.drawing.proofs.Room.{on_used}
use Rattle.drawing.proofs.Shape.{Reached, reached_inv}
use Rattle.drawing.proofs.Reached.{reached_answers}

-- ---- node 2 has key 20 and value 7
abbrev key : ℕ → ℕ
key x = get_or (0 ∷ 4294967295 ∷ 20 ∷ []) x 0

abbrev val : ℕ → ℕ
val x = get_or (0 ∷ 0 ∷ 7 ∷ []) x 0

-- ---- a run, call by call
started : {m : Drawing} (t : ℕ) {φ : Phase} → Reached key val empty m → Starts key val t m φ
    → Reached key val empty (begun empty m t φ)
started t r s = gone_on r (starting t s)

stepped : {m : Drawing} (t : ℕ) {o : Out} {f : Effect} {φ : Phase} → Reached key val empty m
    → Step key val empty t m o f φ → Reached key val empty (after empty m t f φ)
stepped t r s = gone_on r (stepping t s)

-- ---- session 0 inserts 20
abbrev m₁ : Drawing
m₁ = begun empty (beginning empty) 0 (walking (upd (insert 20 7)) 0 1)

abbrev m₂ : Drawing
m₂ = after empty m₁ 0 stays (locking (insert 20 7) 0 1)

abbrev m₃ : Drawing
m₃ = after empty m₂ 0 (holds 0) (checking (insert 20 7) 0 1)

abbrev m₄ : Drawing
m₄ = after empty m₃ 0 stays (preparing (insert 20 7) 0 1)

abbrev m₅ : Drawing
m₅ = after empty m₄ 0 (lays (insert 20 7) 0 2 1 ((0, 1) ∷ []) []) (numbering (insert 20 7) 0 2 1 0)

abbrev m₆ : Drawing
m₆ = after empty m₅ 0 (numbers (insert 20 7) 0 2 1) (linking (insert 20 7) 0 2 1 0 1)

abbrev m₇ : Drawing
m₇ = after empty m₆ 0 (links (insert 20 7) 0 2 1) (finishing (insert 20 7) 0 2 1 0 1)

reached₁ : Reached key val empty m₁
unfolding beginning change plainly
reached₁ = started 0 (at_beginning refl) (starts (upd (insert 20 7)) refl (omega arith, omega arith))

reached₄ : Reached key val empty m₄
unfolding beginning change plainly
reached₄ =
    stepped 0 (stepped 0 (stepped 0 reached₁
    (walk_arrive (upd (insert 20 7)) 0 1 refl (omega arith)))
    (lock_pred (insert 20 7) 0 1 refl (λ w e. none_some none w refl e)))
    (check_pass (insert 20 7) 0 1 refl (refl, refl, tt) (omega arith))

reached₆ : Reached key val empty m₆
unfolding beginning change plainly linked
reached₆ =
    stepped 0 (stepped 0 reached₄
    (prepare_insert 20 7 0 1 ((0, 1) ∷ []) 2 refl refl refl (omega arith) refl refl))
    (number_it (insert 20 7) 0 2 1 0 refl)

pub reached₇ : Reached key val empty m₇
unfolding beginning change
reached₇ = stepped 0 reached₆ (link_it (insert 20 7) 0 2 1 0 1 refl)

-- it answers inserted with number 1, and the set is then 20 alone
pub finishes_one : Step key val empty 0 m₇ (inserted 1) (finishes (insert 20 7) 0 2 1 1 ((0, 1) ∷ []) []) idle
unfolding beginning change linked
finishes_one = finish_it (insert 20 7) 0 2 1 0 1 ((0, 1) ∷ []) [] refl refl refl

pub set_is_twenty : set_of key val empty m₇.log ≡ (20, 7) ∷ []
unfolding beginning set_after put
set_is_twenty = refl

-- so the theorems speak of it
pub one_inv : Inv key val empty m₇
one_inv = reached_inv key val empty (omega arith, tt) reached₇

pub one_right : Right key val empty m₇ 0 (inserted 1)
one_right = reached_answers key val empty (omega arith, tt) reached₇ 0 finishes_one

-- ---- then session 2 finds 20 with a has, and session 0 removes it: removed with number 2, and the set is empty
abbrev m₈ : Drawing
m₈ = after empty m₇ 0 (finishes (insert 20 7) 0 2 1 1 ((0, 1) ∷ []) []) idle

reached₈ : Reached key val empty m₈
reached₈ = stepped 0 reached₇ finishes_one

pub has_finds : (m : Drawing) × Reached key val empty m × Step key val empty 2 m present stays idle
unfolding beginning change without linked plainly read_newest
has_finds = (
  _,
  stepped 2 (started 2 reached₈ (starts (has 20) refl (omega arith, omega arith)))
      (walk_arrive (has 20) 0 2 refl (omega arith)),
  seek_present 20 0 2 refl refl refl,
)

pub remove_runs : (m : Drawing) × Reached key val empty m × (m.log ≡ rem 2 ∷ ins 2 ∷ [])
    × Step key val empty 0 m (removed 2) (finishes (remove 20) 0 2 1 2 ((1, 2) ∷ (0, 1) ∷ []) ((1, 1) ∷ [])) idle
unfolding beginning change without linked plainly
remove_runs = (
  _,
  stepped 0 (stepped 0 (stepped 0 (stepped 0 (stepped 0 (stepped 0 (stepped 0 (started 0 reached₈
      (starts (upd (remove 20)) refl (omega arith, omega arith)))
      (walk_arrive (upd (remove 20)) 0 2 refl (omega arith)))
      (lock_pred (remove 20) 0 2 refl (λ w e. none_some none w refl e)))
      (lock_curr 20 0 2 refl (λ w e. none_some none w refl e)))
      (check_pass (remove 20) 0 2 refl (refl, refl, refl) refl))
      (prepare_remove 20 0 2 ((1, 2) ∷ (0, 1) ∷ []) ((1, 1) ∷ []) refl refl refl))
      (number_it (remove 20) 0 2 1 1 refl))
      (link_it (remove 20) 0 2 1 1 2 refl),
  refl,
  finish_it (remove 20) 0 2 1 1 2 ((1, 2) ∷ (0, 1) ∷ []) ((1, 1) ∷ []) refl refl refl,
)

-- ---- session 1 begins a range after the Number: it fixes snapshot 1, and waits for the entry that carries 0
abbrev w₁ : Drawing
w₁ = begun empty m₆ 1 (walking (range 1 100) 0 1)

abbrev w₂ : Drawing
w₂ = after empty w₁ 1 stays (fixing 1 100 0)

abbrev w₃ : Drawing
w₃ = after empty w₂ 1 stays (following 1 100 0 1 [])

pub reached_w₃ : Reached key val empty w₃
unfolding beginning change plainly
reached_w₃ =
    stepped 1 (stepped 1 (started 1 reached₆
    (starts (range 1 100) refl (omega arith, omega arith, omega arith)))
    (walk_arrive (range 1 100) 0 1 refl (omega arith)))
    (fix_it 1 100 0 refl)

pub range_waits : Waits 1 w₃
unfolding beginning change read_at
range_waits = refl

-- ---- the head that leads to itself: no invariant
abbrev broken : Drawing
broken = record {
  plain = λ x. 0;
  lock = λ x. none;
  gone = λ x. false;
  bundle = (beginning empty).bundle;
  log = [];
  rows = (beginning empty).rows;
  phase = λ t. idle;
  since = λ t. 0;
}

pub broken_no_inv : ¬ Inv key val empty broken
broken_no_inv I = omega (arith, (I.own.links head (inl refl)).0)

-- ---- a finished insert whose node keeps an empty row: a range at snapshot 1 would find no entry
abbrev unlinked : Drawing
unlinked = record {
  plain = m₇.plain;
  lock = λ x. none;
  gone = λ x. false;
  bundle = (beginning empty).bundle;
  log = ins 2 ∷ [];
  rows = (beginning empty).rows;
  phase = λ t. idle;
  since = λ t. 0;
}

pub unlinked_no_inv : ¬ Inv key val empty unlinked
unfolding beginning linked
unlinked_no_inv I = on_used key val empty unlinked I 2 (inr (inr (Memᴰ.head refl))) refl
