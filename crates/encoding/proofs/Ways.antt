-- What words stand for, and when they are right, over plain values: laws of decoding, cited by the short ways too.
-- In order: an operation from its words; a phase from its words; are the words right, of an operation and of a phase.
-- Assumes nothing.
use Prim.Native.Nat.{ℕ, ◌+◌, ◌≤◌, ◌<◌}
use mathlib.Core.Path.{◌≡◌, refl, sym}
use mathlib.Core.Bool.{Bool, true, false}
use lib.Dec.{eqb, leb}
use native.Mathlib.Decide.{dec_le}
use native.Mathlib.Omega.{arith}
use Rattle.order.proofs.Tests.{eqb_cases}
use borrow.Author.Tests.{le-leb, lt-leb, eq-eqb, ne_eqb}
use Rattle.terms.specs.declared.Op.{Op}
use Rattle.steps.specs.declared.Phase.{Phase}
use Rattle.encoding.specs.declared.OpWords.{OpWords}
use Rattle.encoding.specs.declared.PhaseWords.{PhaseWords}
use Rattle.encoding.specs.Encoding.{phase_with, phase_words, op_from, walking_from}
use Rattle.encoding.specs.Encoding.{updating_from, reading_from, phase_from}
use Rattle.encoding.specs.Encoding.{same_three, op_right, front_right, back_right}

-- ---- an operation
module _ (kind first second : ℕ) where
  pub is_insert : kind ≡ 1 → Op.Insert first second ≡ op_from kind first second
  unfolding op_from
  is_insert h = rw h

  pub is_remove : kind ≡ 2 → Op.Remove first ≡ op_from kind first second
  unfolding op_from
  is_remove h = rw h

  pub is_range : kind ≡ 4 → Op.Range first second ≡ op_from kind first second
  unfolding op_from
  is_range h = rw h

-- ---- a phase
module _ (phase pred curr : ℕ) where
  pub is_walk : phase ≡ 1 → Phase.Walk pred curr ≡ walking_from phase pred curr
  is_walk h = rw h

  pub is_lock : phase ≡ 2 → Phase.Lock pred curr ≡ walking_from phase pred curr
  is_lock h = rw h

  pub is_lock_curr : phase ≡ 3 → Phase.LockCurr pred curr ≡ walking_from phase pred curr
  is_lock_curr h = rw h

  pub is_check : phase ≡ 4 → Phase.Check pred curr ≡ walking_from phase pred curr
  is_check h = rw h

module _ (phase pred node lower upper number : ℕ) where
  pub is_number : phase ≡ 6 → Phase.Number pred node lower upper ≡ updating_from phase pred node lower upper number
  is_number h = rw h

  pub is_link : phase ≡ 7
      → Phase.Link pred node lower upper number ≡ updating_from phase pred node lower upper number
  is_link h = rw h

  pub is_finish : (phase ≡ 6 → ⊥) → (phase ≡ 7 → ⊥)
      → Phase.Finish pred node lower upper number ≡ updating_from phase pred node lower upper number
  is_finish h i = rw (ne_eqb _ _ h, ne_eqb _ _ i)

module _ (phase at snapshot handed : ℕ) where
  pub is_follow : phase ≡ 11 → Phase.Follow at snapshot handed ≡ reading_from phase at snapshot handed
  is_follow h = rw h

  pub is_hand : (phase ≡ 9 → ⊥) → (phase ≡ 10 → ⊥) → (phase ≡ 11 → ⊥)
      → Phase.Hand at snapshot handed ≡ reading_from phase at snapshot handed
  is_hand h i j = rw (ne_eqb _ _ h, ne_eqb _ _ i, ne_eqb _ _ j)

module _ (w : PhaseWords) where
  is_idle : w.phase ≡ 0 → Phase.Idle ≡ phase_from w
  unfolding phase_from
  is_idle h = rw (eq-eqb _ _ h)

  pub is_walking : (p : Phase) → (w.phase ≡ 0 → ⊥) → w.phase ≤ 5 → p ≡ walking_from w.phase w.a w.b
      → p ≡ phase_from w
  unfolding phase_from
  is_walking p h i e = rw (ne_eqb _ _ h, le-leb _ _ i, e)

  pub is_updating : (p : Phase) → (w.phase ≡ 0 → ⊥) → 5 < w.phase → w.phase ≤ 8
      → p ≡ updating_from w.phase w.a w.b w.c w.d w.e → p ≡ phase_from w
  unfolding phase_from
  is_updating p h i j e = rw (ne_eqb _ _ h, lt-leb _ _ i, le-leb _ _ j, e)

  pub is_reading : (p : Phase) → (w.phase ≡ 0 → ⊥) → 5 < w.phase → 8 < w.phase
      → p ≡ reading_from w.phase w.a w.b w.c → p ≡ phase_from w
  unfolding phase_from
  is_reading p h i j e = rw (ne_eqb _ _ h, lt-leb _ _ i, lt-leb _ _ j, e)

-- ---- are words right: of three, and of an operation
pub three_self : (x y z : ℕ) → same_three x y z x y z ≡ true
unfolding same_three
three_self x y z = rw (eq-eqb x x refl, eq-eqb y y refl, eq-eqb z z refl)

-- one of two numbers, the one after the other
either : {P : Type 0} (p n : ℕ) → n ≤ p → p ≤ n + 1 → (p ≡ n → P) → (p ≡ n + 1 → P) → P
either p n h i f g = elim (dec_le p n) [
  | yes low ↦ f (omega arith)
  | no high ↦ g (omega arith)
]

module _ (w : OpWords) where
  pub right_none : (b : Bool) → w.kind ≡ 0 → b ≡ same_three w.kind w.first w.second 0 0 0 → b ≡ op_right w
  unfolding op_right op_from
  right_none b h e = rw (e, h)

  pub right_insert : w.kind ≡ 1 → true ≡ op_right w
  unfolding op_right op_from
  right_insert h = rw (h, three_self)

  pub right_range : w.kind ≡ 4 → true ≡ op_right w
  unfolding op_right op_from
  right_range h = rw (h, three_self)

  pub right_key : (w.kind ≡ 0 → ⊥) → (w.kind ≡ 1 → ⊥) → w.kind ≤ 3 → eqb w.second 0 ≡ op_right w
  unfolding op_right op_from same_three
  right_key h i j =
      either w.kind 2 (omega arith) (omega arith) (λ e. rw (e, eq-eqb w.first _ refl))
      (λ e. rw (e, eq-eqb w.first _ refl))

  pub right_not : 3 < w.kind → (w.kind ≡ 4 → ⊥) → false ≡ op_right w
  unfolding op_right op_from same_three
  right_not h i =
      rw (
        ne_eqb w.kind 1 (omega arith),
        ne_eqb w.kind 2 (omega arith),
        ne_eqb w.kind 3 (omega arith),
        ne_eqb w.kind 4 i,
        ne_eqb w.kind 0 (omega arith),
      )

pub ruleset right_ops = (right_none, right_insert, right_range, right_key, right_not)

-- ---- the words of the phase that words would stand for
abbrev pub stands_for : PhaseWords → PhaseWords
stands_for w = phase_words (phase_from w)

walking_words : (p a b : ℕ) → (p ≡ 0 → ⊥) → p ≤ 5 → phase_words (walking_from p a b) ≡ phase_with p a b 0 0 0
walking_words p a b h i =
    eqb_cases fit p 1 _ _ (λ e. rw e) (λ m.
    eqb_cases fit p 2 _ _ (λ e. rw e) (λ n.
    eqb_cases fit p 3 _ _ (λ e. rw e) (λ o.
    eqb_cases fit p 4 _ _ (λ e. rw e) (λ q. let e : p ≡ 5 = omega arith in rw e))))
  where
    fit : Phase → Type 0
    fit x = phase_words x ≡ phase_with p a b 0 0 0

module _ (w : PhaseWords) where
  as_idle : w.phase ≡ 0 → stands_for w ≡ phase_with 0 0 0 0 0 0
  as_idle h = rw (← is_idle w h)

  as_walking : (w.phase ≡ 0 → ⊥) → w.phase ≤ 5 → stands_for w ≡ phase_with w.phase w.a w.b 0 0 0
  as_walking h i = rw (← is_walking w _ h i refl) (walking_words _ _ _ h i)

  as_number : w.phase ≡ 6 → stands_for w ≡ phase_with w.phase w.a w.b w.c w.d 0
  unfolding phase_from
  as_number h = rw h

  as_updating : 6 < w.phase → w.phase ≤ 8
      → stands_for w ≡ phase_with w.phase w.a w.b w.c w.d w.e
  unfolding phase_from
  as_updating h i = either w.phase 7 (omega arith) (omega arith) (λ e. rw e) (λ e. rw e)

  as_newest : 8 < w.phase → w.phase ≤ 10 → stands_for w ≡ phase_with w.phase w.a 0 0 0 0
  unfolding phase_from
  as_newest h i = either w.phase 9 (omega arith) (omega arith) (λ e. rw e) (λ e. rw e)

  as_following : 10 < w.phase → w.phase ≤ 12
      → stands_for w ≡ phase_with w.phase w.a w.b w.c 0 0
  unfolding phase_from
  as_following h i = either w.phase 11 (omega arith) (omega arith) (λ e. rw e) (λ e. rw e)

  as_past : 12 < w.phase → stands_for w ≡ phase_with 12 w.a w.b w.c 0 0
  as_past h =
      rw (← is_reading w (Phase.Hand w.a w.b w.c) (omega arith) (omega arith) (omega arith)
      (is_hand w.phase w.a w.b w.c (omega arith) (omega arith) (omega arith)))

-- ---- are the words of a phase right
module _ (w : PhaseWords) where
  pub front_idle : (b : Bool) → w.phase ≡ 0 → b ≡ same_three w.phase w.a w.b 0 0 0 → b ≡ front_right w
  unfolding front_right
  front_idle b h e = rw (as_idle w h, e)

  pub front_all : (w.phase ≡ 0 → ⊥) → w.phase ≤ 8 → true ≡ front_right w
  unfolding front_right
  front_all h i = elim (dec_le w.phase 5) [
    | yes walks ↦ rw (as_walking w h walks, three_self)
    | no past ↦ elim (dec_le w.phase 6) [
      | yes numbers ↦ rw (as_number w (omega arith), three_self)
      | no updates ↦ rw (as_updating w (omega arith) i, three_self)
    ]
  ]

  pub front_newest : 8 < w.phase → w.phase ≤ 10 → eqb w.b 0 ≡ front_right w
  unfolding front_right same_three
  front_newest h i = rw (as_newest w h i, eq-eqb w.phase _ refl, eq-eqb w.a _ refl)

  pub front_last : 10 < w.phase → leb w.phase 12 ≡ front_right w
  unfolding front_right same_three
  front_last h = elim (dec_le w.phase 12) [
    | yes follows ↦ rw (le-leb _ _ follows, as_following w h follows) (sym (three_self w.phase w.a w.b))
    | no past ↦ rw (lt-leb w.phase 12 (omega arith), as_past w (omega arith), ne_eqb w.phase 12 (omega arith))
  ]

  module _ (b : Bool) where
    pub back_walks : w.phase ≤ 5 → b ≡ same_three w.c w.d w.e 0 0 0 → b ≡ back_right w
    unfolding back_right
    back_walks h e = elim (dec_le w.phase 0) [
      | yes none ↦ rw (as_idle w (omega arith), e)
      | no walks ↦ rw (as_walking w (omega arith) h, e)
    ]

    pub back_newest : 8 < w.phase → w.phase ≤ 10 → b ≡ same_three w.c w.d w.e 0 0 0 → b ≡ back_right w
    unfolding back_right
    back_newest h i e = rw (as_newest w h i, e)

    pub back_last : 10 < w.phase → b ≡ same_three 0 w.d w.e 0 0 0 → b ≡ back_right w
    unfolding back_right same_three
    back_last h e = elim (dec_le w.phase 12) [
      | yes follows ↦ rw (as_following w h follows, e, eq-eqb w.c _ refl)
      | no past ↦ rw (as_past w (omega arith), e, eq-eqb w.c _ refl)
    ]

  pub back_number : w.phase ≡ 6 → eqb w.e 0 ≡ back_right w
  unfolding back_right same_three
  back_number h = rw (as_number w h, eq-eqb w.c _ refl, eq-eqb w.d _ refl)

  pub back_all : 5 < w.phase → (w.phase ≡ 6 → ⊥) → w.phase ≤ 8 → true ≡ back_right w
  unfolding back_right
  back_all h i j = rw (as_updating w (omega arith) j, three_self)

pub ruleset right_fronts = (front_idle, front_all, front_newest, front_last)

pub ruleset right_backs = (back_walks, back_number, back_all, back_newest, back_last)
