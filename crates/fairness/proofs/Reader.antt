-- The reader's measure: each step of its own that is no wait makes it fall, Fix by the credit and one more, and no
-- step of another makes it rise.
-- In order: what a node costs; the credit; the measure at a start; at each step; what one call does to it.
-- Not here: the bounds (Bounds). Assumes nothing.
use mathlib.Core.Path.{◌≡◌, refl, ap, subst}
use mathlib.Core.Logic.{◌⊎◌, inl, inr}
use mathlib.Core.Bool.{Bool, true, false, cond}
use mathlib.Core.List.{List, ◌∷◌}
use Prim.Native.Nat.{ℕ, zero, suc, ◌+◌, ◌*◌, ◌≤◌, ◌<◌}
use native.Mathlib.Omega.{arith}
use borrow.Author.Tests.{lt-ltb, le-ltb, ltb-true}
use lib.Dec.{ltb}
use lib.ListN.{length}
use Rattle.fairness.specs.Weigh.{Distinct, Within}
use Rattle.fairness.specs.Facts.{Works, Waits}
use Rattle.fairness.specs.Reader.{Stage, walking, arrived, following, handing, Fixed, read_cost, walk_cost}
use Rattle.fairness.specs.Reader.{Moves, moves, descends, arrives, skips, finds, hands, Fixes, behind, by_head}
use Rattle.fairness.specs.Reader.{credit, left, Owing, Gives, gives_none, gives_one, Own, move, fix, wait}
use Rattle.fairness.proofs.Weigh.{weigh_le, weigh_lt, weigh_most, weigh_part}

-- ---- what a node costs
-- the tests' results, apart from the tests
one_or_two : (b : Bool) → cond b 1 2 ≤ 2
one_or_two true = omega arith
one_or_two false = omega arith

two_or_one : (b : Bool) → cond b 2 1 ≤ 2
two_or_one true = omega arith
two_or_one false = omega arith

two_at_most : (b c : Bool) → cond b (cond c 2 1) 2 ≤ 2
two_at_most true c = two_or_one c
two_at_most false c = omega arith

one_at_least : (c : Bool) → 1 ≤ cond c 2 1
one_at_least true = omega arith
one_at_least false = omega arith

one_more_ahead : (b c : Bool) → cond b 1 2 ≤ cond b (cond c 2 1) 2
one_more_ahead true c = one_at_least c
one_more_ahead false c = omega arith

fewer_ahead : (b c d : Bool) → (d ≡ true → c ≡ true) → cond b (cond d 2 1) 2 ≤ cond b (cond c 2 1) 2
fewer_ahead true c true h = rw (h refl) (omega arith)
fewer_ahead true c false h = one_at_least c
fewer_ahead false c d h = omega arith

module _ {A : Type 0} (key : A → ℕ) (low : ℕ) where
  read_below : (x : A) → key x < low → read_cost key low x ≡ 1
  unfolding read_cost
  read_below x h = rw (lt-ltb (key x) low h)

  read_above : (x : A) → low ≤ key x → read_cost key low x ≡ 2
  unfolding read_cost
  read_above x h = rw (le-ltb (key x) low h)

  read_two : (x : A) → read_cost key low x ≤ 2
  unfolding read_cost
  read_two x = one_or_two (ltb (key x) low)

  walk_two : (p : ℕ) (x : A) → walk_cost key low p x ≤ 2
  unfolding walk_cost
  walk_two p x = two_at_most (ltb (key x) low) (ltb p (key x))

  read_walk : (p : ℕ) (x : A) → read_cost key low x ≤ walk_cost key low p x
  unfolding read_cost walk_cost
  read_walk p x = one_more_ahead (ltb (key x) low) (ltb p (key x))

  walk_up : (p r : ℕ) → p ≤ r → (x : A) → walk_cost key low r x ≤ walk_cost key low p x
  unfolding walk_cost
  walk_up p r p≤r x = fewer_ahead (ltb (key x) low) (ltb p (key x)) (ltb r (key x))
      (λ e. lt-ltb p (key x) (omega (arith, ltb-true r (key x) e)))

  -- a node costs one less once pred is there
  walk_here : (p : ℕ) (x : A) → p < key x → key x < low → walk_cost key low (key x) x < walk_cost key low p x
  unfolding walk_cost
  walk_here p x h k =
      rw (lt-ltb (key x) low k, lt-ltb p (key x) h, le-ltb (key x) (key x) (omega arith)) (omega arith)

-- ---- the credit
pub credit_none : (n : ℕ) → n ≡ 0 → credit n ≡ 0
unfolding credit
credit_none zero h = refl
credit_none (suc n) h = absurd (omega arith)

pub credit_some : (n : ℕ) → 0 < n → credit n ≡ 3
unfolding credit
credit_some zero h = absurd (omega arith)
credit_some (suc n) h = refl

pub credit_most : (n : ℕ) → credit n ≤ 3
unfolding credit
credit_most zero = omega arith
credit_most (suc n) = omega arith

-- so that 3n + 6 has room for the last step
pub credit_low : (n : ℕ) → credit n < n + 3
unfolding credit
credit_low zero = omega arith
credit_low (suc n) = omega arith

pub credit_up : (m n : ℕ) → m ≤ n → credit m ≤ credit n
unfolding credit
credit_up zero n h = omega arith
credit_up (suc m) zero h = absurd (omega arith)
credit_up (suc m) (suc n) h = omega arith

module _ {A : Type 0} (key : A → ℕ) (low total : ℕ) where
  pub left_some : (s : Stage A) (given : List A) → 0 < left key low total s given
  left_some (walking p h) given = omega arith
  left_some arrived given = omega arith
  left_some (following ns) given = omega arith
  left_some (handing ns) given = omega arith

  -- ---- the measure at a start: of a walk, and in a snapshot
  pub left_walk : (p h : ℕ) (given : List A) → length given ≤ total
      → left key low total (walking p h) given ≤ 2 * total + h + 3 + credit total
  left_walk p h given l = omega (arith, weigh_most (walk_cost key low p) 2 given (walk_two key low p))

  pub left_as_of : (ns given : List A) → Distinct ns → Within ns given
      → left key low total (following ns) given ≤ 2 * length given + 1
  left_as_of ns given d h = omega (
    arith,
    weigh_part (read_cost key low) ns given d h,
    weigh_most (read_cost key low) 2 given (read_two key low),
  )

  -- ---- the measure at each step
  pub left_moves : (given : List A) (s t : Stage A) → Moves key low given s t
      → left key low total t given < left key low total s given
  left_moves given s t (moves {p = p} x m h k) = omega (
    arith,
    weigh_lt (walk_cost key low (key x)) (walk_cost key low p) (walk_up key low p (key x) (omega arith)) x given m
        (walk_here key low p x h k),
  )
  left_moves given s t descends = omega arith
  left_moves given s t (arrives {p = p}) =
      omega (arith, weigh_le (read_cost key low) (walk_cost key low p) (read_walk key low p) given)
  left_moves given s t (skips x h) = omega (arith, read_below key low x h)
  left_moves given s t (finds x h) = omega (arith, read_above key low x h)
  left_moves given s t hands = omega arith

  pub left_fixes : (given : List A) (s t : Stage A) → Fixes key low given s t
      → left key low total t given + credit total < left key low total s given
  left_fixes given s t (behind {ns = ns} d h) = omega (arith, weigh_part (read_cost key low) ns given d h)
  left_fixes given s t (by_head {ns = ns} head pred h k d m) = omega (
    arith,
    read_below key low head h,
    read_below key low pred k,
    weigh_part (read_cost key low) (pred ∷ ns) given d m,
  )

  -- another's Prepare gives a node
  pub left_given : (s : Stage A) (x : A) (given : List A) → length given < total
      → left key low total s (x ∷ given) ≤ left key low total s given
  left_given (walking p h) x given l = omega (arith, walk_two key low p x)
  left_given arrived x given l = omega (arith, read_two key low x)
  left_given (following ns) x given l = omega arith
  left_given (handing ns) x given l = omega arith

-- in its snapshot a reader fixes none
no_fix : {A : Type 0} (key : A → ℕ) (low : ℕ) (g : List A) (s t : Stage A) → Fixed s → Fixes key low g s t → ⊥
no_fix key low g s t p (behind d h) = p
no_fix key low g s t p (by_head head pred h k d m) = p

-- ---- what one call does to the measure
module _ {State A : Type 0} (key : A → ℕ) (low total : ℕ) (stage : State → Stage A) (given : State → List A)
    (owes : State → ℕ → ℕ) where
  abbrev pub measure : State → ℕ
  measure σ = left key low total (stage σ) (given σ)

  pub same_left : (σ τ : State) → stage τ ≡ stage σ → given τ ≡ given σ → measure τ ≤ measure σ
  same_left σ τ e g = rw (e, g) (omega arith)

  pub gives_left : (σ τ : State) → length (given τ) ≤ total → stage τ ≡ stage σ → Gives given σ τ
      → measure τ ≤ measure σ
  gives_left σ τ r e (gives_none g) = same_left σ τ e g
  gives_left σ τ r e (gives_one x g) =
      rw (e, g) (left_given key low total (stage σ) x (given σ) (omega (arith, ap length g)))

  pub own_left : (σ τ : State) → ((i : ℕ) → owes τ i ≤ credit total) → Own key low stage given owes σ τ
      → Works measure owes σ τ ⊎ Waits measure owes σ τ
  own_left σ τ c (move s t a b m g o) =
      inl (0, rw (a, b, g) (omega (arith, left_moves key low total (given σ) s t m)), λ i. omega (arith, o i))
  own_left σ τ c (fix s t a b m g) =
      inl (credit total, rw (a, b, g) (left_fixes key low total (given σ) s t m), λ i. omega (arith, c i))
  own_left σ τ c (wait e g o i h) = inr ((same_left σ τ e g, o), i, h)

  -- in its snapshot no step of its own makes others owe it more
  pub own_owes : (σ τ : State) → Fixed (stage σ) → Own key low stage given owes σ τ → Owing owes σ τ
  own_owes σ τ p (move s t a b m g o) = o
  own_owes σ τ p (fix s t a b m g) = absurd (no_fix key low (given σ) s t (subst Fixed a p) m)
  own_owes σ τ p (wait e g o i h) = o

  -- a step of its own that leaves it where it stands is a wait, and shows for whom
  pub own_stands : (σ τ : State) → Own key low stage given owes σ τ → stage τ ≡ stage σ → (i : ℕ) × (0 < owes σ i)
  own_stands σ τ (move s t a b m g o) stands =
      let e : t ≡ s = cc in
      absurd (omega (arith, left_moves key low total (given σ) s t m, ap (λ x. left key low total x (given σ)) e))
  own_stands σ τ (fix s t a b m g) stands =
      let e : t ≡ s = cc in
      absurd (omega (arith, left_fixes key low total (given σ) s t m, ap (λ x. left key low total x (given σ)) e))
  own_stands σ τ (wait e g o i h) stands = (i, h)

  -- nodes given stay given
  pub gives_more : (σ τ : State) → Gives given σ τ → length (given σ) ≤ length (given τ)
  gives_more σ τ (gives_none g) = omega (arith, ap length g)
  gives_more σ τ (gives_one x g) = omega (arith, ap length g)

  pub own_gives : (σ τ : State) → Own key low stage given owes σ τ → given τ ≡ given σ
  own_gives σ τ (move s t a b m g o) = g
  own_gives σ τ (fix s t a b m g) = g
  own_gives σ τ (wait e g o i h) = g
