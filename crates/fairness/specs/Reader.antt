-- A reader with a snapshot (document 01, Walk, Fix, Follow, Hand): its stages, the steps that may still come, and what
-- one call owes it. Nodes are counted, never keys: a removed pred's key may be another node's in the snapshot.
-- In order: stages; what a node may cost; the reader's own steps; the measure; one call; the facts.
-- Not here: the bounds (Bounds). Assumes nothing.
use Rattle.std.specs.Prelude.{◌≡◌, ◌≢◌, cond, ℕ, zero, suc, ◌+◌, ◌-◌, ◌*◌, ◌≤◌, ◌<◌, ltb, length}
use Rattle.std.proofs.Math.Option.{Option, none, some}
use mathlib.Core.List.{List, ◌∷◌, Memᴰ}
use Rattle.fairness.specs.Weigh.{weigh, Distinct, Within}

-- ---- where a reader stands: on its walk, with this key at pred and this many descents to make; arrived, Fix to come;
-- with these nodes before it in its snapshot; with a node to hand out and then these
pub data Stage (A : Type 0) : Type 0 where
  walking : ℕ → ℕ → Stage A
  arrived : Stage A
  following handing : List A → Stage A

-- in its snapshot
abbrev pub Fixed : {A : Type 0} → Stage A → Type 0
Fixed (walking p h) = ⊥
Fixed arrived = ⊥
Fixed (following ns) = Unit {0}
Fixed (handing ns) = Unit {0}

module _ {A : Type 0} (key : A → ℕ) (low : ℕ) where
  -- ---- the steps that a node may still cost: one if it is followed below `low`, two if it is followed and handed out
  unfoldable pub read_cost : A → ℕ
  read_cost x = cond (ltb (key x) low) 1 2

  -- on the walk one more for a node between pred and `low`
  unfoldable pub walk_cost : ℕ → A → ℕ
  walk_cost p x = cond (ltb (key x) low) (cond (ltb p (key x)) 2 1) 2

  -- ---- a step of the reader's own that fixes no snapshot and does not wait, while `given` are the nodes given
  pub data Moves (given : List A) : Stage A → Stage A → Type 0 where
    moves : {p h : ℕ} (x : A) → Memᴰ x given → p < key x → key x < low
        → Moves given (walking p h) (walking (key x) h)
    descends : {p h : ℕ} → Moves given (walking p (suc h)) (walking p h)
    arrives : {p h : ℕ} → Moves given (walking p h) arrived
    skips : {ns : List A} (x : A) → key x < low → Moves given (following (x ∷ ns)) (following ns)
    finds : {ns : List A} (x : A) → low ≤ key x → Moves given (following (x ∷ ns)) (handing ns)
    hands : {ns : List A} → Moves given (handing ns) (following ns)

  -- Fix: behind pred in the snapshot; or, where pred was removed by then, by the head through all of it
  pub data Fixes (given : List A) : Stage A → Stage A → Type 0 where
    behind : {ns : List A} → Distinct ns → Within ns given → Fixes given arrived (following ns)
    by_head : {ns : List A} (head pred : A) → key head < low → key pred < low → Distinct (pred ∷ ns)
        → Within (pred ∷ ns) given → Fixes given arrived (following (head ∷ ns))

-- how many rounds a reader may wait behind Fix: three, and none where no node was ever given
unfoldable pub credit : ℕ → ℕ
credit zero = 0
credit (suc n) = 3

-- ---- what is left, for a reader from `low` up, where at most `total` nodes are ever given; Fix spends the credit
module _ {A : Type 0} (key : A → ℕ) (low total : ℕ) where
  abbrev pub left : Stage A → List A → ℕ
  left (walking p h) given = weigh (walk_cost key low p) given + 2 * (total - length given) + h + 3 + credit total
  left arrived given = weigh (read_cost key low) given + 2 * (total - length given) + 2 + credit total
  left (following ns) given = weigh (read_cost key low) ns + 1
  left (handing ns) given = weigh (read_cost key low) ns + 2

-- ---- what one call may do
-- what is owed does not rise
abbrev pub Owing : {State : Type 0} → (State → ℕ → ℕ) → State → State → Type 0
Owing owes σ τ = (i : ℕ) → owes τ i ≤ owes σ i

-- a step of another may give one node (its Prepare)
pub data Gives {State A : Type 0} (given : State → List A) (σ τ : State) : Type 0 where
  gives_none : given τ ≡ given σ → Gives given σ τ
  gives_one : (x : A) → given τ ≡ x ∷ given σ → Gives given σ τ

-- a step of the reader's own; only Fix may make others owe it more
pub data Own {State A : Type 0} (key : A → ℕ) (low : ℕ) (stage : State → Stage A) (given : State → List A)
    (owes : State → ℕ → ℕ) (σ τ : State) : Type 0 where
  move : (s t : Stage A) → stage σ ≡ s → stage τ ≡ t → Moves key low (given σ) s t
      → given τ ≡ given σ → Owing owes σ τ → Own key low stage given owes σ τ
  fix : (s t : Stage A) → stage σ ≡ s → stage τ ≡ t → Fixes key low (given σ) s t
      → given τ ≡ given σ → Own key low stage given owes σ τ
  wait : stage τ ≡ stage σ → given τ ≡ given σ → Owing owes σ τ
      → (i : ℕ) → 0 < owes σ i → Own key low stage given owes σ τ

-- ---- what a register owes of one call, for a reader of session `q`; `Good` holds while the query is open
module _ {State Call A : Type 0} (go : State → Call → State) (who : State → Call → Option ℕ)
    (Busy : State → ℕ → Type 0) (q : ℕ) (Good : State → Type 0) (key : A → ℕ) (low : ℕ)
    (stage : State → Stage A) (given : State → List A) (owes : State → ℕ → ℕ) where
  pub record CallFacts : Type 0 where
    pub open_busy : (σ : State) → Good σ → Busy σ q
    pub owes_most : (σ : State) → Good σ → (i : ℕ) → owes σ i ≤ credit (length (given σ))
    pub owes_busy : (σ : State) → Good σ → (i : ℕ) → 0 < owes σ i → Busy σ i × (i ≢ q)
    pub quiet : (σ : State) (c : Call) → Good σ → Good (go σ c) → who σ c ≡ none
        → (stage (go σ c) ≡ stage σ) × (given (go σ c) ≡ given σ) × Owing owes σ (go σ c)
    pub other : (σ : State) (c : Call) (i : ℕ) → Good σ → Good (go σ c) → who σ c ≡ some i → i ≢ q
        → (stage (go σ c) ≡ stage σ) × Gives given σ (go σ c) × Owing owes σ (go σ c)
        × (0 < owes σ i → owes (go σ c) i < owes σ i)
    pub own : (σ : State) (c : Call) → Good σ → Good (go σ c) → who σ c ≡ some q
        → Own key low stage given owes σ (go σ c)
