-- Demand 3's bounds, as types: proofs/Bounds proves each of exactly its type.
-- In order: a query on its walk (a range, a first, a has with a snapshot; `h` descents: none on the list, 7 on the
-- skip list); a range as of a stamp; what a reader waits for; demand 3 whole; a report on two stamps.
-- `w` is the window. The nodes are those given to keys by then, that is, at the end of the calls. `suc` counts the
-- step that ends the query in. W = 0 promises nothing: no calls are then fair while the query is open.
-- Not here: proofs. Assumes nothing.
use Rattle.std.specs.Prelude.{◌≡◌, List, ℕ, suc, ◌+◌, ◌*◌, ◌≤◌, ◌<◌, length}
use Rattle.std.proofs.Math.Option.{Option, some}
use Rattle.fairness.specs.Calls.{after, Along, steps, Fair, FairWhile, OpenOrEnded}
use Rattle.fairness.specs.Facts.{Facts, Level}
use Rattle.fairness.specs.Weigh.{Distinct, Within}
use Rattle.fairness.specs.Reader.{Stage, walking, following, Fixed, credit, Owing, CallFacts}

module _ {State Call A : Type 0} (go : State → Call → State) (who : State → Call → Option ℕ)
    (Busy : State → ℕ → Type 0) (q : ℕ) (Good : State → Type 0) (key : A → ℕ) (low : ℕ)
    (stage : State → Stage A) (given : State → List A) (owes : State → ℕ → ℕ) where
  -- `Few` of the window, the nodes given by then and the counted steps, as long as the query is open
  abbrev pub Promise : (ℕ → ℕ → ℕ → Type 0) → (State → Type 0) → Type 0
  Promise Few Begins = CallFacts go who Busy q Good key low stage given owes
      → (w : ℕ) (σ : State) (calls : List Call) → Begins σ → Along go Good σ calls → Fair go who Busy w σ calls
      → Few w (length (given (after go σ calls))) (steps go who σ calls)

  -- ---- at the start of its walk, at a pred with key `p`, nobody owing it
  abbrev pub Walks : ℕ → ℕ → State → Type 0
  Walks p h σ = (stage σ ≡ walking p h) × ((i : ℕ) → owes σ i ≡ 0)

  abbrev pub WalkEnds : Type 0
  WalkEnds = (p h : ℕ) → Promise (λ w n s. suc s < w * (3 * n + 6 + h)) (Walks p h)

  -- the sharper bound that the measure gives
  abbrev pub WalkSharp : Type 0
  WalkSharp = (p h : ℕ) → Promise (λ w n s. s < w * (2 * n + 6 + h)) (Walks p h)

  -- where no node was ever given
  abbrev pub WalkNone : Type 0
  WalkNone = (p h : ℕ) → Promise (λ w n s. n ≡ 0 → s < w * (3 + h)) (Walks p h)

  -- ---- in a snapshot from its start
  abbrev pub Reads : List A → State → Type 0
  Reads ns σ = (stage σ ≡ following ns) × Distinct ns × Within ns (given σ)

  abbrev pub AsOfEnds : Type 0
  AsOfEnds = (ns : List A) → Promise (λ w n s. suc s < w * (3 * n + 6)) (Reads ns)

  abbrev pub AsOfSharp : Type 0
  AsOfSharp = (ns : List A) → Promise (λ w n s. s < w * (2 * n + 4)) (Reads ns)

  -- ---- in its snapshot a reader waits only for what was owed when it fixed it
  abbrev pub OwedSince : Type 0
  OwedSince = CallFacts go who Busy q Good key low stage given owes → (σ : State) (calls : List Call)
      → Along go Good σ calls → Along go (λ x. Fixed (stage x)) σ calls → Owing owes σ (after go σ calls)

  -- so whoever holds it up now, in a step of its own that leaves it where it stands, owed it steps at that time
  abbrev pub WaitsSince : Type 0
  WaitsSince = CallFacts go who Busy q Good key low stage given owes → (σ : State) (calls : List Call) (c : Call)
      → Along go Good σ calls → Along go (λ x. Fixed (stage x)) σ calls
      → who (after go σ calls) c ≡ some q → Good (go (after go σ calls) c)
      → stage (go (after go σ calls) c) ≡ stage (after go σ calls)
      → (i : ℕ) × (0 < owes (after go σ calls) i) × (0 < owes σ i)

-- ---- demand 3 whole. `Inv` is what every call keeps; `Open`, that the query is open; the calls are fair while it is
module _ {State Call A : Type 0} (go : State → Call → State) (who : State → Call → Option ℕ)
    (Busy : State → ℕ → Type 0) (q : ℕ) (Open Inv : State → Type 0) (key : A → ℕ) (low : ℕ)
    (stage : State → Stage A) (given : State → List A) (owes : State → ℕ → ℕ) where
  abbrev pub Opens : State → Type 0
  Opens σ = Open σ × Inv σ

  -- `rounds n` windows are enough where `n` nodes are given by then
  abbrev pub Demand : (rounds : ℕ → ℕ) → (State → Type 0) → Type 0
  Demand rounds Begins = ((σ : State) (c : Call) → Inv σ → Inv (go σ c)) → ((σ : State) → Dec (Open σ))
      → CallFacts go who Busy q Opens key low stage given owes
      → (w : ℕ) (σ : State) (calls : List Call) → Opens σ → Begins σ → FairWhile go who Open Busy w σ calls
      → OpenOrEnded go Open who (λ τ. w * rounds (length (given τ))) σ calls

  abbrev pub WalkDemand : Type 0
  WalkDemand = (p h : ℕ)
      → Demand (λ n. 3 * n + 6 + h) (Walks go who Busy q Opens key low stage given owes p h)

  abbrev pub AsOfDemand : Type 0
  AsOfDemand = (ns : List A) → Demand (λ n. 3 * n + 6) (Reads go who Busy q Opens key low stage given owes ns)

-- ---- a report: at most 2n + 1 steps of its own in each of two snapshots, over a measure of its own
module _ {State Call : Type 0} (go : State → Call → State) (who : State → Call → Option ℕ)
    (Busy : State → ℕ → Type 0) (q : ℕ) (Good : State → Type 0) (left : State → ℕ) (owes : State → ℕ → ℕ) where
  abbrev pub ReportEnds : Type 0
  ReportEnds = Facts go who Busy q Good left owes → (w n : ℕ) (σ : State) (calls : List Call)
      → left σ ≤ 2 * (2 * n + 1) → Level left owes (credit n) σ → Along go Good σ calls → Fair go who Busy w σ calls
      → suc (steps go who σ calls) < w * (2 * (3 * n + 6))
