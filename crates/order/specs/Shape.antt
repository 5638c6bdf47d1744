-- What the history asks of a shape (the list, later the skip list): one record that a shape fills in.
-- In order: when an insert and a remove may be numbered; what a step may number; what is known of a state; a shape;
-- what it reaches.
-- A shape's plain links, locks and phases are its own: what it keeps of them (`Own`) is for it to say. The history is
-- no part of that: it follows from what the steps number (proofs/Shape). Assumes nothing.
use Rattle.std.proofs.Math.Option.{some}
use Rattle.std.specs.Prelude.{◌≡◌, ℕ, suc, ◌<◌}
use mathlib.Core.List.{[], ◌∷◌, Memᴰ}
use Rattle.order.specs.Rows.{Row}
use Rattle.order.specs.History.{head, next, number_insert, number_remove, Log, ins, rem, Start, stamp, rows_from}
use Rattle.order.specs.History.{members, History}

module _ (key : ℕ → ℕ) (start : Start) (rows : ℕ → Row) (log : Log) where
  -- ---- an insert of `new`: pred is in the set (or the head) and leads to curr, the new key lies between theirs, and
  -- the new node has no link yet
  pub record MayInsert (pred curr new : ℕ) : Type 0 where
    pub pred_in : Memᴰ pred (head ∷ members key start log)
    pub leads : next rows (stamp start log) pred ≡ some curr
    pub above_pred : key pred < key new
    pub below_curr : key new < key curr
    pub unlinked : rows new ≡ []

  -- ---- a remove of `curr`: pred is in the set (or the head) and leads to curr, which is in the set and leads to succ
  pub record MayRemove (pred curr succ : ℕ) : Type 0 where
    pub pred_in : Memᴰ pred (head ∷ members key start log)
    pub leads : next rows (stamp start log) pred ≡ some curr
    pub curr_in : Memᴰ curr (members key start log)
    pub leads_on : next rows (stamp start log) curr ≡ some succ

  -- ---- what a step may number: nothing, an insert or a remove, with the number after the stamp
  pub data Numbers : (ℕ → Row) → Log → Type 0 where
    nothing : Numbers rows log
    an_insert : (pred curr new : ℕ) → MayInsert pred curr new
        → Numbers (number_insert rows (suc (stamp start log)) pred curr new) (ins new ∷ log)
    a_remove : (pred curr succ : ℕ) → MayRemove pred curr succ
        → Numbers (number_remove rows (suc (stamp start log)) pred curr succ) (rem curr ∷ log)

-- ---- what is known of a state: its history, and what its shape keeps of its own
pub record Known (key : ℕ → ℕ) (start : Start) (rows : ℕ → Row) (log : Log) (Own : Type 0) : Type 0 where
  pub hist : History key start rows log
  pub own : Own

-- ---- a shape: states that go on by steps, each with its effective rows and its log. It has to show of a step that
-- it numbers no more than it may, and that it keeps its own; the history of the state before is known to it
pub record Shape (key : ℕ → ℕ) (start : Start) : Type 1 where
  pub State : Type 0
  pub rows : State → ℕ → Row
  pub log : State → Log
  pub Own : State → Type 0
  pub Begins : State → Type 0
  pub Goes : State → State → Type 0
  pub begins : (σ : State) → Begins σ → (rows σ ≡ rows_from start) × (log σ ≡ [])
  pub own_begins : (σ : State) → Begins σ → History key start (rows σ) (log σ) → Own σ
  pub numbers : (σ τ : State) → Goes σ τ → Known key start (rows σ) (log σ) (Own σ)
      → Numbers key start (rows σ) (log σ) (rows τ) (log τ)
  pub keeps : (σ τ : State) → Goes σ τ → Known key start (rows σ) (log σ) (Own σ) → Own τ

module _ {key : ℕ → ℕ} {start : Start} (S : Shape key start) where
  abbrev pub Holds : S.State → Type 0
  Holds σ = Known key start (S.rows σ) (S.log σ) (S.Own σ)

  -- ---- what it reaches
  pub data ReachedBy : S.State → Type 0 where
    at_beginning : {σ : S.State} → S.Begins σ → ReachedBy σ
    gone_on : {σ τ : S.State} → ReachedBy σ → S.Goes σ τ → ReachedBy τ
