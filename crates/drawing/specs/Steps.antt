-- The control of document 01's steps: from phase to phase, with guards; each step has an answer and an effect.
-- In order: answers; Lock; Check; keys; starting; steps; how drawings go on; when a step waits.
-- A step that waits changes nothing: it is no `Step`.
-- Not here: what an effect changes (Effects); whether a node is left, by which words choose between full and laying;
-- what answers say (Answers). Assumes nothing.
use Rattle.std.specs.Prelude.{true, false, ◌⊎◌, ◌≢◌, ◌≡◌, List, [], ◌∷◌, ◌++◌, ℕ, suc, ◌≤◌, ◌<◌}
use Rattle.std.proofs.Math.Option.{Option, some}
use Rattle.order.specs.Set.{Pair, Update, insert, remove}
use Rattle.order.specs.Rows.{Row, wait, found, read_at, read_newest}
use Rattle.order.specs.History.{head, tail, Start, entry}
use Rattle.drawing.specs.Phases.{Op, upd, has, range, key_in, sought, pred_target, node_target, OfRemove}
use Rattle.drawing.specs.Phases.{Phase, idle, walking, locking, locking_curr, checking, preparing, numbering}
use Rattle.drawing.specs.Phases.{linking, finishing, seeking, fixing, following, handing, arrived, locked}
use Rattle.drawing.specs.Drawing.{final, pending, shown, Drawing, now}
use Rattle.drawing.specs.Effects.{Effect, stays, holds, leaves, lays, numbers, links, finishes, after, begun}

-- ---- answers
pub data Out : Type 0 where
  working present absent full : Out
  inserted removed : (number : ℕ) → Out
  key_value : (key value : ℕ) → Out
  ended : (snapshot : ℕ) → (handed : List Pair) → Out

abbrev pub done : Update → ℕ → Out
done (insert k v) n = inserted n
done (remove k) n = removed n

-- ---- Lock: another holds it, or no other does
abbrev pub Held : ℕ → Option ℕ → Type 0
Held t lock = (w : ℕ) × (lock ≡ some w) × (w ≢ t)

abbrev pub Free : ℕ → Option ℕ → Type 0
Free t lock = (w : ℕ) → lock ≡ some w → w ≡ t

-- ---- Check: neither is removed and pred leads to curr; or not
abbrev pub Good : Drawing → Update → (pred curr : ℕ) → Type 0
Good m u p q = (m.gone p ≡ false) × (m.plain p ≡ q) × OfRemove u (m.gone q ≡ false)

abbrev pub Stale : Drawing → Update → (pred curr : ℕ) → Type 0
Stale m u p q = (m.gone p ≡ true) ⊎ ((m.plain p ≢ q) ⊎ ((k : ℕ) × (u ≡ remove k) × (m.gone q ≡ true)))

module _ (key val : ℕ → ℕ) where
  -- a start's keys are between the head's and the tail's
  abbrev pub Fine : Op → Type 0
  Fine (upd u) = (key head < key_in u) × (key_in u < key tail)
  Fine (has k) = (key head < k) × (k < key tail)
  Fine (range low high) = (key head < low) × (low ≤ high) × (high < key tail)

  -- curr's key lets the update go on
  abbrev pub Meets : Update → (curr : ℕ) → Type 0
  Meets (insert k v) q = key q ≢ k
  Meets (remove k) q = key q ≡ k

  -- ---- a start of `t`, and the phase that it sets: pred is the head, curr its plain next
  pub data Starts (t : ℕ) (m : Drawing) : Phase → Type 0 where
    starts : (op : Op) → m.phase t ≡ idle → Fine op → Starts t m (walking op head (m.plain head))

  module _ (start : Start) where
    -- ---- a step of `t`: its answer, its effect and its next phase
    pub data Step (t : ℕ) (m : Drawing) : Out → Effect → Phase → Type 0 where
      walk_on : (op : Op) (p q : ℕ) → m.phase t ≡ walking op p q → key q < sought op →
          Step t m working stays (walking op q (m.plain q))
      walk_arrive : (op : Op) (p q : ℕ) → m.phase t ≡ walking op p q → sought op ≤ key q →
          Step t m working stays (arrived op p q)
      lock_pred : (u : Update) (p q : ℕ) → m.phase t ≡ locking u p q → Free t (m.lock p) →
          Step t m working (holds p) (locked u p q)
      lock_curr : (k p q : ℕ) → m.phase t ≡ locking_curr k p q → Free t (m.lock q) →
          Step t m working (holds q) (checking (remove k) p q)
      check_again : (u : Update) (p q : ℕ) → m.phase t ≡ checking u p q → Stale m u p q →
          Step t m working leaves (walking (upd u) head (m.plain head))
      check_present : (k v p q : ℕ) → m.phase t ≡ checking (insert k v) p q → Good m (insert k v) p q →
          key q ≡ k → Step t m present leaves idle
      check_absent : (k p q : ℕ) → m.phase t ≡ checking (remove k) p q → Good m (remove k) p q →
          key q ≢ k → Step t m absent leaves idle
      check_pass : (u : Update) (p q : ℕ) → m.phase t ≡ checking u p q → Good m u p q → Meets u q →
          Step t m working stays (preparing u p q)
      prepare_full : (k v p q : ℕ) (r : Row) → m.phase t ≡ preparing (insert k v) p q → m.bundle p ≡ final r →
          Step t m full leaves idle
      prepare_insert : (k v p q : ℕ) (r : Row) (n : ℕ) → m.phase t ≡ preparing (insert k v) p q →
          m.bundle p ≡ final r → m.bundle n ≡ final [] → n ≢ tail → key n ≡ k → val n ≡ v →
          Step t m working (lays (insert k v) p n q r []) (numbering (insert k v) p n q (now start m))
      prepare_remove : (k p q : ℕ) (r r₂ : Row) → m.phase t ≡ preparing (remove k) p q →
          m.bundle p ≡ final r → m.bundle q ≡ final r₂ →
          Step t m working (lays (remove k) p q (m.plain q) r r₂)
          (numbering (remove k) p q (m.plain q) (now start m))
      number_it : (u : Update) (p y z c : ℕ) → m.phase t ≡ numbering u p y z c →
          Step t m working (numbers u p y z) (linking u p y z c (suc (now start m)))
      link_it : (u : Update) (p y z c n : ℕ) → m.phase t ≡ linking u p y z c n →
          Step t m working (links u p y z) (finishing u p y z c n)
      finish_it : (u : Update) (p y z c n : ℕ) (r r₂ : Row) → m.phase t ≡ finishing u p y z c n →
          m.bundle p ≡ pending t c (pred_target u y z) r → m.bundle y ≡ pending t c (node_target u y z) r₂ →
          Step t m (done u n) (finishes u p y z n r r₂) idle
      seek_on : (k x q : ℕ) → m.phase t ≡ seeking k x → read_newest (shown (m.bundle x)) ≡ found (some q) →
          key q < k → Step t m working stays (seeking k q)
      seek_present : (k x q : ℕ) → m.phase t ≡ seeking k x → read_newest (shown (m.bundle x)) ≡ found (some q) →
          key q ≡ k → Step t m present stays idle
      seek_absent : (k x q : ℕ) → m.phase t ≡ seeking k x → read_newest (shown (m.bundle x)) ≡ found (some q) →
          k < key q → Step t m absent stays idle
      fix_it : (low high p : ℕ) → m.phase t ≡ fixing low high p →
          Step t m working stays (following low high p (now start m) [])
      follow_on : (low high x s q : ℕ) (handed : List Pair) → m.phase t ≡ following low high x s handed →
          read_at s (shown (m.bundle x)) ≡ found (some q) → key q < low →
          Step t m working stays (following low high q s handed)
      follow_in : (low high x s q : ℕ) (handed : List Pair) → m.phase t ≡ following low high x s handed →
          read_at s (shown (m.bundle x)) ≡ found (some q) → low ≤ key q → key q ≤ high →
          Step t m working stays (handing low high q s handed)
      follow_end : (low high x s q : ℕ) (handed : List Pair) → m.phase t ≡ following low high x s handed →
          read_at s (shown (m.bundle x)) ≡ found (some q) → low ≤ key q → high < key q →
          Step t m (ended s handed) stays idle
      hand_out : (low high x s : ℕ) (handed : List Pair) → m.phase t ≡ handing low high x s handed →
          Step t m (key_value (key x) (val x)) stays (following low high x s (handed ++ (entry key val x ∷ [])))

    -- ---- drawings go on by starts and steps of any session, each on the drawing that the last one left
    pub data GoesOn (m : Drawing) : Drawing → Type 0 where
      starting : (t : ℕ) {φ : Phase} → Starts t m φ → GoesOn m (begun start m t φ)
      stepping : (t : ℕ) {o : Out} {f : Effect} {φ : Phase} → Step t m o f φ → GoesOn m (after start m t f φ)

-- ---- when a step waits. The newest entry is pending
abbrev pub Pending : Drawing → ℕ → Type 0
Pending m x = read_newest (shown (m.bundle x)) ≡ wait

abbrev pub WaitsIn : ℕ → Drawing → Phase → Type 0
WaitsIn t m idle = ⊥
WaitsIn t m (walking op p q) = ⊥
WaitsIn t m (locking u p q) = Held t (m.lock p)
WaitsIn t m (locking_curr k p q) = Held t (m.lock q)
WaitsIn t m (checking u p q) = ⊥
WaitsIn t m (preparing u p q) = Pending m p ⊎ ((k : ℕ) × (u ≡ remove k) × Pending m q)
WaitsIn t m (numbering u p y z c) = ⊥
WaitsIn t m (linking u p y z c n) = ⊥
WaitsIn t m (finishing u p y z c n) = ⊥
WaitsIn t m (seeking k x) = Pending m x
WaitsIn t m (fixing low high p) = ⊥
WaitsIn t m (following low high x s handed) = read_at s (shown (m.bundle x)) ≡ wait
WaitsIn t m (handing low high x s handed) = ⊥

abbrev pub Waits : ℕ → Drawing → Type 0
Waits t m = WaitsIn t m (m.phase t)
