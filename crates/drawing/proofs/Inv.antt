-- The invariant of the drawing, what a session may rely on, and what its step grants.
-- In order: nodes that are given; what a phase holds and where its entries are; each phase's facts; the invariant;
-- what a step of another leaves alone; what a step shows of the drawing that it makes.
-- Locks are ownership: plain links are spoken of where no lock is, and a held node's facts are its holder's.
-- Not here: that steps keep it (Keeps), and the history, which no step's grant speaks of: it comes from what steps
-- number (Owes), by the record of shapes (Shape). Assumes nothing.
use mathlib.Core.Path.{◌≡◌}
use mathlib.Core.Logic.{◌⊎◌, ◌≢◌}
use mathlib.Core.Bool.{false}
use mathlib.Core.Option.{Option, none, some}
use mathlib.Core.List.{List, [], ◌∷◌, ◌++◌, map, Memᴰ}
use Prim.Native.Nat.{ℕ, ◌≤◌, ◌<◌}
use Rattle.order.specs.Set.{Pair, key_of, within, Update, insert, remove}
use Rattle.order.specs.Rows.{Row}
use Rattle.order.specs.History.{head, tail, next, ins, rem, Log, Removed, Start, up_to, Given, entry, set_of, members}
use Rattle.order.specs.Shape.{Known}
use Rattle.drawing.specs.Phases.{upd, has, range, key_in, sought, pred_target, node_target, old_next, OfRemove}
use Rattle.drawing.specs.Phases.{Phase, idle, walking, locking, locking_curr, checking, preparing, numbering}
use Rattle.drawing.specs.Phases.{linking, finishing, seeking, fixing, following, handing}
use Rattle.drawing.specs.Drawing.{final, pending, Drawing, now}
use Rattle.drawing.specs.Steps.{Good, Fine, Meets}
use Rattle.drawing.specs.Answers.{Numbered}
use Rattle.drawing.proofs.Ahead.{Ahead}

-- ---- what a phase holds locked, and where its pending entries are
abbrev pub Two : Update → (pred node : ℕ) → ℕ → Type 0
Two (insert k v) p y x = x ≡ p
Two (remove k) p y x = (x ≡ p) ⊎ (x ≡ y)

abbrev pub Holds : Phase → ℕ → Type 0
Holds idle x = ⊥
Holds (walking op p q) x = ⊥
Holds (locking u p q) x = ⊥
Holds (locking_curr k p q) x = x ≡ p
Holds (checking u p q) x = Two u p q x
Holds (preparing u p q) x = Two u p q x
Holds (numbering u p y z c) x = Two u p y x
Holds (linking u p y z c n) x = Two u p y x
Holds (finishing u p y z c n) x = Two u p y x
Holds (seeking k y) x = ⊥
Holds (fixing low high p) x = ⊥
Holds (following low high y s handed) x = ⊥
Holds (handing low high y s handed) x = ⊥

abbrev pub Pends : Phase → ℕ → Type 0
Pends idle x = ⊥
Pends (walking op p q) x = ⊥
Pends (locking u p q) x = ⊥
Pends (locking_curr k p q) x = ⊥
Pends (checking u p q) x = ⊥
Pends (preparing u p q) x = ⊥
Pends (numbering u p y z c) x = (x ≡ p) ⊎ (x ≡ y)
Pends (linking u p y z c n) x = (x ≡ p) ⊎ (x ≡ y)
Pends (finishing u p y z c n) x = (x ≡ p) ⊎ (x ≡ y)
Pends (seeking k y) x = ⊥
Pends (fixing low high p) x = ⊥
Pends (following low high y s handed) x = ⊥
Pends (handing low high y s handed) x = ⊥

module _ (start : Start) where
  -- ---- the head, or a node whose insertion has its number; and with the tail
  abbrev pub On : Drawing → ℕ → Type 0
  On m x = (x ≡ head) ⊎ Given start x m.log

  abbrev pub At : Drawing → ℕ → Type 0
  At m x = On m x ⊎ (x ≡ tail)

  -- where the effective rows lead now
  abbrev pub lead : Drawing → ℕ → Option ℕ
  lead m x = next m.rows (now start m) x

  -- a node is given once and removed once, after that
  abbrev pub Once : Log → Type 0
  Once [] = Unit {0}
  Once (ins y ∷ log) = (¬ Given start y log) × Once log
  Once (rem y ∷ log) = Given start y log × (¬ Removed y log) × Once log

module _ (key val : ℕ → ℕ) (start : Start) where
  -- in the set now, or the head
  abbrev pub In : Drawing → ℕ → Type 0
  In m x = Memᴰ x (head ∷ members key start m.log)

  -- plain link and mark agree with the effective row: false only at a session between Number and Link
  abbrev pub Coupled : Drawing → ℕ → Type 0
  Coupled m x = On start m x → m.gone x ≡ false → In m x × (lead start m x ≡ some (m.plain x))

  -- ---- each phase's facts
  pub record Stand (m : Drawing) (k p q : ℕ) : Type 0 where
    pub pred_on : On start m p
    pub curr_at : At start m q
    pub below : key p < k
    pub rise : key p < key q

  pub record Reach (m : Drawing) (u : Update) (p q : ℕ) : Type 0 where
    pub fine : Fine key val (upd u)
    pub stand : Stand m (key_in u) p q
    pub reach : key_in u ≤ key q

  pub record Grip (m : Drawing) (t : ℕ) (u : Update) (p y : ℕ) : Type 0 where
    pub lock_p : m.lock p ≡ some t
    pub lock_y : OfRemove u (m.lock y ≡ some t)

  pub record Sound (m : Drawing) (u : Update) (p y : ℕ) : Type 0 where
    pub pred : Coupled m p
    pub node : OfRemove u (Coupled m y)

  -- the new node is in no update yet; the removed one is in the set
  abbrev pub Named : Drawing → Update → ℕ → Type 0
  Named m (insert k v) y = (¬ At start m y) × (key y ≡ k) × (val y ≡ v)
  Named m (remove k) y = On start m y × (key y ≡ k)

  -- two entries laid, not numbered
  pub record Laid (m : Drawing) (t : ℕ) (u : Update) (p y z c : ℕ) : Type 0 where
    pub pend_p : m.bundle p ≡ pending t c (pred_target u y z) (m.rows p)
    pub pend_y : m.bundle y ≡ pending t c (node_target u y z) (m.rows y)
    pub carried : c ≤ now start m
    pub pred_on : On start m p
    pub pred_gone : m.gone p ≡ false
    pub pred_next : m.plain p ≡ old_next u y z
    pub node_gone : m.gone y ≡ false
    pub node_next : m.plain y ≡ z
    pub behind : At start m z
    pub low : key p < key y
    pub up : key y < key z
    pub named : Named m u y

  -- two entries laid and numbered
  pub record Dated (m : Drawing) (t : ℕ) (u : Update) (p y z c n : ℕ) : Type 0 where
    pub row_p : Row
    pub row_y : Row
    pub pend_p : m.bundle p ≡ pending t c (pred_target u y z) row_p
    pub pend_y : m.bundle y ≡ pending t c (node_target u y z) row_y
    pub rows_p : m.rows p ≡ (n, pred_target u y z) ∷ row_p
    pub rows_y : m.rows y ≡ (n, node_target u y z) ∷ row_y
    pub carried : c < n
    pub distinct : p ≢ y

  -- numbered and not linked: pred's plain next is behind its row
  pub record Owing (m : Drawing) (u : Update) (p y z : ℕ) : Type 0 where
    pub pred_in : In m p
    pub pred_lead : lead start m p ≡ some (pred_target u y z)
    pub rise : key p < key (pred_target u y z)
    pub target : At start m (pred_target u y z)
    pub node_next : m.plain y ≡ z

  -- a range in its snapshot: what was handed out, and what it will find ahead, are the answer
  pub record Ranging (m : Drawing) (t low high x s : ℕ) (handed : List Pair) : Type 0 where
    pub fine : Fine key val (range low high)
    pub from_base : start.base ≤ s
    pub in_past : s ≤ now start m
    pub late : m.since t ≤ s
    pub on : (x ≡ head) ⊎ Given start x (up_to start s m.log)
    pub ahead : List ℕ
    pub reads : Ahead key (next m.rows s) high x ahead
    pub whole : handed ++ map (entry key val) (within key low high ahead)
        ≡ within key_of low high (set_of key val start (up_to start s m.log))

  abbrev pub Facts : Drawing → ℕ → Phase → Type 0
  Facts m t idle = Unit {0}
  Facts m t (walking op p q) = Fine key val op × Stand m (sought op) p q
  Facts m t (locking u p q) = Reach m u p q
  Facts m t (locking_curr k p q) = Reach m (remove k) p q × (m.lock p ≡ some t) × Coupled m p
  Facts m t (checking u p q) = Reach m u p q × Grip m t u p q × Sound m u p q
  Facts m t (preparing u p q) = Reach m u p q × Grip m t u p q × Sound m u p q × Good m u p q × Meets key val u q
  Facts m t (numbering u p y z c) = Grip m t u p y × Sound m u p y × Laid m t u p y z c
  Facts m t (linking u p y z c n) =
      Grip m t u p y × Dated m t u p y z c n × Owing m u p y z × Numbered key val start m t u n
  Facts m t (finishing u p y z c n) =
      Grip m t u p y × Sound m u p y × Dated m t u p y z c n × Numbered key val start m t u n
  Facts m t (seeking k x) = Fine key val (has k) × On start m x × (key x < k)
  Facts m t (fixing low high p) = Fine key val (range low high) × On start m p × (key p < low)
  Facts m t (following low high x s handed) = Ranging m t low high x s handed
  Facts m t (handing low high x s handed) =
      (low ≤ key x) × (key x ≤ high) × Ranging m t low high x s (handed ++ (entry key val x ∷ []))

  -- ---- the invariant: what the list keeps of its own, and with the history
  pub record Own (m : Drawing) : Type 0 where
    pub once : Once start m.log
    pub links : (x : ℕ) → On start m x → (key x < key (m.plain x)) × At start m (m.plain x)
    pub free : (x : ℕ) → m.lock x ≡ none → Coupled m x
    pub held : (t x : ℕ) → m.lock x ≡ some t → Holds (m.phase t) x × At start m x
    pub settled : (x : ℕ) (r : Row) → m.bundle x ≡ final r → m.rows x ≡ r
    pub owned : (t x c g : ℕ) (r : Row) → m.bundle x ≡ pending t c g r → Pends (m.phase t) x
    pub ends : m.bundle tail ≡ final []
    pub begun : (t : ℕ) → (start.base ≤ m.since t) × (m.since t ≤ now start m)
    pub facts : (t : ℕ) → Facts m t (m.phase t)

  abbrev pub Inv : Drawing → Type 0
  Inv m = Known key start m.rows m.log (Own m)

  -- ---- what a step of another leaves alone for session `t`
  -- a node that is `t`'s: locked by it, or with its pending entry
  abbrev pub Mine : Drawing → ℕ → ℕ → Type 0
  Mine m t x = (m.lock x ≡ some t) ⊎ ((c g : ℕ) × (r : Row) × (m.bundle x ≡ pending t c g r))

  pub record Kept (m m' : Drawing) (x : ℕ) : Type 0 where
    pub plain : m'.plain x ≡ m.plain x
    pub gone : m'.gone x ≡ m.gone x
    pub row : m'.rows x ≡ m.rows x
    pub leads : lead start m' x ≡ lead start m x
    pub stays : In m x → In m' x
    pub unnamed : On start m' x → On start m x

  pub record Rely (t : ℕ) (m m' : Drawing) : Type 0 where
    pub since : m'.since t ≡ m.since t
    pub stamp : now start m ≤ now start m'
    pub on : (x : ℕ) → On start m x → On start m' x
    pub locks : (x : ℕ) → m.lock x ≡ some t → m'.lock x ≡ some t
    pub pends : (x c g : ℕ) (r : Row) → m.bundle x ≡ pending t c g r → m'.bundle x ≡ pending t c g r
    pub kept : (x : ℕ) → Mine m t x → Kept m m' x
    pub past : (s : ℕ) → s ≤ now start m →
        (next m'.rows s ≡ next m.rows s) × (up_to start s m'.log ≡ up_to start s m.log)

  -- nothing is made in `t`'s name
  pub record Apart (t : ℕ) (m m' : Drawing) : Type 0 where
    pub phase : m'.phase t ≡ m.phase t
    pub locks : (x : ℕ) → m'.lock x ≡ some t → m.lock x ≡ some t
    pub pends : (x c g : ℕ) (r : Row) → m'.bundle x ≡ pending t c g r → m.bundle x ≡ pending t c g r

  -- ---- what a step of `t` shows of the drawing that it makes
  pub record Grant (t : ℕ) (m m' : Drawing) : Type 0 where
    pub others : (w : ℕ) → w ≢ t → Rely w m m'
    pub apart : (w : ℕ) → w ≢ t → Apart w m m'
    pub once : Once start m'.log
    pub links : (x : ℕ) → On start m' x → (key x < key (m'.plain x)) × At start m' (m'.plain x)
    pub free : (x : ℕ) → m'.lock x ≡ none → Coupled m' x
    pub held : (x : ℕ) → m'.lock x ≡ some t → Holds (m'.phase t) x × At start m' x
    pub settled : (x : ℕ) (r : Row) → m'.bundle x ≡ final r → m'.rows x ≡ r
    pub owned : (x c g : ℕ) (r : Row) → m'.bundle x ≡ pending t c g r → Pends (m'.phase t) x
    pub ends : m'.bundle tail ≡ final []
    pub begun : (start.base ≤ m'.since t) × (m'.since t ≤ now start m')
    pub facts : Facts m' t (m'.phase t)
