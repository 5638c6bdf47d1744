-- What it is that the words of a register show a drawing.
-- In order: words of locks and marks; nodes; rows; a session's record; entries used; the history; all of it, and the
-- invariant with it; one step.
-- `key` and `val` are any functions that agree with the words of the nodes in use. `own x` lists the entry numbers of
-- the row of node x, newest first. Not here: that steps keep it. Assumes nothing.
use Prim.Native.Nat.{ℕ, ◌+◌, ◌*◌, ◌≤◌, ◌<◌}
use mathlib.Core.Path.{◌≡◌}
use mathlib.Core.Logic.{◌⊎◌, ◌≢◌}
use mathlib.Core.Bool.{Bool, true, false}
use mathlib.Core.Option.{Option, none, some}
use mathlib.Core.List.{List, [], ◌∷◌, map, Memᴰ}
use native.Mathlib.Omega.{arith}
use lib.ListN.{length}
use Rattle.order.specs.Set.{Pair, Update, insert, remove}
use Rattle.order.specs.History.{head, tail, Removed, empty, said}
use Rattle.order.specs.Shape.{ReachedBy}
use Rattle.order.proofs.Shape.{shape_history}
use Rattle.bundle.specs.Shows.{Shows}
use Rattle.nodes.specs.Nodes.{key_at, value_at, next_at, lock_at, removed_at, newest_at}
use Rattle.terms.specs.Terms.{small, tail_key}
use Rattle.terms.specs.declared.Size.{Size}
use Rattle.terms.specs.declared.Op
use Rattle.terms.specs.declared.Refusal.{Refusal}
use Rattle.terms.specs.declared.Answer.{Answer}
use Rattle.steps.specs.declared.Phase
use Rattle.steps.specs.declared.Session.{Session}
use Rattle.steps.specs.Steps
use Rattle.sixteen.specs.declared.Call.{Call}
use Rattle.reached.specs.Reached.{State, stamp_of, record_of, go, answer, Past, note}
use Rattle.drawing.specs.Phases.{Op, upd, has, range, Phase, idle, walking, locking, locking_curr, checking, preparing}
use Rattle.drawing.specs.Phases.{numbering, linking, finishing, seeking, fixing, following, handing, task}
use Rattle.drawing.specs.Drawing.{Owned, final, pending, shown, Drawing, now}
use Rattle.drawing.specs.Effects.{Effect, after}
use Rattle.drawing.specs.Steps.{Out, working, present, absent, full, inserted, removed, key_value, ended, Step, Waits}
use Rattle.drawing.proofs.Inv.{Inv}
use Rattle.drawing.proofs.Shape.{list_shape}
use Rattle.drawing.proofs.Ahead.{Distinct}

-- ---- words of locks and marks
abbrev pub lock_word : Option ℕ → ℕ
lock_word none = 0
lock_word (some t) = t + 1

abbrev pub gone_word : Bool → ℕ
gone_word false = 0
gone_word true = 1

-- ---- the functions agree with the words of the nodes in use
pub record Agrees (key val : ℕ → ℕ) (used : ℕ) (ns : List ℕ) : Type 0 where
  pub keyed : (x : ℕ) → x < used → key_at ns x ≡ key x
  pub valued : (x : ℕ) → x < used → value_at ns x ≡ val x

-- ---- nodes in use: plain links, locks and marks
pub record Nodes (used : ℕ) (ns : List ℕ) (m : Drawing) : Type 0 where
  pub plain : (x : ℕ) → x < used → next_at ns x ≡ m.plain x
  pub lock : (x : ℕ) → x < used → lock_at ns x ≡ lock_word (m.lock x)
  pub gone : (x : ℕ) → x < used → removed_at ns x ≡ gone_word (m.gone x)

-- ---- rows: strictly falling entry numbers, all below b; no entry in two rows
abbrev pub Sinks : ℕ → List ℕ → Type 0
Sinks b [] = Unit {0}
Sinks b (e ∷ own) = (e < b) × Sinks e own

pub record Rows (size used laid : ℕ) (ns es : List ℕ) (own : ℕ → List ℕ) (m : Drawing) : Type 0 where
  pub shows : (x : ℕ) → x < used → Shows size es (shown (m.bundle x)) (own x) (newest_at ns x)
  pub sinks : (x : ℕ) → x < used → Sinks laid (own x)
  pub apart : (x y e : ℕ) → x < used → y < used → Memᴰ e (own x) → Memᴰ e (own y) → x ≡ y
  pub blank : (x : ℕ) → used ≤ x → m.bundle x ≡ final []

-- ---- a session's record
abbrev pub op_word : Op → Op.Op
op_word (upd (insert k v)) = Op.Op.Insert k v
op_word (upd (remove k)) = Op.Op.Remove k
op_word (has k) = Op.Op.Has k
op_word (range low high) = Op.Op.Range low high

-- the operation that a phase serves, or none
abbrev pub task_word : Option Op → Op.Op
task_word none = Op.Op.None
task_word (some op) = op_word op

abbrev pub running : Op → Phase.Phase → Session
running op phase = record { op = op_word op; phase = phase }

-- e is the newest entry of the row
abbrev pub Newest : ℕ → List ℕ → Type 0
Newest e own = (rest : List ℕ) × (own ≡ e ∷ rest)

abbrev pub Laid : (ℕ → List ℕ) → (p y : ℕ) → (ℕ → ℕ → Type 0) → Type 0
Laid own p y Says = (lower upper : ℕ) × Newest lower (own p) × Newest upper (own y) × Says lower upper

abbrev pub Runs : (ℕ → List ℕ) → Phase → Session → Type 0
Runs own idle s = s ≡ Steps.idle
Runs own (walking op p q) s = s ≡ running op (Phase.Phase.Walk p q)
Runs own (locking u p q) s = s ≡ running (upd u) (Phase.Phase.Lock p q)
Runs own (locking_curr k p q) s = s ≡ running (upd (remove k)) (Phase.Phase.LockCurr p q)
Runs own (checking u p q) s = s ≡ running (upd u) (Phase.Phase.Check p q)
Runs own (preparing u p q) s = s ≡ running (upd u) (Phase.Phase.Prepare p q)
Runs own (numbering u p y z c) s = Laid own p y (λ lo hi. s ≡ running (upd u) (Phase.Phase.Number p y lo hi))
Runs own (linking u p y z c n) s = Laid own p y (λ lo hi. s ≡ running (upd u) (Phase.Phase.Link p y lo hi n))
Runs own (finishing u p y z c n) s = Laid own p y (λ lo hi. s ≡ running (upd u) (Phase.Phase.Finish p y lo hi n))
Runs own (seeking k x) s = s ≡ running (has k) (Phase.Phase.Newest x)
Runs own (fixing low high p) s = s ≡ running (range low high) (Phase.Phase.Fix p)
Runs own (following low high x t given) s =
    s ≡ running (range low high) (Phase.Phase.Follow x t (length given))
Runs own (handing low high x t given) s = s ≡ running (range low high) (Phase.Phase.Hand x t (length given))

-- ---- entries used: one at the start, two for each node given and two for each node whose remove is laid
abbrev pub BeingCut : Drawing → ℕ → Type 0
BeingCut m x = (t k p z c : ℕ) × (m.phase t ≡ numbering (remove k) p x z c)

pub record Cuts (used laid : ℕ) (m : Drawing) : Type 0 where
  pub cuts : List ℕ
  pub once : Distinct cuts
  pub in_use : (x : ℕ) → Memᴰ x cuts → (2 ≤ x) × (x < used)
  pub cut : (x : ℕ) → Memᴰ x cuts → Removed x m.log ⊎ BeingCut m x
  pub count : laid + 4 ≡ 1 + 2 * (used + length cuts)

-- ---- the history that the calls gave
abbrev pub HandedIn : Phase → List Pair → Type 0
HandedIn idle hs = Unit {0}
HandedIn (walking (upd u) p q) hs = Unit {0}
HandedIn (walking (has k) p q) hs = Unit {0}
HandedIn (walking (range low high) p q) hs = hs ≡ []
HandedIn (locking u p q) hs = Unit {0}
HandedIn (locking_curr k p q) hs = Unit {0}
HandedIn (checking u p q) hs = Unit {0}
HandedIn (preparing u p q) hs = Unit {0}
HandedIn (numbering u p y z c) hs = Unit {0}
HandedIn (linking u p y z c n) hs = Unit {0}
HandedIn (finishing u p y z c n) hs = Unit {0}
HandedIn (seeking k x) hs = Unit {0}
HandedIn (fixing low high p) hs = hs ≡ []
HandedIn (following low high x s given) hs = hs ≡ given
HandedIn (handing low high x s given) hs = hs ≡ given

pub record Tells (key val : ℕ → ℕ) (h : Past) (m : Drawing) : Type 0 where
  pub updates : h.updates ≡ map (said key val) m.log
  pub under : (t : ℕ) → h.under t ≡ task_word (task (m.phase t))
  pub since : (t : ℕ) → h.since t ≡ m.since t
  pub handed : (t : ℕ) → HandedIn (m.phase t) (h.handed t)

-- ---- all of it
pub record Shown (z : Size) (key val : ℕ → ℕ) (σ : State) (h : Past) (m : Drawing) : Type 0 where
  pub reached : ReachedBy (list_shape key val empty) m
  pub head_key : key head ≡ 0
  pub tail_key : key tail ≡ tail_key
  pub agrees : Agrees key val σ.register.counters.nodes σ.nodes
  pub whole_nodes : length σ.nodes ≡ z.nodes * 6
  pub whole_entries : length σ.entries ≡ z.entries * 4
  pub two : 2 ≤ σ.register.counters.nodes
  pub most : σ.register.counters.nodes ≤ z.nodes
  pub nodes : Nodes σ.register.counters.nodes σ.nodes m
  pub own : ℕ → List ℕ
  pub rows : Rows z.entries σ.register.counters.nodes σ.register.counters.entries σ.nodes σ.entries
      own m
  pub stamp : stamp_of σ ≡ now empty m
  pub sixteen : length σ.register.sessions ≡ 16
  pub runs : (t : ℕ) → t < 16 → Runs own (m.phase t) (record_of σ t)
  pub others : (t : ℕ) → 16 ≤ t → m.phase t ≡ idle
  pub cuts : Cuts σ.register.counters.nodes σ.register.counters.entries m
  pub tells : Tells key val h m

-- the list's shape reaches the drawing, so it has the invariant, with the history
pub shown_inv : {z : Size} {key val : ℕ → ℕ} {σ : State} {h : Past} {m : Drawing} → Shown z key val σ h m
    → Inv key val empty m
shown_inv {key = key} {val} S =
    shape_history (list_shape key val empty) (omega (arith, S.head_key, S.tail_key), tt) S.reached

-- ---- a step of session t in words and in the drawing: it waits in both, or it steps in both with the same answer
abbrev pub out_word : Out → Answer
out_word working = Answer.Working
out_word present = Answer.Present
out_word absent = Answer.Absent
out_word full = Answer.Refused Refusal.Full
out_word (inserted n) = Answer.Inserted n
out_word (removed n) = Answer.Removed n
out_word (key_value k v) = Answer.Key k v
out_word (ended s given) = Answer.End s (length given)

pub data Advance (key val : ℕ → ℕ) (t : ℕ) (m m' : Drawing) (a : Answer) : Type 0 where
  waited : Waits t m → m' ≡ m → a ≡ Answer.Waiting → Advance key val t m m' a
  stepped : (o : Out) (f : Effect) (φ : Phase) → Step key val empty t m o f φ → m' ≡ after empty m t f φ
      → a ≡ out_word o → Advance key val t m m' a

abbrev pub Advanced : (key val : ℕ → ℕ) → State → Past → Drawing → ℕ → Type 0
Advanced key val σ h m t =
    (m' : Drawing) × Shown small key val (go small σ (Call.Step t)) (note small σ (Call.Step t) h) m'
    × Advance key val t m m' (answer small σ (Call.Step t))
