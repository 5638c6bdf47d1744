-- Leaving in words: to unlock an update's nodes is to give up every lock that its session holds.
-- In order: the words after it; landing; walking again. It serves walk again, present, absent and full.
-- Not here: Finish, which makes entries final too. Assumes nothing.
use Prim.Native.Nat.{ℕ}
use mathlib.Core.Path.{◌≡◌, refl, ap}
use mathlib.Core.List.{List}
use native.Mathlib.Omega.{arith}
use Rattle.order.specs.Set.{Update}
use Rattle.order.specs.History.{head, empty}
use Rattle.nodes.specs.Nodes.{next_at, newest_at, unlocked_both}
use Rattle.terms.specs.Terms.{removes_of}
use Rattle.steps.specs.declared.Phase
use Rattle.steps.specs.declared.Session.{Session}
use Rattle.steps.specs.Steps.{done}
use Rattle.reached.specs.Reached.{State, record_of, handed_by, Past}
use Rattle.drawing.specs.Phases.{upd, Phase}
use Rattle.drawing.specs.Drawing.{release, Drawing}
use Rattle.drawing.specs.Effects.{leaves}
use Rattle.drawing.specs.Steps.{Out, Step}
use Rattle.drawing.proofs.Inv.{Two, Holds, Grip}
use Rattle.drawing.proofs.Room.{Names}
use Rattle.words.proofs.Show.{Nodes, op_word, running, Runs, HandedIn, out_word, Advanced, shown_inv}
use Rattle.words.proofs.Land.{used_of, Busy, NoNumber}
use Rattle.words.proofs.NodeWords.{released_nodes, unlocked_else, unlocked_length}
use Rattle.words.proofs.Use.{nodes_fit}
use Rattle.words.proofs.Steady.{act_of, same, Turn, its_node, moves}

-- ---- the node table with an update's nodes unlocked
abbrev pub unlocked_for : List ℕ → Update → (p y : ℕ) → List ℕ
unlocked_for ns u p y = unlocked_both ns p y (removes_of (op_word (upd u)))

module _ {key val : ℕ → ℕ} {σ : State} {h : Past} {m : Drawing} {t : ℕ} (T : Turn key val σ h m t) {φ₀ : Phase}
    (here : m.phase t ≡ φ₀) (u : Update) (p y : ℕ) (named_p : Names φ₀ p) (named_y : Names φ₀ y)
    (grip : Grip key val empty m t u p y) (holds : (x : ℕ) → Holds φ₀ x → Two u p y x) where
  -- its nodes, in a drawing where `t` holds nothing
  pub left_nodes : (m' : Drawing) → ((x : ℕ) → m'.plain x ≡ m.plain x)
      → ((x : ℕ) → m'.lock x ≡ release t m.lock x) → ((x : ℕ) → m'.gone x ≡ m.gone x)
      → Nodes (used_of σ) (unlocked_for σ.nodes u p y) m'
  left_nodes m' = released_nodes (used_of σ) σ.nodes m T.shown.nodes (nodes_fit key val σ h m T.shown) p y
      (its_node T here p named_p) (its_node T here y named_y) u t m' grip.lock_p grip.lock_y
      (λ x l. holds x (rw here at ((shown_inv T.shown).own.held t x l).0))

  pub left_newest : (x : ℕ) → newest_at (unlocked_for σ.nodes u p y) x ≡ newest_at σ.nodes x
  left_newest x = unlocked_else σ.nodes p y (removes_of (op_word (upd u))) x 5 (omega arith) (omega arith)

  -- ---- landing
  pub leave : Busy φ₀ → NoNumber φ₀ → (s₀ s : Session) (o : Out) (φ : Phase) → record_of σ t ≡ s₀
      → act_of σ t s₀ ≡ done (unlocked_for σ.nodes u p y) σ.entries (same σ t s (out_word o))
      → Step key val empty t m o leaves φ → Runs T.shown.own φ s
      → HandedIn φ (handed_by (out_word o) t h.handed t) → Advanced key val σ h m t
  leave busy other s₀ s o φ is acts step =
      moves T here busy other (unlocked_for σ.nodes u p y) s₀ s o leaves φ is acts step
      (unlocked_length σ.nodes p y (removes_of (op_word (upd u))))
      (left_nodes _ (λ _. refl) (λ _. refl) (λ _. refl)) left_newest (λ _. refl) refl

-- ---- the walk begins again from the head as it stands
pub again_runs : {key val : ℕ → ℕ} {σ : State} {h : Past} {m : Drawing} {t : ℕ} → Turn key val σ h m t → (u : Update)
    → running (upd u) (Phase.Phase.Walk 0 (next_at σ.nodes 0))
    ≡ running (upd u) (Phase.Phase.Walk head (m.plain head))
again_runs T u =
    ap (λ a. running (upd u) (Phase.Phase.Walk 0 a)) (T.shown.nodes.plain 0 (omega (arith, T.shown.two)))
