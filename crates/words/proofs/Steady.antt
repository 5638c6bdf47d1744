-- Steps of an update that number nothing and lay nothing: the counters and the rows' entry numbers stay.
-- In order: agreement after a step; a step told by its record; waiting; a session's turn; landing.
-- Not here: which words a step leaves (NodeWords, RowWords). Assumes nothing.
use Prim.Native.Nat.{ℕ, ◌<◌}
use mathlib.Core.Path.{◌≡◌, refl, sym, ◌∙◌, ap, subst}
use mathlib.Core.List.{List, map}
use lib.ListN.{length}
use Rattle.order.specs.Set.{remove}
use Rattle.order.specs.History.{empty, Removed, said, stamp}
use Rattle.nodes.specs.Nodes.{newest_at}
use Rattle.terms.specs.Terms.{small}
use Rattle.steps.specs.declared.Session.{Session}
use Rattle.steps.specs.declared.Stepped.{Stepped}
use Rattle.steps.specs.Steps
use Rattle.steps.specs.Steps.{Done, done, act_step}
use Rattle.sixteen.specs.declared.Call.{Call}
use Rattle.reached.specs.Reached.{State, stamp_of, record_of, go, handed_by, Past}
use Rattle.terms.specs.declared.Answer.{Answer}
use Rattle.drawing.specs.Phases.{Phase}
use Rattle.drawing.specs.Drawing.{Drawing}
use Rattle.drawing.specs.Effects.{Effect, log_by, after}
use Rattle.drawing.specs.Steps.{Out, Step, Waits}
use Rattle.drawing.proofs.Inv.{Facts}
use Rattle.drawing.proofs.Room.{Names}
use Rattle.words.proofs.Show.{Agrees, Nodes, Rows, Runs, HandedIn, out_word, Shown, Advanced, shown_inv}
use Rattle.words.proofs.Land.{used_of, Acts, Busy, NoNumber, no_number, no_update, Landing, land, cuts_kept}
use Rattle.words.proofs.Land.{wait}
use Rattle.words.proofs.RowWords.{rows_kept}
use Rattle.words.proofs.Use.{named_below, in_table}

-- ---- the functions agree with the words after the step of session t
abbrev pub AgreesAfter : (key val : ℕ → ℕ) → State → ℕ → Type 0
AgreesAfter key val σ t = Agrees key val (used_of (go small σ (Call.Step t))) (go small σ (Call.Step t)).nodes

-- ---- a step told by its record
module _ (σ : State) (t : ℕ) where
  abbrev pub act_of : Session → Done
  act_of s = act_step small σ.nodes σ.entries σ.register.counters t s.op s.phase

  abbrev pub same : Session → Answer → Stepped
  same s a = record { counters = σ.register.counters; session = s; answer = a }

  pub acts_by : (s : Session) (ns es : List ℕ) (r : Stepped) → record_of σ t ≡ s → act_of s ≡ done ns es r
      → Acts σ t ns es r
  acts_by s ns es r is acts = ap act_of is ∙ acts

  pub waits_by : (s : Session) → record_of σ t ≡ s
      → act_of s ≡ done σ.nodes σ.entries (Steps.waits σ.register.counters s.op s.phase)
      → act_of (record_of σ t) ≡ done σ.nodes σ.entries
      (Steps.waits σ.register.counters (record_of σ t).op (record_of σ t).phase)
  waits_by s is acts = subst
      (λ a. act_of a ≡ done σ.nodes σ.entries (Steps.waits σ.register.counters a.op a.phase))
      (sym is) acts

module _ (key val : ℕ → ℕ) (σ : State) (h : Past) (m : Drawing) (S : Shown small key val σ h m) (t : ℕ)
    (t<16 : t < 16) (agrees : AgreesAfter key val σ t) (φ₀ : Phase) (here : m.phase t ≡ φ₀) (busy : Busy φ₀) where
  pub waits : (s : Session) → record_of σ t ≡ s → Waits t m
      → act_of σ t s ≡ done σ.nodes σ.entries (Steps.waits σ.register.counters s.op s.phase)
      → Advanced key val σ h m t
  waits s is w acts = wait key val σ h m S t φ₀ t<16 here busy w (waits_by σ t s is acts)

-- ---- the turn of session t: all that its step relies on
pub record Turn (key val : ℕ → ℕ) (σ : State) (h : Past) (m : Drawing) (t : ℕ) : Type 0 where
  pub shown : Shown small key val σ h m
  pub low : t < 16
  pub agrees : AgreesAfter key val σ t

abbrev pub turn : (key val : ℕ → ℕ) (σ : State) (h : Past) (m : Drawing) → Shown small key val σ h m → (t : ℕ)
    → t < 16 → AgreesAfter key val σ t → Turn key val σ h m t
turn key val σ h m S t t<16 agrees = record { shown = S; low = t<16; agrees = agrees }

module _ {key val : ℕ → ℕ} {σ : State} {h : Past} {m : Drawing} {t : ℕ} (T : Turn key val σ h m t) {φ : Phase}
    (here : m.phase t ≡ φ) where
  -- what its phase says, the record that runs it, and the nodes that it names
  pub its_facts : Facts key val empty m t φ
  its_facts = rw here at ((shown_inv T.shown).own.facts t)

  pub its_record : Runs T.shown.own φ (record_of σ t)
  its_record = rw here at (T.shown.runs t T.low)

  pub its_node : (x : ℕ) → Names φ x → x < used_of σ
  its_node x named = named_below key val σ h m T.shown t φ here x named

  pub its_node_in : (x : ℕ) → Names φ x → x < 512
  its_node_in x named = in_table key val σ h m T.shown x (its_node x named)

  -- ---- landing
  module _ (busy : Busy φ) where
    pub waits_here : (s : Session) → record_of σ t ≡ s → Waits t m
        → act_of σ t s ≡ done σ.nodes σ.entries (Steps.waits σ.register.counters s.op s.phase)
        → Advanced key val σ h m t
    waits_here = waits key val σ h m T.shown t T.low T.agrees φ here busy

    pub lands : (ns es : List ℕ) (r : Stepped) (o : Out) (f : Effect) (φ' : Phase)
        → Landing key val σ h m t ns es r o f φ' → Advanced key val σ h m t
    lands ns es r o f φ' L = land key val σ h m T.shown t T.low ns es r o f φ' L φ here busy T.agrees

    module _ (other : NoNumber φ) (ns es : List ℕ) (s₀ s : Session) (o : Out) (f : Effect) (φ' : Phase) where
      steady_landing : Acts σ t ns es (same σ t s (out_word o)) → Step key val empty t m o f φ'
          → length ns ≡ length σ.nodes → length es ≡ length σ.entries
          → Nodes (used_of σ) ns (after empty m t f φ')
          → Rows 2048 (used_of σ) σ.register.counters.entries ns es T.shown.own (after empty m t f φ')
          → log_by f m.log ≡ m.log → Runs T.shown.own φ' s
          → HandedIn φ' (handed_by (out_word o) t h.handed t)
          → Landing key val σ h m t ns es (same σ t s (out_word o)) o f φ'
      steady_landing acts step whole_n whole_e nodes rows unlogged runs handed = record {
        acts = acts;
        step = step;
        answers = refl;
        whole_nodes = whole_n ∙ T.shown.whole_nodes;
        whole_entries = whole_e ∙ T.shown.whole_entries;
        two = T.shown.two;
        most = T.shown.most;
        nodes = nodes;
        own = T.shown.own;
        rows = rows;
        stamp = T.shown.stamp ∙ ap (stamp empty) (sym unlogged);
        runs = runs;
        others = λ w w<16 _. T.shown.runs w w<16;
        cuts = cuts_kept m t f φ' _ _ T.shown.cuts (λ x. subst (Removed x) (sym unlogged))
            (λ k p x z c e. absurd (no_number φ (remove k) p x z c (sym here ∙ e) other));
        updates = no_update (stamp_of σ) (stamp_of σ) _ h.updates refl ∙ T.shown.tells.updates
            ∙ ap (map (said key val)) (sym unlogged);
        handed = handed;
      }

      pub steady : record_of σ t ≡ s₀ → act_of σ t s₀ ≡ done ns es (same σ t s (out_word o))
          → Step key val empty t m o f φ' → length ns ≡ length σ.nodes → length es ≡ length σ.entries
          → Nodes (used_of σ) ns (after empty m t f φ')
          → Rows 2048 (used_of σ) σ.register.counters.entries ns es T.shown.own (after empty m t f φ')
          → log_by f m.log ≡ m.log → Runs T.shown.own φ' s
          → HandedIn φ' (handed_by (out_word o) t h.handed t) → Advanced key val σ h m t
      steady is acts step whole_n whole_e nodes rows unlogged runs handed =
          lands ns es (same σ t s (out_word o)) o f φ'
          (steady_landing (acts_by σ t s₀ ns es _ is acts) step whole_n whole_e nodes rows unlogged runs handed)

    -- it writes words of nodes alone, and no newest entry's
    pub moves : NoNumber φ → (ns : List ℕ) (s₀ s : Session) (o : Out) (f : Effect) (φ' : Phase) → record_of σ t ≡ s₀
        → act_of σ t s₀ ≡ done ns σ.entries (same σ t s (out_word o)) → Step key val empty t m o f φ'
        → length ns ≡ length σ.nodes → Nodes (used_of σ) ns (after empty m t f φ')
        → ((x : ℕ) → newest_at ns x ≡ newest_at σ.nodes x)
        → ((x : ℕ) → (after empty m t f φ').bundle x ≡ m.bundle x) → log_by f m.log ≡ m.log
        → Runs T.shown.own φ' s → HandedIn φ' (handed_by (out_word o) t h.handed t) → Advanced key val σ h m t
    moves other ns s₀ s o f φ' is acts step whole nodes newest bundle =
        steady other ns σ.entries s₀ s o f φ' is acts step whole refl nodes
        (rows_kept _ _ _ σ.nodes σ.entries T.shown.own m T.shown.rows ns _ (λ x _. newest x) bundle)
