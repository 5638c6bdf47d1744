-- Laying two pending entries in words, an insert's or a remove's: pred's the lower, then the node's.
-- In order: the tables after; what is known before; rows; nodes; records; landing.
-- `ns` is the node table with `used` nodes and rows `own`, an insert's new node among them; `g` is the word that
-- pred's entry leads to. Not here: the tests before laying (Prepare). Assumes nothing.
use Prim.Native.Nat.{ℕ, ◌+◌, ◌*◌, ◌≤◌, ◌<◌}
use mathlib.Core.Path.{◌≡◌, refl, sym, ◌∙◌, ap, subst}
use mathlib.Core.Logic.{◌≢◌}
use mathlib.Core.List.{List, ◌∷◌}
use native.Mathlib.Omega.{arith}
use lib.ListN.{length}
use Rattle.table.proofs.Laws.{store_length}
use Rattle.order.specs.Set.{Update}
use Rattle.order.specs.Rows.{Row}
use Rattle.order.specs.History.{empty}
use Rattle.nodes.specs.Nodes.{put_node, newest_at}
use Rattle.bundle.specs.Bundle.{lay_of}
use Rattle.bundle.proofs.Promise.{lay_length}
use Rattle.steps.specs.declared.Phase
use Rattle.steps.specs.declared.Stepped.{Stepped}
use Rattle.steps.specs.Steps.{works, counted}
use Rattle.reached.specs.Reached.{State, stamp_of, record_of, Past}
use Rattle.drawing.specs.Phases.{pred_target, node_target, upd, Phase, numbering}
use Rattle.drawing.specs.Drawing.{change, final, pending, Drawing, now}
use Rattle.drawing.specs.Effects.{lays, new_plain, new_gone, two_entries, after}
use Rattle.drawing.specs.Steps.{working, Step}
use Rattle.drawing.proofs.Change.{change_same, change_other, pair_first, pair_other}
use Rattle.drawing.proofs.Inv.{Pends}
use Rattle.words.proofs.Show.{Nodes, Rows, op_word, running, Runs, Cuts, Advanced, shown_inv}
use Rattle.words.proofs.Land.{Acts, Busy, no_update, Landing}
use Rattle.words.proofs.NodeWords.{redrawn, as_nodes, put_newest}
use Rattle.words.proofs.RowWords.{bundled, rows_kept, lay_rows}
use Rattle.words.proofs.Use.{entries_most}
use Rattle.words.proofs.Others.{runs_kept, final_unpended}
use Rattle.words.proofs.Steady.{Turn, lands}

-- ---- the tables after laying entries e and e + 1 in p and y
abbrev pub laid_nodes : List ℕ → (p y e : ℕ) → List ℕ
laid_nodes ns p y e = put_node (put_node ns p 5 (e + 1)) y 5 (e + 1 + 1)

abbrev pub pred_entries : List ℕ → List ℕ → (p e g s : ℕ) → List ℕ
pred_entries ns es p e g s = lay_of es e g s (newest_at ns p)

abbrev pub laid_entries : List ℕ → List ℕ → (p y e g g₂ s : ℕ) → List ℕ
laid_entries ns es p y e g g₂ s =
    lay_of (pred_entries ns es p e g s) (e + 1) g₂ s (newest_at (put_node ns p 5 (e + 1)) y)

-- ---- ready to lay an update's two entries: both newest are final, and nodes, rows and records stand as before, but
-- that an insert's node is in the table already
pub record Ready {key val : ℕ → ℕ} {σ : State} {h : Past} {m : Drawing} {t : ℕ} (T : Turn key val σ h m t)
    (u : Update) (p y z g : ℕ) (r r₂ : Row) (used : ℕ) (ns : List ℕ) (own : ℕ → List ℕ) : Type 0 where
  pub final_p : m.bundle p ≡ final r
  pub final_y : m.bundle y ≡ final r₂
  pub p≢y : p ≢ y
  pub leads : pred_target u y z ≡ g
  pub p<used : p < used
  pub y<used : y < used
  pub two : 2 ≤ used
  pub most : used ≤ 512
  pub whole : length ns ≡ 512 * 6
  pub rows : Rows 2048 used σ.register.counters.entries ns σ.entries own m
  pub nodes : Nodes used ns (redrawn m (new_plain u y z m.plain) m.lock (new_gone u y m.gone))
  pub same : (x : ℕ) → x ≢ y → own x ≡ T.shown.own x

module _ {key val : ℕ → ℕ} {σ : State} {h : Past} {m : Drawing} {t : ℕ} {T : Turn key val σ h m t} {u : Update}
    {p y z g : ℕ} {r r₂ : Row} {used : ℕ} {ns : List ℕ} {own : ℕ → List ℕ}
    (B : Ready T u p y z g r r₂ used ns own) where
  abbrev laid : ℕ
  laid = σ.register.counters.entries

  abbrev tables_n : List ℕ
  tables_n = laid_nodes ns p y laid

  abbrev tables_e : List ℕ
  tables_e = laid_entries ns σ.entries p y laid g (node_target u y z) (stamp_of σ)

  abbrev then : Phase
  then = numbering u p y z (now empty m)

  abbrev pub laid_by : Stepped
  laid_by = works (counted σ.register.counters used) (op_word (upd u)) (Phase.Phase.Number p y laid (laid + 1))

  -- ---- rows: pred's entry, then the node's
  abbrev own_p : ℕ → List ℕ
  own_p = change own p (laid ∷ own p)

  abbrev own_both : ℕ → List ℕ
  own_both = change own_p y ((laid + 1) ∷ own_p y)

  abbrev pred_laid : Drawing
  pred_laid = bundled m (change m.bundle p (pending t (stamp_of σ) g r))

  pred_rows : Rows 2048 used (laid + 1) (put_node ns p 5 (laid + 1)) (pred_entries ns σ.entries p laid g (stamp_of σ))
      own_p pred_laid
  pred_rows = lay_rows 2048 used laid ns σ.entries own m B.rows p t (stamp_of σ) g r B.p<used B.final_p
      (omega (arith, B.most, B.whole)) T.shown.whole_entries
      (omega (arith, entries_most key val σ h m T.shown))

  both_rows : Rows 2048 used (laid + 1 + 1) tables_n tables_e own_both
      (bundled pred_laid (change pred_laid.bundle y (pending t (stamp_of σ) (node_target u y z) r₂)))
  both_rows = lay_rows 2048 used (laid + 1) (put_node ns p 5 (laid + 1)) _ own_p pred_laid pred_rows y t (stamp_of σ)
      (node_target u y z) r₂ B.y<used (change_other m.bundle p _ y (λ e. B.p≢y (sym e)) ∙ B.final_y)
      (omega (arith, B.most, B.whole, store_length 6 ns p 5 (laid + 1)))
      (lay_length σ.entries laid g (stamp_of σ) (newest_at ns p) ∙ T.shown.whole_entries)
      (omega (arith, entries_most key val σ h m T.shown))

  laid_bundle : (x : ℕ) → (after empty m t (lays u p y z r r₂) then).bundle x
      ≡ two_entries m.bundle p (pending t (stamp_of σ) g r) y (pending t (stamp_of σ) (node_target u y z) r₂) x
  laid_bundle x =
      ap (λ s. two_entries m.bundle p (pending t s (pred_target u y z) r) y (pending t s (node_target u y z) r₂) x)
      (sym T.shown.stamp)
      ∙ ap (λ a. two_entries m.bundle p (pending t (stamp_of σ) a r) y
      (pending t (stamp_of σ) (node_target u y z) r₂) x) B.leads

  laid_rows : Rows 2048 used (laid + 2) tables_n tables_e own_both (after empty m t (lays u p y z r r₂) then)
  laid_rows = subst
      (λ n. Rows 2048 used n tables_n tables_e own_both (after empty m t (lays u p y z r r₂) then))
      (let e : laid + 1 + 1 ≡ laid + 2 = omega arith in e)
      (rows_kept 2048 used (laid + 1 + 1) tables_n tables_e own_both _ both_rows tables_n _ (λ x _. refl) laid_bundle)

  -- ---- nodes
  laid_nodes_lem : Nodes used tables_n (after empty m t (lays u p y z r r₂) then)
  laid_nodes_lem = as_nodes used tables_n _ _ (put_newest used _ _ (put_newest used ns _ B.nodes p (laid + 1)) y _)
      (λ _. refl) (λ _. refl) (λ _. refl)

  -- ---- records: this session's names its two entries, the others' rows are as they were
  laid_runs : Runs own_both then (running (upd u) (Phase.Phase.Number p y laid (laid + 1)))
  laid_runs = (
    laid,
    laid + 1,
    (own p, pair_first own p y (laid ∷ own p) ((laid + 1) ∷ own_p y) B.p≢y),
    (own_p y, change_same own_p y ((laid + 1) ∷ own_p y)),
    refl,
  )

  others_own : (w x : ℕ) → Pends (m.phase w) x → own_both x ≡ T.shown.own x
  others_own w x pends =
      let unpended = final_unpended key val m (shown_inv T.shown) w in
      let x≢p : x ≢ p = λ e. unpended p r B.final_p (subst (Pends (m.phase w)) e pends) in
      let x≢y : x ≢ y = λ e. unpended y r₂ B.final_y (subst (Pends (m.phase w)) e pends) in
      pair_other own p y (laid ∷ own p) ((laid + 1) ∷ own_p y) x x≢p x≢y ∙ B.same x x≢y

  -- ---- landing
  lay_lands : Acts σ t tables_n tables_e laid_by → Step key val empty t m working (lays u p y z r r₂) then
      → Cuts used (laid + 2) (after empty m t (lays u p y z r r₂) then)
      → Landing key val σ h m t tables_n tables_e laid_by working (lays u p y z r r₂) then
  lay_lands acts step cuts = record {
    acts = acts;
    step = step;
    answers = refl;
    whole_nodes = store_length 6 (put_node ns p 5 (laid + 1)) y 5 (laid + 1 + 1) ∙ store_length 6 ns p 5 (laid + 1)
        ∙ B.whole;
    whole_entries = lay_length (pred_entries ns σ.entries p laid g (stamp_of σ)) (laid + 1) (node_target u y z)
        (stamp_of σ) (newest_at (put_node ns p 5 (laid + 1)) y)
        ∙ lay_length σ.entries laid g (stamp_of σ) (newest_at ns p) ∙ T.shown.whole_entries;
    two = B.two;
    most = B.most;
    nodes = laid_nodes_lem;
    own = own_both;
    rows = laid_rows;
    stamp = T.shown.stamp;
    runs = laid_runs;
    others = λ w w<16 _. runs_kept T.shown.own own_both (m.phase w) (record_of σ w) (others_own w) (T.shown.runs
        w w<16);
    cuts = cuts;
    updates = no_update (stamp_of σ) (stamp_of σ) _ h.updates refl ∙ T.shown.tells.updates;
    handed = tt;
  }

  pub lay : {φ₀ : Phase} → m.phase t ≡ φ₀ → Busy φ₀ → Acts σ t tables_n tables_e laid_by
      → Step key val empty t m working (lays u p y z r r₂) then
      → Cuts used (laid + 2) (after empty m t (lays u p y z r r₂) then) → Advanced key val σ h m t
  lay here busy acts step cuts =
      lands T here busy tables_n tables_e laid_by working (lays u p y z r r₂) then (lay_lands acts step cuts)
