-- Prepare in words: it waits, answers full, or lays two entries, as in the drawing.
-- In order: is a newest entry pending; the words after a step agree; an insert's Prepare; a remove's; both.
-- Not here: laying itself (Lay), the nodes whose remove is laid (Cut). Assumes nothing.
use Rattle.std.specs.Prelude.{Ok, Err}
use Prim.Native.Nat.{ℕ, ◌+◌, ◌*◌, ◌≤◌, ◌<◌}
use mathlib.Core.Path.{◌≡◌, refl, sym, ◌∙◌, ap, subst}
use mathlib.Core.Logic.{◌⊎◌, inl, inr, ⊎_elim, ◌≢◌}
use mathlib.Core.Bool.{true, false}
use mathlib.Core.Option.{Option, none, some}
use mathlib.Core.List.{List, []}
use native.Mathlib.Decide.{ℕ_discrete}
use native.Mathlib.Omega.{arith}
use lib.ListN.{length}
use Rattle.order.specs.Set.{Update, insert, remove}
use Rattle.order.specs.Rows.{Row}
use Rattle.order.specs.History.{empty}
use Rattle.nodes.specs.Nodes.{node_at, next_at, newest_at, new_node}
use Rattle.bundle.specs.Shows.{as_held}
use Rattle.bundle.specs.declared.Held.{Held}
use Rattle.bundle.proofs.Promise.{held_is}
use Rattle.terms.specs.Terms.{small}
use Rattle.terms.specs.declared.Counters.{Counters}
use Rattle.steps.specs.declared.Phase
use Rattle.steps.specs.declared.Stepped.{Stepped}
use Rattle.steps.specs.Steps
use Rattle.steps.specs.Steps.{Done, tables, lay_in, insert_laid, remove_laid, works, counted, held_at, insert_room}
use Rattle.steps.specs.Steps.{held_either}
use Rattle.preparing.proofs.Ways
use Rattle.reached.specs.Reached.{State, stamp_of, state_in, Past}
use Rattle.drawing.specs.Phases.{upd, Phase, idle, preparing, numbering}
use Rattle.drawing.specs.Drawing.{change, final, shown, Drawing, now}
use Rattle.drawing.specs.Effects.{lays, after}
use Rattle.drawing.specs.Steps.{full, Pending, prepare_full, prepare_insert, prepare_remove}
use Rattle.drawing.proofs.Change.{change_same, change_other}
use Rattle.drawing.proofs.Goes.{bundle_cases, newest_wait}
use Rattle.words.proofs.Show.{Agrees, op_word, running, Cuts, Shown, Advanced, shown_inv}
use Rattle.words.proofs.Land.{used_of, Acts, Busy, call_acts, cuts_kept, no_number}
use Rattle.words.proofs.NodeWords.{as_nodes, put_else, new_length, new_other, new_key, new_value}
use Rattle.words.proofs.NodeWords.{new_newest, new_nodes}
use Rattle.words.proofs.RowWords.{new_rows}
use Rattle.words.proofs.Use.{at_below, in_table, entries_most}
use Rattle.words.proofs.Steady.{AgreesAfter, act_of, acts_by, Turn, turn, its_facts, its_record, its_node}
use Rattle.words.proofs.Steady.{waits_here}
use Rattle.words.proofs.Leave.{leave}
use Rattle.words.proofs.Cut.{cuts_node, cuts_cut, being_kept, no_end, uncut}
use Rattle.words.proofs.Lay.{laid_nodes, laid_entries, Ready, lay}

-- ---- laying, as the step has it
insert_tables : (ns es : List ℕ) (c : Counters) (k v p q : ℕ)
    → tables (laid_nodes (new_node ns c.nodes k v q) p c.nodes c.entries)
    (laid_entries (new_node ns c.nodes k v q) es p c.nodes c.entries c.nodes q c.stamp)
    ≡ insert_laid ns es c (op_word (upd (insert k v))) p q
unfolding insert_laid lay_in
insert_tables ns es c k v p q = refl

remove_tables : (ns es : List ℕ) (c : Counters) (p q : ℕ)
    → tables (laid_nodes ns p q c.entries) (laid_entries ns es p q c.entries (next_at ns q) 0 c.stamp)
    ≡ remove_laid ns es c p q
unfolding remove_laid lay_in
remove_tables ns es c p q = refl

module _ {key val : ℕ → ℕ} {σ : State} {h : Past} {m : Drawing} {t : ℕ} (T : Turn key val σ h m t) where
  -- ---- is the newest entry of a node in use pending
  held_word : (x : ℕ) → x < used_of σ → as_held (shown (m.bundle x)) ≡ held_at small σ.nodes σ.entries x
  held_word x below = Ways.held_is small σ.nodes σ.entries x _ (newest_at σ.nodes x)
      (in_table key val σ h m T.shown x below) refl
      (sym (held_is 2048 σ.entries (shown (m.bundle x)) (T.shown.own x) (newest_at σ.nodes x)
      (T.shown.rows.shows x below)))

  free_at : (x : ℕ) (r : Row) → x < used_of σ → m.bundle x ≡ final r
      → Ok tt ≡ held_at small σ.nodes σ.entries x
  free_at x r below is_final = sym (ap (λ b. as_held (shown b)) is_final) ∙ held_word x below

  waits_at : (x : ℕ) → x < used_of σ → Pending m x → Err Held.Wait ≡ held_at small σ.nodes σ.entries x
  waits_at x below pends =
      let (w, c, g, r, is) = newest_wait (m.bundle x) pends in
      sym (ap (λ b. as_held (shown b)) is) ∙ held_word x below

  -- ---- no session holds a node that is not in use
  new_unlocked : m.lock (used_of σ) ≡ none
  new_unlocked = by (m.lock (used_of σ)) refl
    where
      by : (o : Option ℕ) → m.lock (used_of σ) ≡ o → m.lock (used_of σ) ≡ none
      by none e = e
      by (some w) e =
          let there = ((shown_inv T.shown).own.held w (used_of σ) e).1 in
          absurd (omega (arith, at_below key val σ h m T.shown (used_of σ) there))

  -- ---- the functions agree with what the step left
  agrees_left : {φ : Phase} → m.phase t ≡ φ → Busy φ → (ns es : List ℕ) (r : Stepped) → Acts σ t ns es r
      → Agrees key val r.counters.nodes ns
  agrees_left {φ} here busy ns es r acts =
      subst (λ l. Agrees key val (used_of (state_in l)) (state_in l).nodes)
      (call_acts key val σ h m T.shown t φ T.low here busy ns es r acts) T.agrees

-- ---- an insert's Prepare
module _ {key val : ℕ → ℕ} {σ : State} {h : Past} {m : Drawing} {t : ℕ} (T : Turn key val σ h m t)
    {k v p q : ℕ} (e : m.phase t ≡ preparing (insert k v) p q) where
  p<used : p < used_of σ
  p<used = its_node T e p (inl refl)

  insert_waits : Pending m p → Advanced key val σ h m t
  insert_waits pends = waits_here T e tt _ (its_record T e) (rw e (inl pends))
      (sym (Ways.prepare_insert small σ.nodes σ.entries σ.register.counters _ p q false refl _ refl
      (Ways.insert_waits small σ.nodes σ.entries σ.register.counters _ p q (Err Held.Wait)
      (waits_at T p p<used pends) _ refl refl)))

  -- the step with room looked at
  module _ (r : Row) (final_p : m.bundle p ≡ final r) where
    looks : (d : Done)
        → d ≡ insert_room small σ.nodes σ.entries σ.register.counters (op_word (upd (insert k v))) p q
        → act_of σ t (running (upd (insert k v)) (Phase.Phase.Prepare p q)) ≡ d
    looks d is = sym (Ways.prepare_insert small σ.nodes σ.entries σ.register.counters _ p q false refl
        d refl (Ways.insert_free small σ.nodes σ.entries σ.register.counters _ p q (Ok tt)
        (free_at T p r p<used final_p) d refl is))

    -- no node left
    insert_full : used_of σ ≡ 512 → Advanced key val σ h m t
    insert_full all = leave T e (insert k v) p q (inl refl) (inr refl) (its_facts T e).1 (λ x a. a) tt tt _
        Steps.idle full idle (its_record T e)
        (looks _ (Ways.insert_full small σ.nodes σ.entries σ.register.counters _ p q _ _
        T.shown.most all refl refl))
        (prepare_full k v p q r e final_p) refl tt

    -- a node left: the first one not in use
    module _ (left : used_of σ ≢ 512) where
      abbrev new : List ℕ
      new = new_node σ.nodes (used_of σ) k v q

      room : used_of σ * 6 + 5 < length σ.nodes
      room = omega (arith, T.shown.most, T.shown.whole_nodes)

      insert_acts : Acts σ t (laid_nodes new p (used_of σ) σ.register.counters.entries)
          (laid_entries new σ.entries p (used_of σ) σ.register.counters.entries (used_of σ) q (stamp_of σ))
          (works (counted σ.register.counters (used_of σ + 1)) (op_word (upd (insert k v)))
          (Phase.Phase.Number p (used_of σ) σ.register.counters.entries (σ.register.counters.entries + 1)))
      insert_acts = acts_by σ t _ _ _ _ (its_record T e) (looks _
          (Ways.insert_lays small σ.nodes σ.entries σ.register.counters _ p q _ _ _ T.shown.most left
          (omega (arith, entries_most key val σ h m T.shown))
          (insert_tables σ.nodes σ.entries σ.register.counters k v p q) refl))

      agree : Agrees key val (used_of σ + 1) (laid_nodes new p (used_of σ) σ.register.counters.entries)
      agree = agrees_left T e tt _ _ _ insert_acts

      -- laying leaves the new node's key and value, which are those of the operation
      laid_else : (j : ℕ) → j < 5
          → node_at (laid_nodes new p (used_of σ) σ.register.counters.entries) (used_of σ) j
          ≡ node_at new (used_of σ) j
      laid_else j j<5 =
          put_else _ (used_of σ) 5 _ (used_of σ) j (omega arith) (omega arith) (omega arith)
          ∙ put_else new p 5 _ (used_of σ) j (omega arith) (omega arith) (omega arith)

      key_is : key (used_of σ) ≡ k
      key_is = sym (agree.keyed (used_of σ) (omega arith)) ∙ laid_else 0 (omega arith)
          ∙ new_key σ.nodes (used_of σ) k v q room

      value_is : val (used_of σ) ≡ v
      value_is = sym (agree.valued (used_of σ) (omega arith)) ∙ laid_else 1 (omega arith)
          ∙ new_value σ.nodes (used_of σ) k v q room

      insert_cuts : (φ : Phase) → Cuts (used_of σ + 1) (σ.register.counters.entries + 2)
          (after empty m t (lays (insert k v) p (used_of σ) q r []) φ)
      insert_cuts φ = cuts_node _ _ _ (cuts_kept m t (lays (insert k v) p (used_of σ) q r []) φ _ _ T.shown.cuts
          (λ x a. a) (λ k₂ p₂ x z c d. absurd
          (no_number (preparing (insert k v) p q) (remove k₂) p₂ x z c (sym e ∙ d) tt)))

      insert_ready : Ready T (insert k v) p (used_of σ) q (used_of σ) r [] (used_of σ + 1) new
          (change T.shown.own (used_of σ) [])
      insert_ready = record {
        final_p = final_p;
        final_y = T.shown.rows.blank (used_of σ) (omega arith);
        p≢y = λ same. omega (arith, same, p<used);
        leads = refl;
        p<used = omega (arith, p<used);
        y<used = omega arith;
        two = omega (arith, T.shown.two);
        most = let few : used_of σ ≤ 512 = T.shown.most in omega arith;
        whole = new_length σ.nodes (used_of σ) k v q ∙ T.shown.whole_nodes;
        rows = new_rows 2048 (used_of σ) _ σ.nodes σ.entries T.shown.own m T.shown.rows new
            (new_newest σ.nodes (used_of σ) k v q room)
            (λ x other. new_other σ.nodes (used_of σ) k v q x 5 (omega arith) other);
        nodes = new_nodes (used_of σ) σ.nodes m k v q T.shown.nodes room (new_unlocked T);
        same = change_other T.shown.own (used_of σ) [];
      }

      insert_lays : Advanced key val σ h m t
      insert_lays = lay insert_ready e tt insert_acts
          (prepare_insert k v p q r (used_of σ) e final_p (T.shown.rows.blank (used_of σ) (omega arith))
          (λ same. omega (arith, same, T.shown.two)) key_is value_is)
          (insert_cuts (numbering (insert k v) p (used_of σ) q (now empty m)))

  insert_prepares : Advanced key val σ h m t
  insert_prepares = ⊎_elim
      (λ b. elim (ℕ_discrete (used_of σ) 512) [
        | yes all ↦ insert_full b.0 b.1 all
        | no left ↦ insert_lays b.0 b.1 left
      ])
      insert_waits (bundle_cases (m.bundle p))

-- ---- a remove's Prepare
module _ {key val : ℕ → ℕ} {σ : State} {h : Past} {m : Drawing} {t : ℕ} (T : Turn key val σ h m t)
    {k p q : ℕ} (e : m.phase t ≡ preparing (remove k) p q) where
  p_below : p < used_of σ
  p_below = its_node T e p (inl refl)

  q_below : q < used_of σ
  q_below = its_node T e q (inr refl)

  -- pred's newest is pending, or curr's
  remove_waits : Err Held.Wait ≡ held_either small σ.nodes σ.entries p q
      → Pending m p ⊎ ((k₂ : ℕ) × (remove k ≡ remove k₂) × Pending m q) → Advanced key val σ h m t
  remove_waits test pends = waits_here T e tt _ (its_record T e) (rw e pends)
      (sym (Ways.prepare_remove small σ.nodes σ.entries σ.register.counters _ p q true refl _ refl
      (Ways.remove_waits small σ.nodes σ.entries σ.register.counters _ p q (Err Held.Wait) test _ refl refl)))

  module _ (r r₂ : Row) (final_p : m.bundle p ≡ final r) (final_q : m.bundle q ≡ final r₂) where
    remove_acts : Acts σ t (laid_nodes σ.nodes p q σ.register.counters.entries)
        (laid_entries σ.nodes σ.entries p q σ.register.counters.entries (next_at σ.nodes q) 0 (stamp_of σ))
        (works (counted σ.register.counters (used_of σ)) (op_word (upd (remove k)))
        (Phase.Phase.Number p q σ.register.counters.entries (σ.register.counters.entries + 1)))
    remove_acts = acts_by σ t _ _ _ _ (its_record T e)
        (sym (Ways.prepare_remove small σ.nodes σ.entries σ.register.counters _ p q true refl _ refl
        (Ways.remove_free small σ.nodes σ.entries σ.register.counters _ p q (Ok tt)
        (Ways.either_free small σ.nodes σ.entries p q (Ok tt)
        (free_at T p r p_below final_p) (Ok tt) refl (free_at T q r₂ q_below final_q)) _ refl
        (Ways.remove_lays small σ.nodes σ.entries σ.register.counters _ p q _ _ _ T.shown.most
        (omega (arith, entries_most key val σ h m T.shown))
        (remove_tables σ.nodes σ.entries σ.register.counters p q) refl))))

    remove_cuts : Cuts (used_of σ) (σ.register.counters.entries + 2)
        (after empty m t (lays (remove k) p q (m.plain q) r r₂)
        (numbering (remove k) p q (m.plain q) (now empty m)))
    remove_cuts = cuts_cut _ _ m _ q T.shown.cuts (uncut T e) (no_end T e) q_below (λ x a. a)
        (being_kept m t (lays (remove k) p q (m.plain q) r r₂) (preparing (remove k) p q) _ e tt)
        (t, k, p, m.plain q, now empty m, change_same m.phase t _)

    remove_ready : Ready T (remove k) p q (m.plain q) (next_at σ.nodes q) r r₂ (used_of σ) σ.nodes
        T.shown.own
    remove_ready = record {
      final_p = final_p;
      final_y = final_q;
      p≢y = λ same. omega (arith, ap key same, (its_facts T e).0.stand.rise);
      leads = sym (T.shown.nodes.plain q q_below);
      p<used = p_below;
      y<used = q_below;
      two = T.shown.two;
      most = T.shown.most;
      whole = T.shown.whole_nodes;
      rows = T.shown.rows;
      nodes = as_nodes (used_of σ) σ.nodes m _ T.shown.nodes (λ _. refl) (λ _. refl) (λ _. refl);
      same = λ x _. refl;
    }

    remove_lays : Advanced key val σ h m t
    remove_lays = lay remove_ready e tt remove_acts (prepare_remove k p q r r₂ e final_p final_q) remove_cuts

  remove_prepares : Advanced key val σ h m t
  remove_prepares = ⊎_elim
      (λ b. ⊎_elim (λ a. remove_lays b.0 a.0 b.1 a.1)
      (λ pends. remove_waits
      (Ways.either_free small σ.nodes σ.entries p q (Ok tt)
      (free_at T p b.0 p_below b.1) (Err Held.Wait) refl (waits_at T q q_below pends))
      (inr (k, refl, pends))) (bundle_cases (m.bundle q)))
      (λ pends. remove_waits
      (Ways.either_waits small σ.nodes σ.entries p q (Err Held.Wait) (waits_at T p p_below pends) refl)
      (inl pends)) (bundle_cases (m.bundle p))

-- ---- PREPARE
module _ (key val : ℕ → ℕ) (σ : State) (h : Past) (m : Drawing) (S : Shown small key val σ h m) (t : ℕ)
    (t<16 : t < 16) (agrees : AgreesAfter key val σ t) where
  pub prepare_advances : (u : Update) (p q : ℕ) → m.phase t ≡ preparing u p q → Advanced key val σ h m t
  prepare_advances (insert k v) p q e = insert_prepares (turn key val σ h m S t t<16 agrees) e
  prepare_advances (remove k) p q e = remove_prepares (turn key val σ h m S t t<16 agrees) e
