-- Check in words: walk again, present or absent, or on to Prepare, as in the drawing.
-- In order: what the words of the two nodes say; an insert's Check; a remove's; both.
-- Assumes nothing.
use Prim.Native.Nat.{ℕ, ◌<◌}
use mathlib.Core.Path.{◌≡◌, refl, sym, ◌∙◌, ap}
use mathlib.Core.Logic.{◌⊎◌, inl, inr, ⊎_elim, ◌≢◌}
use mathlib.Core.Bool.{Bool, true, false}
use native.Mathlib.Decide.{ℕ_discrete}
use native.Mathlib.Omega.{arith}
use lib.Dec.{eqb}
use borrow.Author.Tests.{eq-eqb, ne_eqb}
use Rattle.order.specs.Set.{Update, insert, remove}
use Rattle.order.specs.History.{head, empty}
use Rattle.nodes.specs.Nodes.{next_at, key_at, removed_at}
use Rattle.terms.specs.Terms.{small}
use Rattle.steps.specs.declared.Phase
use Rattle.steps.specs.declared.Session.{Session}
use Rattle.steps.specs.Steps
use Rattle.steps.specs.Steps.{Moved, moved, works, ends, over, again_of, linked_of, insert_check, insert_meets}
use Rattle.steps.specs.Steps.{remove_check}
use Rattle.steps.specs.Steps.{check_step}
use Rattle.locking.proofs.Ways.{insert_removed, insert_moved, insert_stands, meet_present, meet_goes}
use Rattle.locking.proofs.Ways.{linked_pred_gone}
use Rattle.locking.proofs.Ways.{linked_curr_gone, linked_next, remove_again, remove_goes, remove_absent, check_remove}
use Rattle.locking.proofs.Ways.{check_insert}
use Rattle.reached.specs.Reached.{State, handed_by, Past}
use Rattle.drawing.specs.Phases.{upd, Phase, idle, walking, checking, preparing}
use Rattle.drawing.specs.Drawing.{Drawing}
use Rattle.drawing.specs.Effects.{leaves}
use Rattle.drawing.specs.Steps.{Out, working, present, absent, Good, Stale, Meets, Step, check_again, check_present}
use Rattle.drawing.specs.Steps.{check_absent, check_pass}
use Rattle.drawing.proofs.Room.{Names}
use Rattle.words.proofs.Show.{gone_word, op_word, Runs, HandedIn, out_word, Shown, Advanced}
use Rattle.words.proofs.Land.{quiet}
use Rattle.words.proofs.Steady.{AgreesAfter, same, acts_by, Turn, turn, its_facts, its_record, its_node}
use Rattle.words.proofs.Steady.{its_node_in}
use Rattle.words.proofs.Leave.{unlocked_for, leave, again_runs}

pub mark_cases : (b : Bool) → (b ≡ true) ⊎ (b ≡ false)
mark_cases true = inl refl
mark_cases false = inr refl

module _ {key val : ℕ → ℕ} {σ : State} {h : Past} {m : Drawing} {t : ℕ} (T : Turn key val σ h m t)
    {u : Update} {p q : ℕ} (e : m.phase t ≡ checking u p q) where
  p_in : p < 512
  p_in = its_node_in T e p (inl refl)

  q_in : q < 512
  q_in = its_node_in T e q (inr refl)

  -- ---- what the words say
  mark_word : (x : ℕ) → Names (checking u p q) x → (b : Bool) → m.gone x ≡ b → gone_word b ≡ removed_at σ.nodes x
  mark_word x named b g = sym (T.shown.nodes.gone x (its_node T e x named) ∙ ap gone_word g)

  next_word : m.plain p ≡ next_at σ.nodes p
  next_word = sym (T.shown.nodes.plain p (its_node T e p (inl refl)))

  key_word : key q ≡ key_at σ.nodes q
  key_word = sym (T.shown.agrees.keyed q (its_node T e q (inr refl)))

  -- ---- the three ways on, once the step is known
  abbrev checked : Moved
  checked = check_step small σ.nodes σ.register.counters (op_word (upd u)) p q

  leaves_by : (s : Session) (o : Out) (φ : Phase) → Step key val empty t m o leaves φ
      → moved (unlocked_for σ.nodes u p q) (same σ t s (out_word o)) ≡ checked → Runs T.shown.own φ s
      → HandedIn φ (handed_by (out_word o) t h.handed t) → Advanced key val σ h m t
  leaves_by s o φ step acts = leave T e u p q (inl refl) (inr refl) (its_facts T e).1 (λ x a. a) tt tt _ s o φ
      (its_record T e) (ap (over σ.entries) (sym acts)) step

  again : Stale m u p q → moved (unlocked_for σ.nodes u p q)
      (works σ.register.counters (op_word (upd u)) (again_of σ.nodes)) ≡ checked → Advanced key val σ h m t
  again stale acts = leaves_by _ working (walking (upd u) head (m.plain head)) (check_again u p q e stale) acts
      (again_runs T u) tt

  ends_by : (o : Out) → Step key val empty t m o leaves idle
      → moved (unlocked_for σ.nodes u p q) (ends σ.register.counters (out_word o)) ≡ checked
      → Advanced key val σ h m t
  ends_by o step acts = leaves_by Steps.idle o idle step acts refl tt

  passes : Good m u p q → Meets key val u q
      → moved σ.nodes (works σ.register.counters (op_word (upd u)) (Phase.Phase.Prepare p q)) ≡ checked
      → Advanced key val σ h m t
  passes good meets acts = quiet key val σ h m T.shown t T.low (checking u p q) e tt tt T.agrees _ _ working
      (preparing u p q) (acts_by σ t _ _ _ _ (its_record T e) (ap (over σ.entries) (sym acts)))
      (check_pass u p q e good meets) refl refl tt

-- ---- an insert's Check
module _ {key val : ℕ → ℕ} {σ : State} {h : Past} {m : Drawing} {t : ℕ} (T : Turn key val σ h m t)
    {k v p q : ℕ} (e : m.phase t ≡ checking (insert k v) p q) where
  insert_is : (d : Moved) → d ≡ insert_check small σ.nodes σ.register.counters (op_word (upd (insert k v))) p q
      → d ≡ checked T e
  insert_is d is = check_insert small σ.nodes σ.register.counters _ p q false refl d refl is

  insert_gone : m.gone p ≡ true → Advanced key val σ h m t
  insert_gone gone = again T e (inl gone)
      (insert_is _ (insert_removed small σ.nodes σ.register.counters _ p q 1 (p_in T e)
      (mark_word T e p (inl refl) true gone) _ (λ z. omega arith) refl))

  module _ (stays : m.gone p ≡ false) where
    insert_elsewhere : m.plain p ≢ q → Advanced key val σ h m t
    insert_elsewhere other = again T e (inr (inl other))
        (insert_is _ (insert_moved small σ.nodes σ.register.counters _ p q 0 (p_in T e)
        (mark_word T e p (inl refl) false stays) (m.plain p) refl (next_word T e) _ other refl))

    module _ (linked : m.plain p ≡ q) where
      stands : (d : Moved)
          → d ≡ insert_meets small σ.nodes σ.register.counters (op_word (upd (insert k v))) p q
          → d ≡ checked T e
      stands d is = insert_is d (insert_stands small σ.nodes σ.register.counters _ p q 0 (p_in T e)
          (mark_word T e p (inl refl) false stays) (m.plain p) refl (next_word T e) d linked is)

      insert_present : key q ≡ k → Advanced key val σ h m t
      insert_present has_key_lem = ends_by T e present (check_present k v p q e (stays, linked, tt) has_key_lem)
          (stands _ (meet_present small σ.nodes σ.register.counters _ p q (key q) k (q_in T e) (key_word T e)
          refl _ has_key_lem refl))

      insert_passes : key q ≢ k → Advanced key val σ h m t
      insert_passes other = passes T e (stays, linked, tt) other
          (stands _ (meet_goes small σ.nodes σ.register.counters _ p q (key q) k (q_in T e) (key_word T e) refl
          _ other refl))

  insert_checks : Advanced key val σ h m t
  insert_checks = ⊎_elim insert_gone (λ stays. elim (ℕ_discrete (m.plain p) q) [
    | no other ↦ insert_elsewhere stays other
    | yes linked ↦ elim (ℕ_discrete (key q) k) [
      | yes has_key_lem ↦ insert_present stays linked has_key_lem
      | no other ↦ insert_passes stays linked other
    ]
  ]) (mark_cases (m.gone p))

-- ---- a remove's Check
module _ {key val : ℕ → ℕ} {σ : State} {h : Past} {m : Drawing} {t : ℕ} (T : Turn key val σ h m t)
    {k p q : ℕ} (e : m.phase t ≡ checking (remove k) p q) where
  remove_is : (d : Moved) → d ≡ remove_check small σ.nodes σ.register.counters (op_word (upd (remove k))) p q
      → d ≡ checked T e
  remove_is d is = check_remove small σ.nodes σ.register.counters _ p q true refl d refl is

  remove_stale : Stale m (remove k) p q → false ≡ linked_of σ.nodes p q → Advanced key val σ h m t
  remove_stale stale test = again T e stale
      (remove_is _ (remove_again small σ.nodes σ.register.counters _ p q false (p_in T e) (q_in T e) test
      _ refl refl))

  module _ (stays : m.gone p ≡ false) (stays_too : m.gone q ≡ false) where
    linked_test : eqb (m.plain p) q ≡ linked_of σ.nodes p q
    linked_test = linked_next σ.nodes p q 0 (mark_word T e p (inl refl) false stays) 0 refl
        (mark_word T e q (inr refl) false stays_too) (m.plain p) refl (next_word T e)

    module _ (linked : m.plain p ≡ q) where
      test_true : true ≡ linked_of σ.nodes p q
      test_true = sym (eq-eqb (m.plain p) q linked) ∙ linked_test

      remove_passes : key q ≡ k → Advanced key val σ h m t
      remove_passes has_key_lem = passes T e (stays, linked, stays_too) has_key_lem
          (remove_is _ (remove_goes small σ.nodes σ.register.counters _ p q true (p_in T e) (q_in T e)
          test_true (key q) k refl (key_word T e) refl _ has_key_lem refl))

      remove_ends : key q ≢ k → Advanced key val σ h m t
      remove_ends other = ends_by T e absent (check_absent k p q e (stays, linked, stays_too) other)
          (remove_is _ (remove_absent small σ.nodes σ.register.counters _ p q true (p_in T e) (q_in T e)
          test_true (key q) k refl (key_word T e) refl _ other refl))

    remove_stands : Advanced key val σ h m t
    remove_stands = elim (ℕ_discrete (m.plain p) q) [
      | no other ↦ remove_stale (inr (inl other)) (sym (ne_eqb (m.plain p) q other) ∙ linked_test)
      | yes linked ↦ elim (ℕ_discrete (key q) k) [
        | yes has_key_lem ↦ remove_passes linked has_key_lem
        | no other ↦ remove_ends linked other
      ]
    ]

  remove_checks : Advanced key val σ h m t
  remove_checks = ⊎_elim
      (λ gone. remove_stale (inl gone)
      (linked_pred_gone σ.nodes p q 1 (mark_word T e p (inl refl) true gone) (λ z. omega arith)))
      (λ stays. ⊎_elim
      (λ gone. remove_stale (inr (inr (k, refl, gone)))
      (linked_curr_gone σ.nodes p q 0 (mark_word T e p (inl refl) false stays) 1 refl
      (mark_word T e q (inr refl) true gone) (λ z. omega arith)))
      (remove_stands stays) (mark_cases (m.gone q))) (mark_cases (m.gone p))

-- ---- CHECK
module _ (key val : ℕ → ℕ) (σ : State) (h : Past) (m : Drawing) (S : Shown small key val σ h m) (t : ℕ)
    (t<16 : t < 16) (agrees : AgreesAfter key val σ t) where
  pub check_advances : (u : Update) (p q : ℕ) → m.phase t ≡ checking u p q → Advanced key val σ h m t
  check_advances (insert k v) p q e = insert_checks (turn key val σ h m S t t<16 agrees) e
  check_advances (remove k) p q e = remove_checks (turn key val σ h m S t t<16 agrees) e
