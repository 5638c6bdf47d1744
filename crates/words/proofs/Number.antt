-- Number in words: the stamp goes up, and the history tells exactly this update more.
-- In order: the update that the log tells of; the cuts; the history; landing.
-- Assumes nothing.
use Prim.Native.Nat.{ℕ, suc, ◌+◌, ◌<◌}
use mathlib.Core.Path.{◌≡◌, refl, sym, ◌∙◌, ap}
use mathlib.Core.Bool.{cond}
use mathlib.Core.List.Memᴰ
use mathlib.Core.List.{List, ◌∷◌, ◌++◌, map}
use native.Mathlib.Omega.{arith}
use lib.Dec.{ltb}
use borrow.Author.Tests.{lt-ltb}
use Rattle.order.specs.Set.{Update, insert, remove}
use Rattle.order.specs.History.{empty, rem, said}
use Rattle.terms.specs.Terms.{small}
use Rattle.steps.specs.declared.Phase
use Rattle.steps.specs.declared.Stepped.{Stepped}
use Rattle.steps.specs.Steps.{done, works, raised}
use Rattle.finishing.proofs.Ways
use Rattle.reached.specs.Reached.{State, stamp_of, record_of, update_of, Past}
use Rattle.drawing.specs.Phases.{logged, upd, Phase, numbering, linking, task}
use Rattle.drawing.specs.Drawing.{Drawing, now}
use Rattle.drawing.specs.Effects.{numbers, after}
use Rattle.drawing.specs.Steps.{working, number_it}
use Rattle.drawing.proofs.Inv.{Named}
use Rattle.words.proofs.Show.{op_word, task_word, running, Newest, Cuts, Shown, Advanced}
use Rattle.words.proofs.Land.{used_of, Acts, Landing, cuts_kept}
use Rattle.words.proofs.NodeWords.{as_nodes}
use Rattle.words.proofs.RowWords.{rows_kept}
use Rattle.words.proofs.Use.{stamp_room}
use Rattle.words.proofs.Steady.{AgreesAfter, acts_by, Turn, turn, its_facts, its_record, lands}

-- ---- the update that the log tells of is the one that the session makes
said_is : (key val : ℕ → ℕ) (m : Drawing) (u : Update) (y : ℕ) → Named key val empty m u y
    → said key val (logged u y) ≡ u
said_is key val m (insert k v) y named = ap (λ a. insert a (val y)) named.1 ∙ ap (insert k) named.2
said_is key val m (remove k) y named = ap remove named.1

makes : (u : Update) (us : List Update) → update_of (op_word (upd u)) ++ us ≡ u ∷ us
makes (insert k v) us = refl
makes (remove k) us = refl

-- a remove that was being cut is in the log now
cut_logged : (u : Update) (p y z c k p₂ x z₂ c₂ : ℕ) → numbering u p y z c ≡ numbering (remove k) p₂ x z₂ c₂
    → rem x ≡ logged u y
cut_logged u p y z c k p₂ x z₂ c₂ e =
    let same_u : u ≡ remove k = cc in let same_y : y ≡ x = cc in rw (same_u, same_y) refl

-- ---- Number, of a session whose record names its two entries
module _ {key val : ℕ → ℕ} {σ : State} {h : Past} {m : Drawing} {t : ℕ} (T : Turn key val σ h m t)
    {u : Update} {p y z c : ℕ} (e : m.phase t ≡ numbering u p y z c) {lower upper : ℕ}
    (is : record_of σ t ≡ running (upd u) (Phase.Phase.Number p y lower upper)) where
  abbrev left : Stepped
  left = works (raised σ.register.counters) (op_word (upd u)) (Phase.Phase.Link p y lower upper (stamp_of σ + 1))

  abbrev then : Phase
  then = linking u p y z c (suc (now empty m))

  raises : stamp_of σ + 1 ≡ suc (now empty m)
  raises = omega (arith, T.shown.stamp)

  number_acts : Acts σ t σ.nodes σ.entries left
  number_acts = acts_by σ t _ _ _ _ is (ap (done σ.nodes σ.entries)
      (sym (Ways.numbers small σ.register.counters (op_word (upd u)) p y lower upper left
      (stamp_room key val σ h m T.shown t u p y z c e) refl)))

  number_cuts : Cuts (used_of σ) σ.register.counters.entries (after empty m t (numbers u p y z) then)
  number_cuts = cuts_kept m t (numbers u p y z) _ _ _ T.shown.cuts (λ x r. Memᴰ.tail r)
      (λ k p₂ x z₂ c₂ d. Memᴰ.head (cut_logged u p y z c k p₂ x z₂ c₂ (sym e ∙ d)))

  number_updates : cond (ltb (stamp_of σ) (stamp_of σ + 1)) (update_of (h.under t) ++ h.updates) h.updates
      ≡ map (said key val) (logged u y ∷ m.log)
  number_updates =
      rw (lt-ltb (stamp_of σ) (stamp_of σ + 1) (omega arith)) refl
      ∙ ap (λ o. update_of o ++ h.updates) (T.shown.tells.under t ∙ ap (λ x. task_word (task x)) e)
      ∙ makes u h.updates
      ∙ ap (λ us. u ∷ us) T.shown.tells.updates
      ∙ ap (λ a. a ∷ map (said key val) m.log) (sym (said_is key val m u y (its_facts T e).2.named))

  number_lands : Newest lower (T.shown.own p) → Newest upper (T.shown.own y)
      → Landing key val σ h m t σ.nodes σ.entries left working (numbers u p y z) then
  number_lands newest_p newest_y = record {
    acts = number_acts;
    step = number_it u p y z c e;
    answers = refl;
    whole_nodes = T.shown.whole_nodes;
    whole_entries = T.shown.whole_entries;
    two = T.shown.two;
    most = T.shown.most;
    nodes = as_nodes _ _ m _ T.shown.nodes (λ _. refl) (λ _. refl) (λ _. refl);
    own = T.shown.own;
    rows = rows_kept _ _ _ σ.nodes σ.entries T.shown.own m T.shown.rows _ _ (λ x _. refl) (λ _. refl);
    stamp = omega (arith, T.shown.stamp);
    runs = (lower, upper, newest_p, newest_y, ap (λ n. running (upd u) (Phase.Phase.Link p y lower upper n)) raises);
    others = λ w w<16 _. T.shown.runs w w<16;
    cuts = number_cuts;
    updates = number_updates;
    handed = tt;
  }

  numbers_it : Newest lower (T.shown.own p) → Newest upper (T.shown.own y) → Advanced key val σ h m t
  numbers_it newest_p newest_y =
      lands T e tt σ.nodes σ.entries left working (numbers u p y z) then (number_lands newest_p newest_y)

-- ---- NUMBER
module _ (key val : ℕ → ℕ) (σ : State) (h : Past) (m : Drawing) (S : Shown small key val σ h m) (t : ℕ)
    (t<16 : t < 16) (agrees : AgreesAfter key val σ t) where
  pub number_advances : (u : Update) (p y z c : ℕ) → m.phase t ≡ numbering u p y z c → Advanced key val σ h m t
  number_advances u p y z c e =
      let T = turn key val σ h m S t t<16 agrees in
      let (lower, upper, newest_p, newest_y, is) = its_record T e in
      numbers_it T e is newest_p newest_y
