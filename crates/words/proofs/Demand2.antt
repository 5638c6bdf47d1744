-- DEMAND 2: each answer of a reached register is the ordered set's, at the step that document 01 names.
-- In order: refusals by their numbers; what the answer to any call says; the demand, field by field;
-- the end of a range that is known to be under way.
-- The drawing that the words show has its history through the record of shapes (Show, `shown_inv`).
-- Not here: the demand's sentences (crate reached). Assumes nothing.
use Prim.Native.Nat.{ℕ}
use mathlib.Core.Path.{◌≡◌, refl, sym, ◌∙◌, ap}
use mathlib.Core.List.{List}
use native.Mathlib.Omega.{arith}
use Rattle.nodes.specs.Nodes.{key_at, value_at}
use Rattle.terms.specs.Terms
use Rattle.terms.specs.Terms.{small, refusal_number, Name, Refuses}
use Rattle.terms.specs.declared.Op
use Rattle.terms.specs.declared.Refusal.{Refusal}
use Rattle.terms.specs.declared.Answer.{Answer}
use Rattle.sixteen.specs.declared.Call.{Call}
use Rattle.reached.specs.Reached.{State, who_of, go, answer, Past, Reached}
use Rattle.reached.specs.Answers.{RangeIs, Demand2}
use Rattle.drawing.specs.Drawing.{Drawing}
use Rattle.words.proofs.Show.{Agrees, Shown}
use Rattle.words.proofs.Land.{used_of}
use Rattle.words.proofs.Back.{agree_back}
use Rattle.words.proofs.Use.{entries_most}
use Rattle.words.proofs.Whole.{step_advances, reached_shown}
use Rattle.words.proofs.Says.{Says, step_says, began_says}
use Rattle.words.proofs.History

-- ---- refusals by their numbers
abbrev Unrefused : Name → Type 0
Unrefused Terms.started = Unit {0}
Unrefused Terms.working = Unit {0}
Unrefused Terms.waiting = Unit {0}
Unrefused Terms.key = Unit {0}
Unrefused Terms.inserted = Unit {0}
Unrefused Terms.removed = Unit {0}
Unrefused Terms.present = Unit {0}
Unrefused Terms.absent = Unit {0}
Unrefused Terms.end = Unit {0}
Unrefused Terms.refused = ⊥

no_refusal : {P : Type 0} (name : Name) → name ≡ Terms.refused → Unrefused name → P
no_refusal name e n = absurd (rw e at n)

abbrev Refusing : Answer → ℕ → Type 0
Refusing a n = (why : Refusal) × (a ≡ Answer.Refused why) × (refusal_number why ≡ n)

refusing : (a : Answer) (n : ℕ) → Refuses n a → Refusing a n
refusing Answer.Started n r = no_refusal _ r.name tt
refusing Answer.Working n r = no_refusal _ r.name tt
refusing Answer.Waiting n r = no_refusal _ r.name tt
refusing (Answer.Key k v) n r = no_refusal _ r.name tt
refusing (Answer.Inserted k) n r = no_refusal _ r.name tt
refusing (Answer.Removed k) n r = no_refusal _ r.name tt
refusing Answer.Present n r = no_refusal _ r.name tt
refusing Answer.Absent n r = no_refusal _ r.name tt
refusing (Answer.End t k) n r = no_refusal _ r.name tt
refusing (Answer.Refused why) n r = (why, refl, let v = r.values in cc)

is_full : (why : Refusal) → refusal_number why ≡ 6 → why ≡ Refusal.Full
is_full Refusal.BadSession e = absurd (omega arith)
is_full Refusal.Busy e = absurd (omega arith)
is_full Refusal.BadKey e = absurd (omega arith)
is_full Refusal.BadRange e = absurd (omega arith)
is_full Refusal.Idle e = absurd (omega arith)
is_full Refusal.Full e = refl
is_full Refusal.BadTable e = absurd (omega arith)
is_full Refusal.Damaged e = absurd (omega arith)

is_damaged : (why : Refusal) → refusal_number why ≡ 8 → why ≡ Refusal.Damaged
is_damaged Refusal.BadSession e = absurd (omega arith)
is_damaged Refusal.Busy e = absurd (omega arith)
is_damaged Refusal.BadKey e = absurd (omega arith)
is_damaged Refusal.BadRange e = absurd (omega arith)
is_damaged Refusal.Idle e = absurd (omega arith)
is_damaged Refusal.Full e = absurd (omega arith)
is_damaged Refusal.BadTable e = absurd (omega arith)
is_damaged Refusal.Damaged e = refl

-- ---- what the answer to call c says, of a drawing that the words show
pub record Told (σ : State) (h : Past) (c : Call) : Type 0 where
  pub key : ℕ → ℕ
  pub val : ℕ → ℕ
  pub drawing : Drawing
  pub shown : Shown small key val σ h drawing
  pub says : Says key val σ drawing (who_of c) (answer small σ c)

call_says : (key val : ℕ → ℕ) (σ : State) (h : Past) (m : Drawing) → Shown small key val σ h m → (c : Call)
    → Agrees key val (used_of (go small σ c)) (go small σ c).nodes → Says key val σ m (who_of c) (answer small σ c)
call_says key val σ h m S (Call.Start who op) agrees = began_says key val σ m who op
call_says key val σ h m S (Call.Step t) agrees =
    step_says key val σ h m S t (step_advances key val σ h m S t agrees)

-- the words agree with themselves
own_words : (used : ℕ) (ns : List ℕ) → Agrees (key_at ns) (value_at ns) used ns
own_words used ns = record { keyed = λ x _. refl; valued = λ x _. refl }

-- keys and values are the words after the call, so that an insert's new node has its own
pub told : (σ : State) (h : Past) → Reached small σ h → (c : Call) → Told σ h c
told σ h R c =
    let ns = (go small σ c).nodes in
    let agrees = own_words (used_of (go small σ c)) ns in
    let d = reached_shown R (key_at ns) (value_at ns) (agree_back small (key_at ns) (value_at ns) σ c agrees) in
    record {
      key = key_at ns;
      val = value_at ns;
      drawing = d.0;
      shown = d.1;
      says = call_says (key_at ns) (value_at ns) σ h d.0 d.1 c agrees;
    }

-- keys and values are the register's own words
pub seen : (σ : State) (h : Past) → Reached small σ h
    → (m : Drawing) × Shown small (key_at σ.nodes) (value_at σ.nodes) σ h m
seen σ h R = reached_shown R (key_at σ.nodes) (value_at σ.nodes) (own_words (used_of σ) σ.nodes)

module _ (σ : State) (h : Past) (c : Call) (T : Told σ h c) where
  refused_says : (why : Refusal) → answer small σ c ≡ Answer.Refused why
      → Says T.key T.val σ T.drawing (who_of c) (Answer.Refused why)
  refused_says why e =
      History.says_of T.key T.val σ h T.drawing T.shown c T.says (Answer.Refused why) e

  full_is : Refuses 6 (answer small σ c) → used_of σ ≡ 512
  full_is r = let w = refusing (answer small σ c) 6 r in
      refused_says Refusal.Full (w.1 ∙ ap Answer.Refused (is_full w.0 w.2))

  undamaged_is : ¬ Refuses 8 (answer small σ c)
  undamaged_is r = let w = refusing (answer small σ c) 8 r in
      refused_says Refusal.Damaged (w.1 ∙ ap Answer.Refused (is_damaged w.0 w.2))

-- ---- DEMAND 2
pub demand_2 : Demand2
demand_2 = record {
  stamp = λ σ h R. let d = seen σ h R in History.stamp_is _ _ σ h d.0 d.1;
  inserted = λ σ h R c. let T = told σ h R c in
      History.inserted_is T.key T.val σ h T.drawing T.shown c T.says;
  removed = λ σ h R c. let T = told σ h R c in
      History.removed_is T.key T.val σ h T.drawing T.shown c T.says;
  present = λ σ h R c. let T = told σ h R c in
      History.present_is T.key T.val σ h T.drawing T.shown c T.says;
  absent = λ σ h R c. let T = told σ h R c in
      History.absent_is T.key T.val σ h T.drawing T.shown c T.says;
  full = λ σ h R c. full_is σ h c (told σ h R c);
  end = λ σ h R c. let T = told σ h R c in
      History.end_is T.key T.val σ h T.drawing T.shown c T.says;
  so_far = λ σ h R who low high s op. let d = seen σ h R in
      History.part _ _ σ h d.0 d.1 who low high s op;
  next_key = λ σ h R c. let T = told σ h R c in
      History.key_is T.key T.val σ h T.drawing T.shown c T.says;
  undamaged = λ σ h R c. undamaged_is σ h c (told σ h R c);
  bounds = λ σ h R. let d = seen σ h R in
      (d.1.most, History.stamp_most _ _ σ h d.0 d.1, entries_most _ _ σ h d.0 d.1);
}

-- ---- the end of a range that is known to be under way
same_ends : (σ : State) (h : Past) (who a b low high t n : ℕ) → Op.Op.Range a b ≡ Op.Op.Range low high
    → RangeIs σ h who a b t n → RangeIs σ h who low high t n
same_ends σ h who a b low high t n e is =
    let same_low : a ≡ low = cc in let same_high : b ≡ high = cc in rw (← same_low, ← same_high) is

pub range_end : (σ : State) (h : Past) → Reached small σ h → (c : Call) (low high t n : ℕ)
    → h.under (who_of c) ≡ Op.Op.Range low high → answer small σ c ≡ Answer.End t n
    → RangeIs σ h (who_of c) low high t n
range_end σ h R c low high t n op a =
    let d = demand_2.end σ h R c t n a in
    same_ends σ h (who_of c) d.0 d.1 low high t n (sym d.2 ∙ op) d.3
