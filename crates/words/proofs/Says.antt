-- What the answer to a call says, told of the drawing that the words show.
-- In order: full, in the drawing and in words; what each answer says; that a call's answer says so.
-- Not here: the history in demand 2's words (Demand2). Assumes nothing.
use Rattle.std.specs.Prelude.{Result, Ok, Err}
use Prim.Native.Nat.{ℕ, ◌+◌, ◌<◌}
use mathlib.Core.Path.{◌≡◌, refl, sym, ◌∙◌, ap, subst}
use mathlib.Core.Logic.{◌⊎◌, inl, inr}
use mathlib.Core.Bool.{true}
use mathlib.Core.List.{List}
use native.Mathlib.Omega.{arith}
use lib.ListN.{length}
use lib.Dec.{ltb}
use Rattle.order.specs.Set.{Pair, Update, insert, remove}
use Rattle.order.specs.History.{empty}
use Rattle.order.proofs.Tests.{cond_cases, eqb_cases}
use Rattle.bundle.specs.declared.Held.{Held}
use Rattle.terms.specs.Terms.{small}
use Rattle.terms.specs.declared.Size.{Size}
use Rattle.terms.specs.declared.Counters.{Counters}
use Rattle.terms.specs.declared.Op
use Rattle.terms.specs.declared.Refusal.{Refusal}
use Rattle.terms.specs.declared.Answer.{Answer}
use Rattle.steps.specs.declared.Phase
use Rattle.steps.specs.declared.Session.{Session}
use Rattle.steps.specs.declared.Stepped.{Stepped}
use Rattle.steps.specs.Steps.{busy_of, Done, done, Tables, tables, leaves, held_at, on_held, insert_laid, insert_room}
use Rattle.steps.specs.Steps.{prepare_step, act_step}
use Rattle.register.specs.Register.{step_of}
use Rattle.sixteen.specs.declared.Register.{Register}
use Rattle.sixteen.specs.declared.Call.{Call}
use Rattle.sixteen.specs.Sixteen.{after_step}
use Rattle.reached.specs.Reached.{State, record_of, answer_in, answer, Past}
use Rattle.drawing.specs.Phases.{upd, Phase, idle, preparing}
use Rattle.drawing.specs.Drawing.{Drawing}
use Rattle.drawing.specs.Effects.{Effect}
use Rattle.drawing.specs.Steps
use Rattle.drawing.specs.Steps.{Out, working, present, absent, full, inserted, removed, key_value, ended, Step}
use Rattle.drawing.specs.Steps.{walk_on, walk_arrive, lock_pred, lock_curr, check_again, check_present, check_absent}
use Rattle.drawing.specs.Steps.{check_pass, prepare_full, prepare_insert, prepare_remove, number_it, link_it}
use Rattle.drawing.specs.Steps.{finish_it}
use Rattle.drawing.specs.Steps.{seek_on, seek_present, seek_absent, fix_it, follow_on, follow_in, follow_end}
use Rattle.drawing.specs.Steps.{hand_out}
use Rattle.drawing.specs.Answers.{Right}
use Rattle.drawing.proofs.Answers.{answers}
use Rattle.words.proofs.Show.{running, out_word, Advance, waited, stepped, Shown, Advanced, shown_inv}
use Rattle.words.proofs.Land.{used_of, Early, Busy, busy_record, fits_whole, step_acts}
use Rattle.words.proofs.Starts.{Begins, begins, refuses_early, start_says, idle_refused}

-- ---- full is answered at an insert's Prepare alone
abbrev Other : Out → Type 0
Other working = Unit {0}
Other present = Unit {0}
Other absent = Unit {0}
Other full = ⊥
Other (inserted n) = Unit {0}
Other (removed n) = Unit {0}
Other (key_value k v) = Unit {0}
Other (ended s given) = Unit {0}

not_full : {P : Type 0} (o : Out) → Other o → o ≡ full → P
not_full o other e = absurd (rw e at other)

done_other : (u : Update) (n : ℕ) → Other (Steps.done u n)
done_other (insert k v) n = tt
done_other (remove k) n = tt

module _ (key val : ℕ → ℕ) (m : Drawing) (t : ℕ) where
  abbrev Preparing : Type 0
  Preparing = (k v p q : ℕ) × (m.phase t ≡ preparing (insert k v) p q)

  full_phase : {o : Out} {f : Effect} {φ : Phase} → Step key val empty t m o f φ → o ≡ full → Preparing
  full_phase (walk_on op p q e h) = not_full working tt
  full_phase (walk_arrive op p q e h) = not_full working tt
  full_phase (lock_pred u p q e l) = not_full working tt
  full_phase (lock_curr k p q e l) = not_full working tt
  full_phase (check_again u p q e s) = not_full working tt
  full_phase (check_present k v p q e g h) = not_full present tt
  full_phase (check_absent k p q e g h) = not_full absent tt
  full_phase (check_pass u p q e g h) = not_full working tt
  full_phase (prepare_full k v p q r e b) = λ _. (k, v, p, q, e)
  full_phase (prepare_insert k v p q r n e bp bn n≢tail nk nv) = not_full working tt
  full_phase (prepare_remove k p q r r₂ e bp bq) = not_full working tt
  full_phase (number_it u p y z c e) = not_full working tt
  full_phase (link_it u p y z c n e) = not_full working tt
  full_phase (finish_it u p y z c n r r₂ e bp by) = not_full (Steps.done u n) (done_other u n)
  full_phase (seek_on k x q e a h) = not_full working tt
  full_phase (seek_present k x q e a h) = not_full present tt
  full_phase (seek_absent k x q e a h) = not_full absent tt
  full_phase (fix_it low high p e) = not_full working tt
  full_phase (follow_on low high x s q given e a h) = not_full working tt
  full_phase (follow_in low high x s q given e a h k) = not_full working tt
  full_phase (follow_end low high x s q given e a h k) = not_full (ended s given) tt
  full_phase (hand_out low high x s given e) = not_full (key_value (key x) (val x)) tt

-- and there only where the node counter stands at the table's size
abbrev answer_of : Done → Answer
answer_of (done ns es r) = r.answer

abbrev Full : Answer
Full = Answer.Refused Refusal.Full

module _ (z : Size) (ns es : List ℕ) (c : Counters) (op : Op.Op) (p q : ℕ) where
  record OnlyFull (o : Done) : Type 0 where
    only : answer_of o ≡ Full → c.nodes ≡ z.nodes

  never : (o : Done) → (answer_of o ≡ Full → ⊥) → OnlyFull o
  never o n = record { only = λ e. absurd (n e) }

  clash_damaged : Answer.Refused Refusal.Damaged ≡ Full → ⊥
  clash_damaged e = let w : ◌≡◌ {A = ℕ} 0 1 = cc in omega arith

  clash_waiting : Answer.Waiting ≡ Full → ⊥
  clash_waiting e = let w : ◌≡◌ {A = ℕ} 0 1 = cc in omega arith

  clash_working : Answer.Working ≡ Full → ⊥
  clash_working e = let w : ◌≡◌ {A = ℕ} 0 1 = cc in omega arith

  laid_answer : (t : Tables) (r : Stepped) → answer_of (leaves t r) ≡ r.answer
  laid_answer (tables a b) r = refl

  room_full : OnlyFull (insert_room z ns es c op p q)
  unfolding insert_room
  room_full = cond_cases OnlyFull (ltb z.nodes c.nodes) _ _ (λ _. never _ clash_damaged)
      (λ _. eqb_cases OnlyFull c.nodes z.nodes _ _ (λ e. record { only = λ _. e })
      (λ _. cond_cases OnlyFull (ltb z.entries (c.entries + 2)) _ _ (λ _. never _ clash_damaged)
      (λ _. never _ (λ e. clash_working (sym (laid_answer (insert_laid ns es c op p q) _) ∙ e)))))

  held_full : (here : Phase.Phase) (held : Result (Unit {0}) Held) (next : Done) → OnlyFull next
      → OnlyFull (on_held ns es c op here held next)
  held_full here (Ok tt) next o = o
  held_full here (Err Held.Wait) next o = never _ clash_waiting
  held_full here (Err Held.Damaged) next o = never _ clash_damaged

prepare_words : (z : Size) (ns es : List ℕ) (c : Counters) (k v p q : ℕ)
    → OnlyFull z ns es c (Op.Op.Insert k v) p q (prepare_step z ns es c (Op.Op.Insert k v) p q)
unfolding prepare_step
prepare_words z ns es c k v p q = held_full z ns es c (Op.Op.Insert k v) p q (Phase.Phase.Prepare p q)
    (held_at z ns es p) (insert_room z ns es c (Op.Op.Insert k v) p q) (room_full z ns es c (Op.Op.Insert k v) p q)

-- ---- what each answer says
abbrev pub Allows : State → Refusal → Type 0
Allows σ Refusal.BadSession = Unit {0}
Allows σ Refusal.Busy = Unit {0}
Allows σ Refusal.BadKey = Unit {0}
Allows σ Refusal.BadRange = Unit {0}
Allows σ Refusal.Idle = Unit {0}
Allows σ Refusal.Full = used_of σ ≡ 512
Allows σ Refusal.BadTable = Unit {0}
Allows σ Refusal.Damaged = ⊥

module _ (key val : ℕ → ℕ) (σ : State) (m : Drawing) (t : ℕ) where
  abbrev pub Says : Answer → Type 0
  Says Answer.Started = Unit {0}
  Says Answer.Working = Unit {0}
  Says Answer.Waiting = Unit {0}
  Says (Answer.Key k v) = (t < 16) × Right key val empty m t (key_value k v)
  Says (Answer.Inserted n) = (t < 16) × Right key val empty m t (inserted n)
  Says (Answer.Removed n) = (t < 16) × Right key val empty m t (removed n)
  Says Answer.Present = (t < 16) × Right key val empty m t present
  Says Answer.Absent = (t < 16) × Right key val empty m t absent
  Says (Answer.End s n) =
      (t < 16) × ((given : List Pair) × (n ≡ length given) × Right key val empty m t (ended s given))
  Says (Answer.Refused why) = Allows σ why

  early_says : (why : Refusal) → Early why → Says (Answer.Refused why)
  early_says Refusal.BadSession e = tt
  early_says Refusal.Busy e = tt
  early_says Refusal.BadKey e = tt
  early_says Refusal.BadRange e = tt
  early_says Refusal.Idle e = tt
  early_says Refusal.Full e = absurd e
  early_says Refusal.BadTable e = tt
  early_says Refusal.Damaged e = absurd e

  begins_says : (a : Answer) → Begins a → Says a
  begins_says a begins = tt
  begins_says a (refuses_early why e) = early_says why e

  out_says : (o : Out) → t < 16 → Right key val empty m t o → (o ≡ full → used_of σ ≡ 512) → Says (out_word o)
  out_says working low r room = tt
  out_says present low r room = (low, r)
  out_says absent low r room = (low, r)
  out_says full low r room = room refl
  out_says (inserted n) low r room = (low, r)
  out_says (removed n) low r room = (low, r)
  out_says (key_value k v) low r room = (low, r)
  out_says (ended s given) low r room = (low, (given, refl, r))

left_answer : (g : Register) (t : ℕ) (o : Done) → answer_in (after_step g t o) ≡ answer_of o
left_answer g t (done ns es r) = refl

module _ (key val : ℕ → ℕ) (σ : State) (h : Past) (m : Drawing) (S : Shown small key val σ h m) (t : ℕ) where
  -- ---- the answer to a busy session's step, by its record; and full in words
  step_answer : (s : Session) → record_of σ t ≡ s → t < 16 → busy_of (record_of σ t) ≡ true
      → answer small σ (Call.Step t)
      ≡ answer_of (act_step small σ.nodes σ.entries σ.register.counters t s.op s.phase)
  step_answer s is low busy =
      left_answer σ.register t
      (step_of small σ.nodes σ.entries σ.register.counters t (record_of σ t))
      ∙ ap answer_of (step_acts small σ.nodes σ.entries σ.register.counters t (record_of σ t)
      (fits_whole small σ.nodes σ.entries S.whole_nodes S.whole_entries) low busy)
      ∙ ap (λ a. answer_of (act_step small σ.nodes σ.entries σ.register.counters t a.op a.phase)) is

  full_words : (k v p q : ℕ) → t < 16 → m.phase t ≡ preparing (insert k v) p q
      → answer small σ (Call.Step t) ≡ Full → used_of σ ≡ 512
  full_words k v p q low e a =
      let is : record_of σ t ≡ running (upd (insert k v)) (Phase.Phase.Prepare p q) = rw e at (S.runs t low) in
      let busy = busy_record S.own (preparing (insert k v) p q) (record_of σ t) tt is in
      (prepare_words small σ.nodes σ.entries σ.register.counters k v p q).only
      (sym (step_answer (running (upd (insert k v)) (Phase.Phase.Prepare p q)) is low busy) ∙ a)

  -- ---- the answer to a step
  advance_says : (m' : Drawing) → t < 16 → Advance key val t m m' (answer small σ (Call.Step t))
      → Says key val σ m t (answer small σ (Call.Step t))
  advance_says m' low (waited w same a) = subst (Says key val σ m t) (sym a) tt
  advance_says m' low (stepped o f φ step same a) =
      subst (Says key val σ m t) (sym a) (out_says key val σ m t o low (answers key val empty m (shown_inv S) t step)
      (λ e. let d = full_phase key val m t step e in
      full_words d.0 d.1 d.2 d.3 low d.4 (a ∙ ap out_word e)))

  pub step_says : (m.phase t ≡ idle) ⊎ ((t < 16) × Advanced key val σ h m t)
      → Says key val σ m t (answer small σ (Call.Step t))
  step_says (inl quiet) = let d = idle_refused key val σ h m S t quiet in
      subst (Says key val σ m t) (sym (ap answer_in d.2)) (early_says key val σ m t d.0 d.1)
  step_says (inr a) = advance_says a.1.0 a.0 a.1.2

-- and to a start, of any words
pub began_says : (key val : ℕ → ℕ) (σ : State) (m : Drawing) (who : ℕ) (op : Op.Op)
    → Says key val σ m who (answer small σ (Call.Start who op))
began_says key val σ m who op = begins_says key val σ m who _ (start_says small σ who op)
