-- Demand 1: every refusal exactly when its row says, in the order said, and what a refused or waiting call leaves.
-- In order: answers told apart; the tests before a call; fresh; start; step; a call over sixteen records; the demand.
-- Each call is first sorted by the way that it went, and both halves of its demand are read off that.
-- Not here: the steps by phase (Settled). Assumes nothing.
use Prim.Native.Nat.{ℕ, ◌*◌}
use mathlib.Core.Path.{◌≡◌, refl, sym, ◌∙◌, ap, subst}
use mathlib.Core.Logic.{◌↔◌, ◌⊎◌, inl, inr, ⊎_elim, ◌≢◌}
use mathlib.Core.List.{List}
use mathlib.Core.Bool.{false, true≢false}
use native.Mathlib.Omega.{arith}
use lib.ListN.{length, set, length-set}
use lib.Dec.{ltb}
use borrow.Author.Tests.{ltb-true, ltb-false}
use lib.Seq.{get_or-set_same, get_or-set_other}
use Rattle.nodes.specs.Nodes.{next_at, unlocked}
use Rattle.terms.specs.Terms.{sought_of, high_of, out_of_bounds, tail_key, small, name_of, names_of, refusal_number}
use Rattle.terms.specs.Terms.{Refuses}
use Rattle.terms.specs.Terms.{started, waiting, refused}
use Rattle.terms.specs.declared.Size.{Size}
use Rattle.terms.specs.declared.Counters.{Counters}
use Rattle.terms.specs.declared.Op.{Op}
use Rattle.terms.specs.declared.Refusal.{Refusal}
use Rattle.terms.specs.declared.Answer.{Answer}
use Rattle.steps.specs.declared.Phase.{Phase}
use Rattle.steps.specs.declared.Session.{Session}
use Rattle.steps.specs.Steps.{Done, done, idle, gives, under_way, busy_of, refuses}
use Rattle.register.specs.declared.Started.{Started}
use Rattle.register.specs.Register.{fits, fresh_of, bad_key, keeps, began, start_of, step_of}
use Rattle.sixteen.specs.declared.Register.{Register}
use Rattle.sixteen.specs.declared.Call.{Call}
use Rattle.sixteen.specs.Sixteen.{session_of, after_step, serve_of}
use Rattle.demands.specs.Demands.{Kept, answer_of, returned, sessions_of, served_answer, who_of, own_record}
use Rattle.demands.specs.Demands.{own_answer}
use Rattle.demands.specs.Demands.{BadTable, BadSession, Busy, Idle, OutOfBounds, BadKey, BadRange, Asks, Acts}
use Rattle.demands.specs.Demands.{Damage, Full, Wait, FreshDemand, StartRows, StartLeaves, StepRows, StepLeaves}
use Rattle.demands.specs.Demands.{ServeDemand, Demand1}
use Rattle.demands.proofs.Splits.{Splits, split_lt, split_eq, split_and, split_or, split_when, split_unless}
use Rattle.demands.proofs.Splits.{split_cases}
use Rattle.demands.proofs.Settled.{Gone, Goes, Settled, damages, halts, fills, goes, acts_settle}

-- ---- answers told apart
pub itself : (why : Refusal) → Refuses (refusal_number why) (Answer.Refused why)
itself why = record { name = refl; values = refl }

told : (why : Refusal) (n : ℕ) → Refuses n (Answer.Refused why) → n ≡ refusal_number why
told why n r = let v = r.values in cc

other : (why : Refusal) (n : ℕ) → refusal_number why ≢ n → ¬ Refuses n (Answer.Refused why)
other why n apart r = apart (sym (told why n r))

-- a refusal neither waits nor starts, and an answer of another name is no refusal
refused≢waiting : refused ≢ waiting
refused≢waiting e = let w : ◌≡◌ {A = ℕ} 0 1 = cc in omega arith

refused≢started : refused ≢ started
refused≢started e = let w : ◌≡◌ {A = ℕ} 0 1 = cc in omega arith

waiting≢started : waiting ≢ started
waiting≢started e = let w : ◌≡◌ {A = ℕ} 0 1 = cc in omega arith

none_waiting : (n : ℕ) → ¬ Refuses n Answer.Waiting
none_waiting n r = refused≢waiting (sym r.name)

none_started : (n : ℕ) → ¬ Refuses n Answer.Started
none_started n r = refused≢started (sym r.name)

none_gone : (a : Answer) (n : ℕ) → Goes a → ¬ Refuses n a
none_gone a n g r = subst Gone r.name g

-- tables, counters and record as they were, by computing
kept : (ns es : List ℕ) (c : Counters) (s : Session) (a : Answer) →
    Kept ns es c s (done ns es (gives c s.op s.phase a))
kept ns es c s a = record { nodes = refl; entries = refl; counters = refl; session = refl }

-- ---- a row that holds, and one that does not
holds : {A B : Type 0} → A → B → A ↔ B
holds a b = (λ _. b, λ _. a)

fails : {A B : Type 0} → ¬ A → ¬ B → A ↔ B
fails f g = (λ a. absurd (f a), λ b. absurd (g b))

-- ---- the tests before a call
split_fits : (z : Size) (ns es : List ℕ) → Splits (¬ BadTable z ns es) (BadTable z ns es) (fits z ns es)
unfolding fits
split_fits z ns es =
    let s = split_and (split_eq (length ns) (z.nodes * 6)) (split_eq (length es) (z.entries * 4)) in
    record { taken = λ e. ⊎_elim (λ n. n (s.taken e).0) (λ n. n (s.taken e).1); left = s.left }

split_known : (who : ℕ) → Splits (¬ BadSession who) (BadSession who) (ltb who 16)
split_known who =
    record { taken = λ e past. omega (arith, ltb-true who 16 e); left = λ e. omega (arith, ltb-false who 16 e) }

unnamed : (op : Op) → names_of op ≡ false → op ≡ Op.None
unnamed Op.None e = refl
unnamed (Op.Insert k v) e = absurd (true≢false e)
unnamed (Op.Remove k) e = absurd (true≢false e)
unnamed (Op.Has k) e = absurd (true≢false e)
unnamed (Op.Range low high) e = absurd (true≢false e)

not_under_way : (here : Phase) → under_way here ≡ false → here ≡ Phase.Idle
not_under_way Phase.Idle e = refl
not_under_way (Phase.Walk pred curr) e = absurd (true≢false e)
not_under_way (Phase.Lock pred curr) e = absurd (true≢false e)
not_under_way (Phase.LockCurr pred curr) e = absurd (true≢false e)
not_under_way (Phase.Check pred curr) e = absurd (true≢false e)
not_under_way (Phase.Prepare pred curr) e = absurd (true≢false e)
not_under_way (Phase.Number pred node lower upper) e = absurd (true≢false e)
not_under_way (Phase.Link pred node lower upper number) e = absurd (true≢false e)
not_under_way (Phase.Finish pred node lower upper number) e = absurd (true≢false e)
not_under_way (Phase.Newest at) e = absurd (true≢false e)
not_under_way (Phase.Fix pred) e = absurd (true≢false e)
not_under_way (Phase.Follow at snapshot handed) e = absurd (true≢false e)
not_under_way (Phase.Hand at snapshot handed) e = absurd (true≢false e)

split_named : (op : Op) → Splits (op ≢ Op.None) (op ≡ Op.None) (names_of op)
split_named op = record { taken = λ t e. true≢false (sym t ∙ ap names_of e); left = unnamed op }

split_under_way : (here : Phase) → Splits (here ≢ Phase.Idle) (here ≡ Phase.Idle) (under_way here)
split_under_way here = record { taken = λ t e. true≢false (sym t ∙ ap under_way e); left = not_under_way here }

split_busy : (s : Session) → Splits (Busy s) (Idle s) (busy_of s)
split_busy s =
    let t = split_when (split_named s.op) (split_under_way s.phase) in
    record { taken = t.taken; left = λ e b. ⊎_elim b.0 b.1 (t.left e) }

split_bounds : (k : ℕ) → Splits (OutOfBounds k) (¬ OutOfBounds k) (out_of_bounds k)
unfolding out_of_bounds
split_bounds k =
    let s = split_unless (split_eq k 0) (split_eq k tail_key) in
    record { taken = s.taken; left = λ e. ⊎_elim (s.left e).0 (s.left e).1 }

split_key : (op : Op) → Splits (BadKey op) (¬ BadKey op) (bad_key op)
unfolding bad_key
split_key op =
    let s = split_or (split_bounds (sought_of op)) (split_bounds (high_of op)) in
    record { taken = s.taken; left = λ e. ⊎_elim (s.left e).0 (s.left e).1 }

-- ---- fresh
fresh_demand : (z : Size) (ns es : List ℕ) → FreshDemand z ns es (fresh_of z ns es)
unfolding fresh_of
fresh_demand z ns es =
    split_cases (FreshDemand z ns es) _ _ (split_fits z ns es)
    (λ fit. record { bad_table = fails (λ x. x) fit; answers = inl refl })
    (λ bad. record { bad_table = holds refl bad; answers = inr refl })

-- ---- start: the way that it went
module _ (z : Size) (ns es : List ℕ) (who : ℕ) (s : Session) (op : Op) where
  data Began : Started → Type 0 where
    table : BadTable z ns es → Began (keeps s Refusal.BadTable)
    session : ¬ BadTable z ns es → BadSession who → Began (keeps s Refusal.BadSession)
    runs : ¬ BadTable z ns es → ¬ BadSession who → Busy s → Began (keeps s Refusal.Busy)
    key_out : Asks z ns es who s → BadKey op → Began (keeps s Refusal.BadKey)
    range_out : Asks z ns es who s → ¬ BadKey op → BadRange op → Began (keeps s Refusal.BadRange)
    begins : Asks z ns es who s → ¬ BadKey op → ¬ BadRange op →
        Began (record { session = record { op = op; phase = Phase.Walk 0 (next_at ns 0) }; answer = Answer.Started })

  asked : Asks z ns es who s → Began (began ns s op)
  unfolding began
  asked asks =
      split_cases Began _ _ (split_key op) (λ bad. key_out asks bad)
      (λ good. split_cases Began _ _ (split_lt (high_of op) (sought_of op)) (λ over. range_out asks good over)
      (λ upright. begins asks good (λ over. omega arith)))

  start_went : Began (start_of z ns es who s op)
  unfolding start_of
  start_went =
      split_cases Began _ _ (split_fits z ns es)
      (λ fit. split_cases Began _ _ (split_known who)
      (λ known. split_cases Began _ _ (split_busy s) (λ b. runs fit known b) (λ i. asked (fit, known, i)))
      (λ past. session fit past))
      (λ bad. table bad)

  start_rows : (r : Started) → Began r → StartRows z ns es who s op r.answer
  start_rows r (table bad) = record {
    bad_table = holds (itself Refusal.BadTable) bad;
    bad_session = fails (other Refusal.BadTable 1 (omega arith)) (λ h. h.0 bad);
    busy = fails (other Refusal.BadTable 2 (omega arith)) (λ h. h.0 bad);
    bad_key = fails (other Refusal.BadTable 3 (omega arith)) (λ h. h.0.0 bad);
    bad_range = fails (other Refusal.BadTable 4 (omega arith)) (λ h. h.0.0 bad);
  }
  start_rows r (session fit past) = record {
    bad_table = fails (other Refusal.BadSession 7 (omega arith)) (fit);
    bad_session = holds (itself Refusal.BadSession) (fit, past);
    busy = fails (other Refusal.BadSession 2 (omega arith)) (λ h. h.1 past);
    bad_key = fails (other Refusal.BadSession 3 (omega arith)) (λ h. h.0.1 past);
    bad_range = fails (other Refusal.BadSession 4 (omega arith)) (λ h. h.0.1 past);
  }
  start_rows r (runs fit known b) = record {
    bad_table = fails (other Refusal.Busy 7 (omega arith)) (fit);
    bad_session = fails (other Refusal.Busy 1 (omega arith)) (λ h. known h.1);
    busy = holds (itself Refusal.Busy) (fit, known, b);
    bad_key = fails (other Refusal.Busy 3 (omega arith)) (λ h. h.0.2 b);
    bad_range = fails (other Refusal.Busy 4 (omega arith)) (λ h. h.0.2 b);
  }
  start_rows r (key_out asks bad) = record {
    bad_table = fails (other Refusal.BadKey 7 (omega arith)) asks.0;
    bad_session = fails (other Refusal.BadKey 1 (omega arith)) (λ h. asks.1 h.1);
    busy = fails (other Refusal.BadKey 2 (omega arith)) (λ h. asks.2 h.2);
    bad_key = holds (itself Refusal.BadKey) (asks, bad);
    bad_range = fails (other Refusal.BadKey 4 (omega arith)) (λ h. h.1 bad);
  }
  start_rows r (range_out asks good over) = record {
    bad_table = fails (other Refusal.BadRange 7 (omega arith)) asks.0;
    bad_session = fails (other Refusal.BadRange 1 (omega arith)) (λ h. asks.1 h.1);
    busy = fails (other Refusal.BadRange 2 (omega arith)) (λ h. asks.2 h.2);
    bad_key = fails (other Refusal.BadRange 3 (omega arith)) (λ h. good h.1);
    bad_range = holds (itself Refusal.BadRange) (asks, good, over);
  }
  start_rows r (begins asks good upright) = record {
    bad_table = fails (none_started 7) asks.0;
    bad_session = fails (none_started 1) (λ h. asks.1 h.1);
    busy = fails (none_started 2) (λ h. asks.2 h.2);
    bad_key = fails (none_started 3) (λ h. good h.1);
    bad_range = fails (none_started 4) (λ h. upright h.2);
  }

  turned_away : (why : Refusal) → (refusal_number why ≡ 7) ⊎ ((refusal_number why ≡ 1) ⊎ ((refusal_number why ≡ 2)
      ⊎ ((refusal_number why ≡ 3) ⊎ (refusal_number why ≡ 4)))) → StartLeaves ns s op (keeps s why)
  turned_away why one = record {
    answers = inr (refusal_number why, itself why);
    refusals = λ n r. subst (λ m. (m ≡ 7) ⊎ ((m ≡ 1) ⊎ ((m ≡ 2) ⊎ ((m ≡ 3) ⊎ (m ≡ 4))))) (sym (told why n r)) one;
    starts = λ e. absurd (refused≢started (ap name_of e));
    refused_keeps = λ n r. refl;
  }

  start_leaves : (r : Started) → Began r → StartLeaves ns s op r
  start_leaves r (table bad) = turned_away Refusal.BadTable (inl refl)
  start_leaves r (session fit past) = turned_away Refusal.BadSession (inr (inl refl))
  start_leaves r (runs fit known b) = turned_away Refusal.Busy (inr (inr (inl refl)))
  start_leaves r (key_out asks bad) = turned_away Refusal.BadKey (inr (inr (inr (inl refl))))
  start_leaves r (range_out asks good over) = turned_away Refusal.BadRange (inr (inr (inr (inr refl))))
  start_leaves r (begins asks good upright) = record {
    answers = inl refl;
    refusals = λ n r. absurd (none_started n r);
    starts = λ _. refl;
    refused_keeps = λ n r. absurd (none_started n r);
  }

-- ---- step: the way that it went
module _ (z : Size) (ns es : List ℕ) (c : Counters) (who : ℕ) (s : Session) where
  abbrev Settles : Done → Type 0
  Settles d = Settled (Damage z ns es c s.op s.phase) (Full z ns es c s.op s.phase)
      (Wait z ns es who s.op s.phase) ns es c s.op s.phase d

  data Went : Done → Type 0 where
    table : BadTable z ns es → Went (done ns es (refuses c s.op s.phase Refusal.BadTable))
    session : ¬ BadTable z ns es → BadSession who →
        Went (done ns es (refuses c s.op s.phase Refusal.BadSession))
    rests : ¬ BadTable z ns es → ¬ BadSession who → Idle s →
        Went (done ns es (refuses c s.op s.phase Refusal.Idle))
    acts : Acts z ns es who s → (d : Done) → Settles d → Went d

  step_went : Went (step_of z ns es c who s)
  unfolding step_of
  step_went =
      split_cases Went _ _ (split_fits z ns es)
      (λ fit. split_cases Went _ _ (split_known who)
      (λ known. split_cases Went _ _ (split_busy s)
      (λ b. acts (fit, known, b) _ (acts_settle z ns es c s.op who s.phase b.1))
      (λ i. rests fit known i))
      (λ past. session fit past))
      (λ bad. table bad)

  settled_rows : Acts z ns es who s → (d : Done) → Settles d → StepRows z ns es c who s (answer_of d)
  settled_rows act d (damages harm room no_wait) = record {
    bad_table = fails (other Refusal.Damaged 7 (omega arith)) act.0;
    bad_session = fails (other Refusal.Damaged 1 (omega arith)) (λ h. act.1 h.1);
    idle_session = fails (other Refusal.Damaged 5 (omega arith)) (λ h. h.2 act.2);
    damaged = holds (itself Refusal.Damaged) (act, harm);
    full = fails (other Refusal.Damaged 6 (omega arith)) (λ h. room h.1);
    waits = fails refused≢waiting (λ h. no_wait h.1);
  }
  settled_rows act d (halts safe room due) = record {
    bad_table = fails (none_waiting 7) act.0;
    bad_session = fails (none_waiting 1) (λ h. act.1 h.1);
    idle_session = fails (none_waiting 5) (λ h. h.2 act.2);
    damaged = fails (none_waiting 8) (λ h. safe h.1);
    full = fails (none_waiting 6) (λ h. room h.1);
    waits = holds refl (act, due);
  }
  settled_rows act d (fills pred curr at_prepare safe all no_wait) = record {
    bad_table = fails (other Refusal.Full 7 (omega arith)) act.0;
    bad_session = fails (other Refusal.Full 1 (omega arith)) (λ h. act.1 h.1);
    idle_session = fails (other Refusal.Full 5 (omega arith)) (λ h. h.2 act.2);
    damaged = fails (other Refusal.Full 8 (omega arith)) (λ h. safe h.1);
    full = holds (itself Refusal.Full) (act, all);
    waits = fails refused≢waiting (λ h. no_wait h.1);
  }
  settled_rows act d (goes ns' es' r g safe room no_wait) = record {
    bad_table = fails (λ h. none_gone r.answer 7 g h) act.0;
    bad_session = fails (λ h. none_gone r.answer 1 g h) (λ h. act.1 h.1);
    idle_session = fails (λ h. none_gone r.answer 5 g h) (λ h. h.2 act.2);
    damaged = fails (λ h. none_gone r.answer 8 g h) (λ h. safe h.1);
    full = fails (λ h. none_gone r.answer 6 g h) (λ h. room h.1);
    waits = fails (λ e. subst Gone e g) (λ h. no_wait h.1);
  }

  step_rows : (d : Done) → Went d → StepRows z ns es c who s (answer_of d)
  step_rows d (acts a d' settles) = settled_rows a d' settles
  step_rows d (table bad) = record {
    bad_table = holds (itself Refusal.BadTable) bad;
    bad_session = fails (other Refusal.BadTable 1 (omega arith)) (λ h. h.0 bad);
    idle_session = fails (other Refusal.BadTable 5 (omega arith)) (λ h. h.0 bad);
    damaged = fails (other Refusal.BadTable 8 (omega arith)) (λ h. h.0.0 bad);
    full = fails (other Refusal.BadTable 6 (omega arith)) (λ h. h.0.0 bad);
    waits = fails refused≢waiting (λ h. h.0.0 bad);
  }
  step_rows d (session fit past) = record {
    bad_table = fails (other Refusal.BadSession 7 (omega arith)) (fit);
    bad_session = holds (itself Refusal.BadSession) (fit, past);
    idle_session = fails (other Refusal.BadSession 5 (omega arith)) (λ h. h.1 past);
    damaged = fails (other Refusal.BadSession 8 (omega arith)) (λ h. h.0.1 past);
    full = fails (other Refusal.BadSession 6 (omega arith)) (λ h. h.0.1 past);
    waits = fails refused≢waiting (λ h. h.0.1 past);
  }
  step_rows d (rests fit known i) = record {
    bad_table = fails (other Refusal.Idle 7 (omega arith)) (fit);
    bad_session = fails (other Refusal.Idle 1 (omega arith)) (λ h. known h.1);
    idle_session = holds (itself Refusal.Idle) (fit, known, i);
    damaged = fails (other Refusal.Idle 8 (omega arith)) (λ h. i h.0.2);
    full = fails (other Refusal.Idle 6 (omega arith)) (λ h. i h.0.2);
    waits = fails refused≢waiting (λ h. i h.0.2);
  }

  abbrev OneOf : ℕ → Type 0
  OneOf n = (n ≡ 7) ⊎ ((n ≡ 1) ⊎ ((n ≡ 5) ⊎ ((n ≡ 8) ⊎ (n ≡ 6))))

  away : (why : Refusal) → refusal_number why ≢ 6 → OneOf (refusal_number why) →
      StepLeaves ns es c s (done ns es (refuses c s.op s.phase why))
  away why not_full one = record {
    refusals = λ n r. subst OneOf (sym (told why n r)) one;
    no_start = refused≢started;
    refused_keeps = λ n _ r. kept ns es c s _;
    full_frees = λ r. absurd (other why 6 not_full r);
    waiting_keeps = λ e. absurd (refused≢waiting e);
  }

  settled_leaves : (d : Done) → Settles d → StepLeaves ns es c s d
  settled_leaves d (damages harm room no_wait) = away Refusal.Damaged (omega arith) (inr (inr (inr (inl refl))))
  settled_leaves d (halts safe room due) = record {
    refusals = λ n r. absurd (none_waiting n r);
    no_start = waiting≢started;
    refused_keeps = λ n _ r. absurd (none_waiting n r);
    full_frees = λ r. absurd (none_waiting 6 r);
    waiting_keeps = λ _. kept ns es c s _;
  }
  settled_leaves d (fills pred curr at_prepare safe all no_wait) = record {
    refusals = λ n r. inr (inr (inr (inr (told Refusal.Full n r))));
    no_start = refused≢started;
    refused_keeps = λ n not_full r. absurd (not_full (told Refusal.Full n r));
    full_frees = λ _. (pred, curr, at_prepare, kept (unlocked ns pred) es c idle _);
    waiting_keeps = λ e. absurd (refused≢waiting e);
  }
  settled_leaves d (goes ns' es' r g safe room no_wait) = record {
    refusals = λ n h. absurd (none_gone r.answer n g h);
    no_start = λ e. subst Gone e g;
    refused_keeps = λ n _ h. absurd (none_gone r.answer n g h);
    full_frees = λ h. absurd (none_gone r.answer 6 g h);
    waiting_keeps = λ e. absurd (subst Gone e g);
  }

  step_leaves : (d : Done) → Went d → StepLeaves ns es c s d
  step_leaves d (table bad) = away Refusal.BadTable (omega arith) (inl refl)
  step_leaves d (session fit past) = away Refusal.BadSession (omega arith) (inr (inl refl))
  step_leaves d (rests fit known i) = away Refusal.Idle (omega arith) (inr (inr (inl refl)))
  step_leaves d (acts a d' settles) = settled_leaves d' settles

-- ---- a call over sixteen records
after_sessions : (g : Register) (who : ℕ) (d : Done) →
    sessions_of (after_step g who d) ≡ set g.sessions who (returned d).session
after_sessions g who (done ns es r) = refl

after_answer : (g : Register) (who : ℕ) (d : Done) → served_answer (after_step g who d) ≡ answer_of d
after_answer g who (done ns es r) = refl

serve_sessions : (z : Size) (ns es : List ℕ) (g : Register) (call : Call) →
    sessions_of (serve_of z ns es g call) ≡ set g.sessions (who_of call) (own_record z ns es g call)
serve_sessions z ns es g (Call.Start who op) = refl
serve_sessions z ns es g (Call.Step who) =
    after_sessions g who (step_of z ns es g.counters who (session_of g.sessions who))

serve_answer : (z : Size) (ns es : List ℕ) (g : Register) (call : Call) →
    served_answer (serve_of z ns es g call) ≡ own_answer z ns es g call
serve_answer z ns es g (Call.Start who op) = refl
serve_answer z ns es g (Call.Step who) =
    after_answer g who (step_of z ns es g.counters who (session_of g.sessions who))

serve_demand : (z : Size) (ns es : List ℕ) (g : Register) (call : Call) → ServeDemand z ns es g call
serve_demand z ns es g call =
    let stored = serve_sessions z ns es g call in
    record {
      answered = serve_answer z ns es g call;
      own = λ there. rw stored (get_or-set_same g.sessions (who_of call) (own_record z ns es g call) idle there);
      others = λ n apart. rw stored
          (get_or-set_other g.sessions (who_of call) n (own_record z ns es g call) idle apart);
      as_many = rw stored (length-set g.sessions (who_of call) (own_record z ns es g call));
    }

-- ---- the demand
pub demand_1 : (z : Size) → Demand1 z
demand_1 z = record {
  fresh = fresh_demand z;
  start_rows = λ ns es who s op. start_rows z ns es who s op _ (start_went z ns es who s op);
  start_leaves = λ ns es who s op. start_leaves z ns es who s op _ (start_went z ns es who s op);
  step_rows = λ ns es c who s. step_rows z ns es c who s _ (step_went z ns es c who s);
  step_leaves = λ ns es c who s. step_leaves z ns es c who s _ (step_went z ns es c who s);
  serve = serve_demand z;
}

-- at the size of this build
pub demand_1_small : Demand1 small
demand_1_small = demand_1 small
