-- A call with one record is the call over sixteen records.
-- In order: a record put back as it was; a call of a session above 15; any call; the ways through the code.
-- Assumes nothing.
use Prim.Native.Nat.{ℕ, zero, suc, ◌+◌, ◌≤◌, ◌<◌, min}
use mathlib.Core.Path.{◌≡◌, refl, ap}
use mathlib.Core.List.{List, [], ◌∷◌}
use mathlib.Core.Logic.{⊎_elim}
use mathlib.Core.Bool.{Bool, true, false, cond}
use native.Mathlib.Omega.{arith}
use lib.ListN.{length, get_or, set}
use borrow.Author.Tests.{le-ltb}
use Rattle.text.specs.Text.{Puts}
use Rattle.text.proofs.Basics.{split}
use Rattle.terms.specs.declared.Size.{Size}
use Rattle.terms.specs.declared.Counters.{Counters}
use Rattle.terms.specs.declared.Op.{Op}
use Rattle.terms.specs.declared.Answer.{Answer}
use Rattle.terms.specs.declared.Refusal.{Refusal}
use Rattle.steps.specs.declared.Session.{Session}
use Rattle.steps.specs.declared.Stepped.{Stepped}
use Rattle.steps.specs.Steps.{Done, done, idle, refuses}
use Rattle.register.specs.Register.{fits, keeps, start_of, step_of}
use Rattle.sixteen.specs.declared.Register.{Register}
use Rattle.sixteen.specs.declared.Call.{Call}
use Rattle.sixteen.specs.Sixteen.{session_of, with, Left, served, after_step, serve_of}
use Rattle.running.specs.Running.{caller_of}
use Rattle.lines.specs.Lines.{answer_line}
use Rattle.lines.proofs.Room.{answer_length}
use Rattle.running.specs.OneRecord.{slot_of, call_of, turned, turn_of}

-- ---- a record put back as it was

set_same : (l : List Session) (i : ℕ) (d : Session) → set l i (get_or l i d) ≡ l
set_same [] i d = refl
set_same (x ∷ l) zero d = refl
set_same (x ∷ l) (suc i) d = ap (λ (r : List Session). x ∷ r) (set_same l i d)

-- ---- what a call over sixteen records leaves, from what it leaves of one

abbrev pub stored : Register → ℕ → Done → Left
stored g i (done ns es r) = served ns es (with g r.counters i r.session r.answer)

-- ---- a session above 15 is refused, and its record is given back

why : Size → List ℕ → List ℕ → Refusal
why z ns es = cond (fits z ns es) Refusal.BadSession Refusal.BadTable

start_past : (z : Size) (ns es : List ℕ) (who : ℕ) (s : Session) (op : Op) → 16 ≤ who →
    start_of z ns es who s op ≡ keeps s (why z ns es)
unfolding start_of why
start_past z ns es who s op past = rw (le-ltb who 16 past) (by (fits z ns es))
  where
    by : (t : Bool) → cond t (keeps s Refusal.BadSession) (keeps s Refusal.BadTable) ≡
        keeps s (cond t Refusal.BadSession Refusal.BadTable)
    by true = refl
    by false = refl

step_past : (z : Size) (ns es : List ℕ) (c : Counters) (who : ℕ) (s : Session) → 16 ≤ who →
    step_of z ns es c who s ≡ done ns es (refuses c s.op s.phase (why z ns es))
unfolding step_of why
step_past z ns es c who s past = rw (le-ltb who 16 past) (by (fits z ns es))
  where
    by : (t : Bool) → cond t (done ns es (refuses c s.op s.phase Refusal.BadSession))
        (done ns es (refuses c s.op s.phase Refusal.BadTable)) ≡
        done ns es (refuses c s.op s.phase (cond t Refusal.BadSession Refusal.BadTable))
    by true = refl
    by false = refl

kept : (g : Register) (c : Counters) (i j : ℕ) (a : Answer) →
    with g c i (get_or g.sessions i idle) a ≡ with g c j (get_or g.sessions j idle) a
kept g c i j a = rw (set_same g.sessions i idle, set_same g.sessions j idle)

-- ---- any call

own : (who : ℕ) → who < 16 → min who 15 ≡ who
own who h = omega arith

last : (who : ℕ) → 16 ≤ who → min who 15 ≡ 15
last who h = omega arith

module _ (z : Size) (ns es : List ℕ) (g : Register) where
  below : (call : Call) → caller_of call < 16 →
      serve_of z ns es g call ≡
      stored g (slot_of call) (call_of z ns es g.counters call (get_or g.sessions (slot_of call) idle))
  below (Call.Start who op) h = rw (own who h)
  below (Call.Step who) h = rw (own who h) (by (step_of z ns es g.counters who (session_of g.sessions who)))
    where
      by : (d : Done) → after_step g who d ≡ stored g who d
      by (done ns' es' r) = refl

  above : (call : Call) → 16 ≤ caller_of call →
      serve_of z ns es g call ≡
      stored g (slot_of call) (call_of z ns es g.counters call (get_or g.sessions (slot_of call) idle))
  above (Call.Start who op) past =
      rw (
        last who past,
        start_past z ns es who (get_or g.sessions who idle) op past,
        start_past z ns es who (get_or g.sessions 15 idle) op past,
      )
      (ap (served ns es) (kept g g.counters who 15 (Answer.Refused (why z ns es))))
  above (Call.Step who) past =
      rw (
        last who past,
        step_past z ns es g.counters who (get_or g.sessions who idle) past,
        step_past z ns es g.counters who (get_or g.sessions 15 idle) past,
      )
      (ap (served ns es) (kept g g.counters who 15 (Answer.Refused (why z ns es))))

  pub call_slot : (call : Call) → serve_of z ns es g call ≡
      stored g (slot_of call) (call_of z ns es g.counters call (get_or g.sessions (slot_of call) idle))
  call_slot call = ⊎_elim (λ h. below call h) (λ h. above call h) (split (caller_of call) 16)

-- ---- the ways through the code

pub answer_fits : (place who m o : ℕ) (a : Answer) → place + 67 ≤ m → o ≡ m → place + length (answer_line who a) ≤ o
answer_fits place who m o a room e = omega (arith, answer_length who a)

pub turn_is : (z : Size) (ns es out ns' es' out' : List ℕ) (place who next : ℕ) (c : Counters) (call : Call)
    (s : Session) (r : Stepped) → done ns' es' r ≡ call_of z ns es c call s → who ≡ caller_of call →
    Puts out out' place (answer_line who r.answer) next →
    turned ns' es' out' r.counters r.session next ≡ turn_of z ns es out place c call s
unfolding turn_of
turn_is z ns es out ns' es' out' place who next c call s r did called puts =
    rw (← did, ← called, puts.0, puts.1)

pub ruleset turning = (answer_fits, turn_is)
