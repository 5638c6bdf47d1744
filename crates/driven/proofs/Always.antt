-- Slices that hold a reached register hold one after any call of the library.
-- In order: slices that a call leaves as they were; a start's numbers; steps in a row; each call; the theorems.
-- Assumes nothing.
use Prim.Native.Nat.{ℕ, zero, suc}
use mathlib.Core.Path.{◌≡◌, refl, sym, ◌∙◌}
use mathlib.Core.Bool.{Bool, true, false, cond}
use mathlib.Core.List.{List}
use native.Mathlib.Omega.{arith}
use native.Mathlib.Decide.{ℕ_discrete, dec_lt}
use lib.ListN.{length}
use lib.Dec.{eqb}
use borrow.Author.Tests.{eq-eqb}
use Rattle.terms.specs.Terms.{small}
use Rattle.terms.specs.declared.Op.{Op}
use Rattle.register.specs.Register.{fits}
use Rattle.sixteen.specs.declared.Call.{Call}
use Rattle.fairness.specs.Calls.{after}
use Rattle.reached.specs.Reached.{State, go, Past, note, InWords, Reached}
use Rattle.reached.specs.Reached.{on as reached_on}
use Rattle.encoding.specs.Encoding.{op_from}
use Rattle.exchange.specs.Exchange.{left, read_call}
use Rattle.calling.specs.Calling.{lengths_fit, strode}
use Rattle.stepping.specs.Stepping.{heard, step_call}
use Rattle.ffi.specs.Ffi.{cleared, fresh_call, start_call, steps_call}
use Rattle.stepping.proofs.Ways.{step_silent}
use Rattle.ffi.proofs.Ways.{start_silent, strides_silent, strides_lengths, strides_session}
use Rattle.driven.specs.Driven.{in_a_row, Did, Strides}
use Rattle.driven.specs.Always.{HoldsReached, AreWords, fresh, start, step, steps, read, StaysReached}
use Rattle.driven.specs.Always.{freshly, listed, on, LentReached, Unchanged}
use Rattle.driven.proofs.Driven.{driven}
use Rattle.driven.proofs.Refused.{refused_keeps}

-- ---- slices as they were
unchanged : (ns es ws ns' es' ws' : List ℕ) → HoldsReached ns es ws → Unchanged ns es ws ns' es' ws'
    → HoldsReached ns' es' ws'
unchanged ns es ws ns' es' ws' R U = rw (U.nodes, U.entries, U.words) R

-- ---- a call made on a reached register
did : (ns es ws : List ℕ) (R : HoldsReached ns es ws) (call : Call) (ns' es' ws' out out' : List ℕ) (n : ℕ)
    → InWords call → Did R.state call ns' es' ws' out out' n → HoldsReached ns' es' ws'
did ns es ws R call ns' es' ws' out out' n words D = record {
  state = go small R.state call;
  past = note small R.state call R.past;
  holds = D.holds;
  reached = reached_on R.reached call words;
}

-- the numbers that a start asks for are words
module _ (who first second : ℕ) (words : AreWords first second) where
  asked_by : (a b c d : Bool) → InWords (Call.Start who (cond a (Op.Insert first second)
      (cond b (Op.Remove first) (cond c (Op.Has first) (cond d (Op.Range first second) Op.None)))))
  asked_by true b c d = (words.0, words.0, words.1)
  asked_by false true c d = (words.0, words.0, omega arith)
  asked_by false false true d = (words.0, words.0, omega arith)
  asked_by false false false true = (words.0, words.1, omega arith)
  asked_by false false false false = (omega arith, omega arith, omega arith)

  asked : (kind : ℕ) → InWords (Call.Start who (op_from kind first second))
  unfolding op_from
  asked kind = asked_by (eqb kind 1) (eqb kind 2) (eqb kind 3) (eqb kind 4)

-- steps in a row
row_reached : (who made : ℕ) {σ : State} {h : Past} → Reached small σ h
    → (k : Past) × Reached small (after (go small) σ (in_a_row made who)) k
row_reached who zero {σ} {h} r = (h, r)
row_reached who (suc made) {σ} {h} r = row_reached who made (reached_on r (Call.Step who) tt)

-- ---- fresh and reading, where they return 0
opened_fresh : (ns es ws ns' es' ws' : List ℕ) → cleared ns' es' ws' 0 ≡ fresh_call small ns es ws
    → HoldsReached ns' es' ws'
opened_fresh ns es ws ns' es' ws' told =
    let F = driven.fresh ns es ws ns' es' ws' told in
    record { state = _; past = _; holds = F.0; reached = F.1 }

opened_read : (input ns es ws out ns' es' ws' out' : List ℕ)
    → left ns' es' ws' out' 0 ≡ read_call small input ns es ws out → HoldsReached ns' es' ws'
opened_read input ns es ws out ns' es' ws' out' told =
    let F = driven.read input ns es ws out ns' es' ws' out' told in
    record { state = _; past = _; holds = F.holds; reached = F.reached }

module _ (ns es ws : List ℕ) (R : HoldsReached ns es ws) where
  -- ---- fresh and reading: opened, or refused and as it was
  always_fresh : (ns' es' ws' : List ℕ) (n : ℕ) → cleared ns' es' ws' n ≡ fresh_call small ns es ws
      → HoldsReached ns' es' ws'
  always_fresh ns' es' ws' n told = elim (ℕ_discrete n 0) [
    | yes e ↦ opened_fresh ns es ws ns' es' ws' (rw (← e) told)
    | no some ↦ unchanged ns es ws ns' es' ws' R ((refused_keeps small ns es ws).fresh ns' es' ws' n some told)
  ]

  always_read : (input out ns' es' ws' out' : List ℕ) (n : ℕ)
      → left ns' es' ws' out' n ≡ read_call small input ns es ws out → HoldsReached ns' es' ws'
  always_read input out ns' es' ws' out' n told = elim (ℕ_discrete n 0) [
    | yes e ↦ opened_read input ns es ws out ns' es' ws' out' (rw (← e) told)
    | no some ↦ unchanged ns es ws ns' es' ws' R
        ((refused_keeps small ns es ws).read input out ns' es' ws' out' n some told)
  ]

  -- ---- start and step: made, or with an answer of another length
  always_start : (out ws' out' : List ℕ) (who kind first second n : ℕ) → AreWords first second
      → heard ws' out' n ≡ start_call small ns es ws out who kind first second → HoldsReached ns es ws'
  always_start out ws' out' who kind first second n words told = elim (ℕ_discrete (length out) 3) [
    | yes three ↦ did ns es ws R (Call.Start who (op_from kind first second)) ns es ws' out out' n
        (asked who first second words kind)
        (driven.start R.state ns es ws out ws' out' who kind first second n R.holds three told)
    | no other ↦ let e = told ∙ sym (start_silent small ns es ws out who kind first second other) in
        unchanged ns es ws ns es ws' R (record { nodes = refl; entries = refl; words = cc })
  ]

  always_step : (out ns' es' ws' out' : List ℕ) (who n : ℕ)
      → left ns' es' ws' out' n ≡ step_call small ns es ws out who → HoldsReached ns' es' ws'
  always_step out ns' es' ws' out' who n told = elim (ℕ_discrete (length out) 3) [
    | yes three ↦ did ns es ws R (Call.Step who) ns' es' ws' out out' n tt
        (driven.step R.state ns es ws out ns' es' ws' out' who n R.holds three told)
    | no other ↦ let e = told ∙ sym (step_silent small ns es ws out who other) in
        unchanged ns es ws ns' es' ws' R (record { nodes = cc; entries = cc; words = cc })
  ]

  -- ---- several steps: some in a row, or none
  module _ (ps out ns' es' ws' ps' out' : List ℕ) (who limit n : ℕ)
      (told : strode ns' es' ws' ps' out' n ≡ steps_call small ns es ws ps out who limit) where
    stood : (out₁ : List ℕ) (m : ℕ) → strode ns es ws ps out₁ m ≡ steps_call small ns es ws ps out who limit
        → HoldsReached ns' es' ws'
    stood out₁ m still =
        let e = told ∙ sym still in
        unchanged ns es ws ns' es' ws' R (record { nodes = cc; entries = cc; words = cc })

    strode_on : Strides R.state who limit ps out ns' es' ws' ps' out' n → HoldsReached ns' es' ws'
    strode_on S =
        let r = row_reached who S.made R.reached in
        record { state = _; past = r.0; holds = S.holds; reached = r.1 }

    steps_by : (b : Bool) → fits small ns es ≡ b → length out ≡ 5 → HoldsReached ns' es' ws'
    unfolding lengths_fit
    steps_by true fit five = elim (dec_lt who 16) [
      | yes known ↦ strode_on
          (driven.steps R.state ns es ws ps out ns' es' ws' ps' out' who limit n R.holds fit known five told)
      | no past ↦ stood _ 1
          (strides_session small ns es ws ps out who limit true five (rw (fit, eq-eqb _ _ R.holds.long)) _ 1 refl
          (omega arith) refl)
    ]
    steps_by false fit five =
        stood _ 7 (strides_lengths small ns es ws ps out who limit false five (rw fit) _ 7 refl refl)

    always_steps : HoldsReached ns' es' ws'
    always_steps = elim (ℕ_discrete (length out) 5) [
      | yes five ↦ steps_by (fits small ns es) refl five
      | no other ↦ stood out 7 (strides_silent small ns es ws ps out who limit other)
    ]

-- ---- THE THEOREMS
pub stays_reached : StaysReached
stays_reached ns es ws _ _ _ _ (fresh ns' es' ws' n told) R = always_fresh ns es ws R ns' es' ws' n told
stays_reached ns es ws _ _ _ _ (start out ws' out' who kind first second n words told) R =
    always_start ns es ws R out ws' out' who kind first second n words told
stays_reached ns es ws _ _ _ _ (step out ns' es' ws' out' who n told) R =
    always_step ns es ws R out ns' es' ws' out' who n told
stays_reached ns es ws _ _ _ _ (steps ps out ns' es' ws' ps' out' who limit n told) R =
    always_steps ns es ws R ps out ns' es' ws' ps' out' who limit n told
stays_reached ns es ws _ _ _ _ (read input out ns' es' ws' out' n told) R =
    always_read ns es ws R input out ns' es' ws' out' n told

pub lent_reached : LentReached
lent_reached _ _ _ (freshly ns es ws ns' es' ws' told) = opened_fresh ns es ws ns' es' ws' told
lent_reached _ _ _ (listed input ns es ws out ns' es' ws' out' told) =
    opened_read input ns es ws out ns' es' ws' out' told
lent_reached _ _ _ (on {ns} {es} {ws} {ns'} {es'} {ws'} {n} lent call) =
    stays_reached ns es ws ns' es' ws' n call (lent_reached ns es ws lent)
