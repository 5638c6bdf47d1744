-- What is so after any call of the library, whatever it is asked and whatever it returns.
-- In order: slices that hold a reached register; a call of the library, and that they go on holding one; slices that a
-- program has driven through it; a refusal changes neither tables nor words.
-- A start's two numbers are asked to be words of 32 bits, as every program's are. What is said of a refusal is true of
-- any content, and of any size; full (6) is the one that differs, and of several steps it is said where the first
-- was refused: those before a refused one leave what they did.
-- Not here: which register a call leaves (Driven). Assumes nothing.
use Rattle.std.specs.Prelude.{ℕ, ◌≤◌, ◌≡◌, ◌≢◌, List}
use Rattle.table.specs.Table.{word_of}
use Rattle.terms.specs.Terms.{small, tail_key}
use Rattle.terms.specs.declared.Size.{Size}
use Rattle.reached.specs.Reached.{State, Past, Reached}
use Rattle.exchange.specs.Exchange.{left, read_call}
use Rattle.calling.specs.Calling.{strode}
use Rattle.stepping.specs.Stepping.{heard, step_call}
use Rattle.ffi.specs.Ffi.{cleared, fresh_call, start_call, steps_call}
use Rattle.driven.specs.Driven.{Holds}

-- ---- slices that hold a reached register
pub record HoldsReached (ns es ws : List ℕ) : Type 0 where
  pub state : State
  pub past : Past
  pub holds : Holds ns es ws state
  pub reached : Reached small state past

-- a start's two numbers are words of 32 bits
abbrev pub AreWords : ℕ → ℕ → Type 0
AreWords first second = (first ≤ tail_key) × (second ≤ tail_key)

-- ---- a call of the library, whatever it is asked: from slices to slices, with the number that it returns
pub data Calls (ns es ws : List ℕ) : List ℕ → List ℕ → List ℕ → ℕ → Type 0 where
  fresh : (ns' es' ws' : List ℕ) (n : ℕ) → cleared ns' es' ws' n ≡ fresh_call small ns es ws
      → Calls ns es ws ns' es' ws' n
  start : (out ws' out' : List ℕ) (who kind first second n : ℕ) → AreWords first second
      → heard ws' out' n ≡ start_call small ns es ws out who kind first second → Calls ns es ws ns es ws' n
  step : (out ns' es' ws' out' : List ℕ) (who n : ℕ)
      → left ns' es' ws' out' n ≡ step_call small ns es ws out who → Calls ns es ws ns' es' ws' n
  steps : (ps out ns' es' ws' ps' out' : List ℕ) (who limit n : ℕ)
      → strode ns' es' ws' ps' out' n ≡ steps_call small ns es ws ps out who limit → Calls ns es ws ns' es' ws' n
  read : (input out ns' es' ws' out' : List ℕ) (n : ℕ)
      → left ns' es' ws' out' n ≡ read_call small input ns es ws out → Calls ns es ws ns' es' ws' n

-- whoever held a reached register holds one after it
abbrev pub StaysReached : Type 0
StaysReached = (ns es ws ns' es' ws' : List ℕ) (n : ℕ) → Calls ns es ws ns' es' ws' n → HoldsReached ns es ws
    → HoldsReached ns' es' ws'

-- ---- slices that a program has driven through the library: a fresh or a read that returned 0, of slices with any
-- content, and any calls after it
pub data Lent : List ℕ → List ℕ → List ℕ → Type 0 where
  freshly : (ns es ws ns' es' ws' : List ℕ) → cleared ns' es' ws' 0 ≡ fresh_call small ns es ws → Lent ns' es' ws'
  listed : (input ns es ws out ns' es' ws' out' : List ℕ)
      → left ns' es' ws' out' 0 ≡ read_call small input ns es ws out → Lent ns' es' ws'
  on : {ns es ws ns' es' ws' : List ℕ} {n : ℕ} → Lent ns es ws → Calls ns es ws ns' es' ws' n → Lent ns' es' ws'

abbrev pub LentReached : Type 0
LentReached = (ns es ws : List ℕ) → Lent ns es ws → HoldsReached ns es ws

-- ---- a refusal: another number than 0
pub record Unchanged (ns es ws ns' es' ws' : List ℕ) : Type 0 where
  pub nodes : ns' ≡ ns
  pub entries : es' ≡ es
  pub words : ws' ≡ ws

-- how many steps a call of several steps made, by the fifth word of its answer
abbrev pub made_in : List ℕ → ℕ
made_in out = word_of 5 out 0 4

pub record RefusedKeeps (z : Size) (ns es ws : List ℕ) : Type 0 where
  pub fresh : (ns' es' ws' : List ℕ) (n : ℕ) → n ≢ 0 → cleared ns' es' ws' n ≡ fresh_call z ns es ws
      → Unchanged ns es ws ns' es' ws'
  pub start : (out ws' out' : List ℕ) (who kind first second n : ℕ) → n ≢ 0
      → heard ws' out' n ≡ start_call z ns es ws out who kind first second → ws' ≡ ws
  pub step : (out ns' es' ws' out' : List ℕ) (who n : ℕ) → n ≢ 0 → n ≢ 6
      → left ns' es' ws' out' n ≡ step_call z ns es ws out who → Unchanged ns es ws ns' es' ws'
  pub steps : (ps out ns' es' ws' ps' out' : List ℕ) (who limit n : ℕ) → n ≢ 0 → n ≢ 6 → made_in out' ≤ 1
      → strode ns' es' ws' ps' out' n ≡ steps_call z ns es ws ps out who limit
      → Unchanged ns es ws ns' es' ws' × (ps' ≡ ps)
  pub read : (input out ns' es' ws' out' : List ℕ) (n : ℕ) → n ≢ 0
      → left ns' es' ws' out' n ≡ read_call z input ns es ws out → Unchanged ns es ws ns' es' ws'
