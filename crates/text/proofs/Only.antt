-- No contract of this crate leaves a choice: two outcomes that it allows for one input are equal.
-- In order: functions that answer; functions that write. Private functions are not listed.
-- Not here: that a number is written in one way (OneWay). Assumes nothing.
use Prim.Native.Nat.{ℕ, ◌+◌}
use mathlib.Core.Path.{◌≡◌}
use mathlib.Core.List.{List}
use lib.ListN.{length, drop}
use Rattle.text.specs.Text.{class_of, number_in, digits, Puts, seen, lines_of, line_length, field_in}
use Rattle.text.specs.declared.Byte.{Byte}
use Rattle.std.specs.Prelude.{Option}
use Rattle.text.specs.declared.Seen.{Seen}

pub classify_one : (b : ℕ) (r₁ r₂ : Byte) → r₁ ≡ class_of b → r₂ ≡ class_of b → r₁ ≡ r₂
classify_one b r₁ r₂ p q = cc

pub read_number_one : (s : List ℕ) (r₁ r₂ : Option ℕ) → r₁ ≡ number_in s → r₂ ≡ number_in s → r₁ ≡ r₂
read_number_one s r₁ r₂ p q = cc

pub width_one : (n r₁ r₂ : ℕ) → r₁ ≡ length (digits n) → r₂ ≡ length (digits n) → r₁ ≡ r₂
width_one n r₁ r₂ p q = cc

pub line_end_one : (s : List ℕ) (place r₁ r₂ : ℕ) → r₁ ≡ place + line_length (drop place s) →
    r₂ ≡ place + line_length (drop place s) → r₁ ≡ r₂
line_end_one s place r₁ r₂ p q = cc

pub next_line_one : (s : List ℕ) (place : ℕ) (r₁ r₂ : Seen) → r₁ ≡ seen place (lines_of (drop place s)) →
    r₂ ≡ seen place (lines_of (drop place s)) → r₁ ≡ r₂
next_line_one s place r₁ r₂ p q = cc

pub field_one : (name s : List ℕ) (r₁ r₂ : Option ℕ) → r₁ ≡ field_in name s → r₂ ≡ field_in name s → r₁ ≡ r₂
field_one name s r₁ r₂ p q = cc

-- `put_number` with `bytes` the digits, `put_bytes` with the bytes lent
pub put_one : (out bytes out₁ out₂ : List ℕ) (place r₁ r₂ : ℕ) → Puts out out₁ place bytes r₁ →
    Puts out out₂ place bytes r₂ → (out₁ ≡ out₂) × (r₁ ≡ r₂)
put_one out bytes out₁ out₂ place r₁ r₂ p q = (cc, cc)
