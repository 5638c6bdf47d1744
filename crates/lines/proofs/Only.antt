-- No contract of this crate leaves a choice: two outcomes that it allows for one input are equal.
-- In order: reading a line; a refusal's number (crate terms has its function); printing. Private functions are not
-- listed. Assumes nothing.
use Prim.Native.Nat.{ℕ}
use mathlib.Core.Path.{◌≡◌}
use mathlib.Core.List.{List}
use Rattle.std.specs.Prelude.{Option}
use Rattle.text.specs.Text.{Puts}
use Rattle.sixteen.specs.declared.Call.{Call}
use Rattle.terms.specs.Terms.{refusal_number}
use Rattle.terms.specs.declared.Answer.{Answer}
use Rattle.terms.specs.declared.Refusal.{Refusal}
use Rattle.lines.specs.Lines.{line_in, answer_line, refused_line}

pub read_line_one : (l : List ℕ) (r₁ r₂ : Option Call) → r₁ ≡ line_in l → r₂ ≡ line_in l → r₁ ≡ r₂
read_line_one l r₁ r₂ p q = cc

pub refusal_number_one : (why : Refusal) (r₁ r₂ : ℕ) → r₁ ≡ refusal_number why → r₂ ≡ refusal_number why → r₁ ≡ r₂
refusal_number_one why r₁ r₂ p q = cc

pub print_one : (out out₁ out₂ : List ℕ) (place who r₁ r₂ : ℕ) (a : Answer) →
    Puts out out₁ place (answer_line who a) r₁ → Puts out out₂ place (answer_line who a) r₂ →
    (out₁ ≡ out₂) × (r₁ ≡ r₂)
print_one out out₁ out₂ place who r₁ r₂ a p q = (cc, cc)

pub print_refusal_one : (out out₁ out₂ : List ℕ) (place number r₁ r₂ : ℕ) →
    Puts out out₁ place (refused_line number) r₁ → Puts out out₂ place (refused_line number) r₂ →
    (out₁ ≡ out₂) × (r₁ ≡ r₂)
print_refusal_one out out₁ out₂ place number r₁ r₂ p q = (cc, cc)
