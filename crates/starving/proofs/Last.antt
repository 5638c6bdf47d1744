-- The call that ends a range is its own session's step, and answers with demand 2's answer.
-- In order: whose call it is; that it is a step; what it answers.
-- Not here: that it answers end (Demand3). Assumes nothing.
use Prim.Native.Nat.{ℕ}
use mathlib.Core.Path.{◌≡◌, sym, ◌∙◌, ap, subst}
use native.Mathlib.Decide.{ℕ_discrete}
use native.Mathlib.Omega.{arith}
use Rattle.terms.specs.Terms.{small}
use Rattle.terms.specs.declared.Answer.{Answer}
use Rattle.sixteen.specs.declared.Call.{Call}
use Rattle.reached.specs.Reached.{who_of, asked_of}
use Rattle.reached.specs.Answers.{RangeIs}
use Rattle.reached.specs.Fair.{Lived, go_on, reply, Open}
use Rattle.reached.proofs.History.{under_other}
use Rattle.words.proofs.Starts.{Begins, begins, refuses_early, start_says}
use Rattle.words.proofs.Demand2.{range_end}
use Rattle.starving.proofs.Reaches.{Reaches}

-- ---- a start never answers end
begins_no_end : {P : Type 0} (a : Answer) → Begins a → (t n : ℕ) → a ≡ Answer.End t n → P
begins_no_end a begins t n e = let z : ◌≡◌ {A = ℕ} 0 1 = cc in absurd (omega arith)
begins_no_end a (refuses_early why early) t n e = let z : ◌≡◌ {A = ℕ} 0 1 = cc in absurd (omega arith)

module _ (l : Lived) (q low high : ℕ) (is_open : Open q low high l) where
  -- ---- its own session's call
  own_call : (c : Call) → ¬ Open q low high (go_on l c) → who_of c ≡ q
  own_call c shut = elim (ℕ_discrete q (who_of c)) [
    | yes e ↦ sym e
    | no other ↦ absurd (shut
        (under_other (reply l c) (who_of c) (asked_of c) l.past.under q other ∙ is_open))
  ]

  -- a step of it
  own_step : (c : Call) → who_of c ≡ q → (t n : ℕ) → reply l c ≡ Answer.End t n → c ≡ Call.Step q
  own_step (Call.Start who op) e t n a = begins_no_end _ (start_says small l.state who op) t n a
  own_step (Call.Step who) e t n a = ap Call.Step e

  -- ---- with demand 2's answer
  its_answer : Reaches l → (c : Call) → who_of c ≡ q → (t n : ℕ) → reply l c ≡ Answer.End t n
      → RangeIs l.state l.past q low high t n
  its_answer reached c e t n a = subst (λ who. RangeIs l.state l.past who low high t n) e
      (range_end l.state l.past reached c low high t n (ap l.past.under e ∙ is_open) a)

  pub ends_right : Reaches l → (c : Call) → ¬ Open q low high (go_on l c) → (t n : ℕ) → reply l c ≡ Answer.End t n
      → (c ≡ Call.Step q) × RangeIs l.state l.past q low high t n
  ends_right reached c shut t n a =
      let e = own_call c shut in (own_step c e t n a, its_answer reached c e t n a)
