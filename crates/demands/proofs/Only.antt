-- Every contract leaves one outcome: any two that it allows for one input are equal, the result and each lent table
-- at exit.
-- In order: a contract by one equation, and by one over what a call leaves; then the public functions: the register's
-- (fresh, start, step), the step in place, the calls over sixteen records, the bundle's.
-- Each premise is the contract's own clause with the values at entry and at exit for variables.
-- Not here: functions that are public only between crates of the list; each has one of the shapes at the top.
-- `steps::Who::new` has the first, of the number: the rest of a `Who` is a ghost fact, which no program sees.
-- Assumes nothing.
use Rattle.terms.specs.declared.Refusal.{Refusal}
use Rattle.std.specs.Prelude.{Result}
use Prim.Native.Nat.{ℕ}
use mathlib.Core.Path.{◌≡◌, sym, ◌∙◌, ap}
use mathlib.Core.List.{List}
use Rattle.bundle.specs.Bundle.{at_of, newest_of, held_of, lay_of, finish_of}
use Rattle.bundle.specs.declared.Held.{Held}
use Rattle.terms.specs.Terms.{small}
use Rattle.terms.specs.declared.Counters.{Counters}
use Rattle.terms.specs.declared.Op.{Op}
use Rattle.steps.specs.declared.Session.{Session}
use Rattle.steps.specs.declared.Stepped.{Stepped}
use Rattle.steps.specs.Steps.{Done, done, Moved, moved}
use Rattle.register.specs.declared.Started.{Started}
use Rattle.register.specs.Register.{Fresh, opened, fresh_of, start_of, step_of}
use Rattle.sixteen.specs.declared.Register.{Register}
use Rattle.sixteen.specs.declared.Call.{Call}
use Rattle.sixteen.specs.declared.Served.{Served}
use Rattle.sixteen.specs.Sixteen.{Left, served, fresh_register, serve_of}

-- ---- the shapes
pub one : {A : Type 0} (x a b : A) → a ≡ x → b ≡ x → a ≡ b
one x a b p q = p ∙ sym q

module _ (ns es ns' es' : List ℕ) where
  pub one_done : (d : Done) (r r' : Stepped) → done ns es r ≡ d → done ns' es' r' ≡ d →
      (ns ≡ ns') × (es ≡ es') × (r ≡ r')
  one_done d r r' p q = (cc, cc, cc)

  pub one_opened : (f : Fresh) (r r' : Result Counters Refusal) → opened ns es r ≡ f → opened ns' es' r' ≡ f →
      (ns ≡ ns') × (es ≡ es') × (r ≡ r')
  one_opened f r r' p q = (cc, cc, cc)

  pub one_served : (l : Left) (r r' : Served) → served ns es r ≡ l → served ns' es' r' ≡ l →
      (ns ≡ ns') × (es ≡ es') × (r ≡ r')
  one_served l r r' p q = (cc, cc, cc)

pub one_moved : (ns ns' : List ℕ) (m : Moved) (r r' : Stepped) → moved ns r ≡ m → moved ns' r' ≡ m →
    (ns ≡ ns') × (r ≡ r')
one_moved ns ns' m r r' p q = (cc, cc)

-- ---- register: at entry the tables are ns and es; at exit ns₁ and es₁ in one outcome, ns₂ and es₂ in another
module _ (ns es ns₁ es₁ ns₂ es₂ : List ℕ) where
  pub only_fresh : (r₁ r₂ : Result Counters Refusal) → opened ns₁ es₁ r₁ ≡ fresh_of small ns es →
      opened ns₂ es₂ r₂ ≡ fresh_of small ns es →
      (ns₁ ≡ ns₂) × (es₁ ≡ es₂) × (r₁ ≡ r₂)
  only_fresh r₁ r₂ = one_opened ns₁ es₁ ns₂ es₂ (fresh_of small ns es) r₁ r₂

  pub only_step : (c : Counters) (who : ℕ) (s : Session) (r₁ r₂ : Stepped) →
      done ns₁ es₁ r₁ ≡ step_of small ns es c who s → done ns₂ es₂ r₂ ≡ step_of small ns es c who s →
      (ns₁ ≡ ns₂) × (es₁ ≡ es₂) × (r₁ ≡ r₂)
  only_step c who s r₁ r₂ = one_done ns₁ es₁ ns₂ es₂ (step_of small ns es c who s) r₁ r₂

  -- the step in place: the record where it stands too
  pub only_step_in_place : (c : Counters) (who : ℕ) (s s₁ s₂ : Session) (r₁ r₂ : Stepped) →
      (done ns₁ es₁ r₁ ≡ step_of small ns es c who s) × (s₁ ≡ r₁.session) →
      (done ns₂ es₂ r₂ ≡ step_of small ns es c who s) × (s₂ ≡ r₂.session) →
      (ns₁ ≡ ns₂) × (es₁ ≡ es₂) × (s₁ ≡ s₂) × (r₁ ≡ r₂)
  only_step_in_place c who s s₁ s₂ r₁ r₂ p q =
      let same = only_step c who s r₁ r₂ p.0 q.0 in
      (same.0, same.1, p.1 ∙ ap (λ r. r.session) same.2 ∙ sym q.1, same.2)

  pub only_serve : (g : Register) (call : Call) (r₁ r₂ : Served) →
      served ns₁ es₁ r₁ ≡ serve_of small ns es g call → served ns₂ es₂ r₂ ≡ serve_of small ns es g call →
      (ns₁ ≡ ns₂) × (es₁ ≡ es₂) × (r₁ ≡ r₂)
  only_serve g call r₁ r₂ = one_served ns₁ es₁ ns₂ es₂ (serve_of small ns es g call) r₁ r₂

-- a start's tables are read only
pub only_start : (ns es : List ℕ) (who : ℕ) (s : Session) (op : Op) (r₁ r₂ : Started) →
    r₁ ≡ start_of small ns es who s op → r₂ ≡ start_of small ns es who s op → r₁ ≡ r₂
only_start ns es who s op = one (start_of small ns es who s op)

pub only_fresh_register : (c : Counters) (r₁ r₂ : Register) → r₁ ≡ fresh_register c → r₂ ≡ fresh_register c → r₁ ≡ r₂
only_fresh_register c = one (fresh_register c)

-- ---- bundle, over a table of any size
module _ (es : List ℕ) where
  pub only_read_at : (size newest s : ℕ) (r₁ r₂ : Result ℕ Held) → r₁ ≡ at_of size es newest s →
      r₂ ≡ at_of size es newest s → r₁ ≡ r₂
  only_read_at size newest s = one (at_of size es newest s)

  pub only_read_newest : (size newest : ℕ) (r₁ r₂ : Result ℕ Held) → r₁ ≡ newest_of size es newest →
      r₂ ≡ newest_of size es newest →
      r₁ ≡ r₂
  only_read_newest size newest = one (newest_of size es newest)

  pub only_newest_held : (size newest : ℕ) (r₁ r₂ : Result (Unit {0}) Held) → r₁ ≡ held_of size es newest →
      r₂ ≡ held_of size es newest → r₁ ≡ r₂
  only_newest_held size newest = one (held_of size es newest)

  pub only_lay : (e target stamp older : ℕ) (es₁ es₂ : List ℕ) → es₁ ≡ lay_of es e target stamp older →
      es₂ ≡ lay_of es e target stamp older → es₁ ≡ es₂
  only_lay e target stamp older = one (lay_of es e target stamp older)

  pub only_finish : (e number : ℕ) (es₁ es₂ : List ℕ) → es₁ ≡ finish_of es e number → es₂ ≡ finish_of es e number →
      es₁ ≡ es₂
  only_finish e number = one (finish_of es e number)
