-- Each way out of several steps in a row, over plain values.
-- In order: one step, which fills one pair at most; the steps. `all` is what the whole call leaves. Assumes nothing.
use Prim.Native.Nat.{ℕ, suc, ◌+◌, ◌-◌, ◌≤◌, ◌<◌}
use mathlib.Core.Path.{◌≡◌, ap}
use mathlib.Core.List.{List}
use mathlib.Core.Bool.{Bool, true, false, cond}
use native.Mathlib.Omega.{arith}
use Rattle.terms.specs.declared.Size.{Size}
use Rattle.terms.specs.declared.Counters.{Counters}
use Rattle.terms.specs.declared.Answer.{Answer}
use Rattle.steps.specs.declared.Session.{Session}
use Rattle.steps.specs.declared.Stepped.{Stepped}
use Rattle.steps.specs.Steps.{Done, done}
use Rattle.register.specs.Register.{step_of}
use Rattle.onward.specs.Onward.{has_room, put_pair}
use Rattle.several.specs.declared.Turn.{Turn}
use Rattle.several.specs.Several.{handed, hand_out, Turned, turned}
use Rattle.several.specs.Several.{turn_with, turn_by, turn_of, Gone, stops, next_or, go_on, several_of}

-- ---- one step fills one pair at most
abbrev count_in : Turned → ℕ
count_in (turned ns es ps t) = t.count

module _ (ns es ps : List ℕ) (n : ℕ) where
  few_room : (r : Stepped) (k v : ℕ) (b : Bool)
      → count_in (turn_with ns es r (cond b (handed (put_pair ps n k v) (n + 1)) (handed ps n))) ≤ n + 1
  few_room r k v true = omega arith
  few_room r k v false = omega arith

  few_answer : (r : Stepped) (a : Answer) → count_in (turn_with ns es r (hand_out ps n a)) ≤ n + 1
  few_answer r (Answer.Key k v) = few_room r k v (has_room ps n)
  few_answer r a = omega arith

few_done : (ps : List ℕ) (n : ℕ) (d : Done) → count_in (turn_by ps n d) ≤ n + 1
few_done ps n (done ns es r) = few_answer ns es ps n r r.answer

pub few : (z : Size) (ns es ps : List ℕ) (n : ℕ) (c : Counters) (who : ℕ) (s : Session) (ns' es' ps' : List ℕ)
    (t : Turn) (made : ℕ) → turned ns' es' ps' t ≡ turn_of z ns es ps n c who s → n ≤ made → t.count ≤ made + 1
unfolding turn_of
few z ns es ps n c who s ns' es' ps' t made e h =
    let f : t.count ≡ count_in (turn_by ps n (step_of z ns es c who s)) = ap count_in e in
    omega (arith, h, f, few_done ps n (step_of z ns es c who s))

-- ---- the steps
pub record Rest (all : Gone) (z : Size) (who most made : ℕ) (ns es ps : List ℕ) (n : ℕ) (c : Counters) (s : Session) :
    Type 0 where
  pub same : all ≡ go_on (most - made) z who made ns es ps n c s

pub go_first : (z : Size) (who limit most : ℕ) (ns es ps : List ℕ) (c : Counters) (s : Session) → most ≡ limit - 1
    → Rest (several_of z ns es ps c who s limit) z who most 0 ns es ps 0 c s
go_first z who limit most ns es ps c s h =
    let e : most - 0 ≡ limit - 1 = omega (arith, h) in record { same = rw e }

module _ (all : Gone) (z : Size) (who most made : ℕ) (ns es ps : List ℕ) (n : ℕ) (c : Counters) (s : Session)
    (rest : Rest all z who most made ns es ps n c s) (ns' es' ps' : List ℕ) (t : Turn)
    (call : turned ns' es' ps' t ≡ turn_of z ns es ps n c who s) where
  pub turn_last : most ≤ made → stops (made + 1) (turned ns' es' ps' t) ≡ all
  unfolding go_on
  turn_last h = let e : most - made ≡ 0 = omega (arith, h) in rw (rest.same, e, ← call)

  -- one that is not the last
  mid : made < most → all ≡ next_or (go_on (most - (made + 1)) z who (made + 1)) (made + 1) (turned ns' es' ps' t)
  unfolding go_on
  mid h = let e : most - made ≡ suc (most - (made + 1)) = omega (arith, h) in rw (rest.same, e, ← call)

  pub turn_stops : made < most → t.on ≡ false → stops (made + 1) (turned ns' es' ps' t) ≡ all
  turn_stops more h = rw (mid more, h)

  pub turn_on : made < most → t.on ≡ true
      → Rest all z who most (made + 1) ns' es' ps' t.count t.counters t.session
  turn_on more h = record { same = rw (mid more, h) }
