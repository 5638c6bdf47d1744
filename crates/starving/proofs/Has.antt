-- What demand 3 does not say: `has` by the newest link has no such bound (HAS.md has this run line by line).
-- In order: the bound that it would be; the run; it is fair for four; the query is open all along; so the bound is
-- false.
-- Not here: ranges, whose bound holds (Demand3). Assumes nothing.
use Prim.Native.Nat.{ℕ, suc, ◌+◌, ◌*◌, ◌<◌}
use mathlib.Core.Path.{◌≡◌, refl}
use mathlib.Core.Bool.{true}
use mathlib.Core.List.{List, [], ◌∷◌, ◌++◌}
use native.Mathlib.Omega.{arith}
use lib.ListN.{length, replicate}
use Rattle.terms.specs.declared.Op.{Op}
use Rattle.terms.specs.declared.Answer.{Answer}
use Rattle.sixteen.specs.declared.Call.{Call}
use Rattle.reached.specs.Reached.{InWords, on}
use Rattle.reached.specs.Fair.{Lived, go_on, reply, whose, Busy, given, AllInWords}
use Rattle.reached.proofs.Tested.{all_in_words_lem}
use Rattle.fairness.specs.Calls.{after, Along, steps, Fair}
use Rattle.starving.proofs.Reaches.{Reaches, calls_reach}
use Rattle.starving.proofs.Tested.{passes_test, tested_fair}
use Rattle.starving.proofs.Waits.{opened_up, begin, begin_reached}

-- ---- the bound that it would be: demand 3's sentence for has
abbrev pub HasBound : Type 0
HasBound = (l : Lived) → Reaches l → (q k : ℕ) → InWords (Call.Start q (Op.Has k))
    → reply l (Call.Start q (Op.Has k)) ≡ Answer.Started → (w : ℕ) (calls : List Call) → AllInWords calls
    → Along go_on (λ τ. τ.past.under q ≡ Op.Has k) (go_on l (Call.Start q (Op.Has k))) calls
    → Fair go_on whose Busy w (go_on l (Call.Start q (Op.Has k))) calls
    → steps go_on whose (go_on l (Call.Start q (Op.Has k))) calls
    < w * (3 * given (after go_on (go_on l (Call.Start q (Op.Has k))) calls).state + 6)

-- ---- the run: session 1 removes 5 in the empty set and holds the head's lock; then session 0 asks for 9
abbrev pub first : List Call
first = Call.Start 1 (Op.Remove 5) ∷ replicate 2 (Call.Step 1)

abbrev pub locked : Lived
locked = after go_on begin first

abbrev pub asked : Lived
asked = go_on locked (Call.Start 0 (Op.Has 9))

-- the query waits three times before each of Number, Link and Finish
abbrev pub threes : List Call
threes = replicate 3 (Call.Step 0) ++ (Call.Step 1 ∷ (replicate 3 (Call.Step 0)
    ++ (Call.Step 1 ∷ replicate 3 (Call.Step 0))))

-- Finish; session 1 removes 5 again
abbrev pub again : List Call
again = Call.Step 1 ∷ Call.Start 1 (Op.Remove 5) ∷ Call.Step 1 ∷ Call.Step 1 ∷ Call.Step 0
    ∷ (replicate 3 (Call.Step 1) ++ threes)

-- session 1 finds 5 absent, and inserts it
abbrev pub calls : List Call
calls = Call.Step 1 ∷ Call.Step 1 ∷ Call.Start 1 (Op.Insert 5 7) ∷ Call.Step 1 ∷ Call.Step 0
    ∷ (replicate 3 (Call.Step 1) ++ (threes ++ again))

locked_reached : Reaches locked
locked_reached = calls_reach begin begin_reached first (all_in_words_lem first refl)

has_started : reply locked (Call.Start 0 (Op.Has 9)) ≡ Answer.Started
unfolding opened_up
has_started = refl

asked_reached : Reaches asked
asked_reached = on locked_reached (Call.Start 0 (Op.Has 9)) (omega arith, omega arith, omega arith)

-- ---- IT IS FAIR FOR FOUR
passes : passes_test 4 asked calls ≡ true
unfolding opened_up
passes = refl

pub four_fair : Fair go_on whose Busy 4 asked calls
four_fair = tested_fair 4 (omega arith) asked asked_reached calls (all_in_words_lem calls refl) passes

-- ---- the query is open all along
abbrev ops : Lived → List Call → List Op
ops l [] = l.past.under 0 ∷ []
ops l (c ∷ cs) = l.past.under 0 ∷ ops (go_on l c) cs

along_ops : (op : Op) (l : Lived) (cs : List Call) → ops l cs ≡ replicate (suc (length cs)) op
    → Along go_on (λ τ. τ.past.under 0 ≡ op) l cs
along_ops op l [] e = cc
along_ops op l (c ∷ cs) e = (cc, along_ops op (go_on l c) cs cc)

all_open : ops asked calls ≡ replicate 39 (Op.Has 9)
unfolding opened_up
all_open = refl

pub still_open : Along go_on (λ τ. τ.past.under 0 ≡ Op.Has 9) asked calls
still_open = along_ops (Op.Has 9) asked calls all_open

-- ---- SO THE BOUND IS FALSE: 36 counted steps, one node given, and 36 is not below 4 * (3 + 6)
pub counted_36 : steps go_on whose asked calls ≡ 36
unfolding opened_up
counted_36 = refl

pub one_node : given (after go_on asked calls).state ≡ 1
unfolding opened_up
one_node = refl

pub has_unbounded : ¬ HasBound
has_unbounded bound =
    let few = bound locked locked_reached 0 9 (omega arith, omega arith, omega arith) has_started 4 calls
    (all_in_words_lem calls refl) still_open four_fair in
    omega (arith, few, counted_36, one_node)
