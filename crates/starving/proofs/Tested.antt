-- Calls to a register that a computed test finds fair, for any window.
-- In order: a test of each session; fair calls.
-- Not here: the test of one session (Spaced). Assumes nothing.
use Prim.Native.Nat.{ℕ, zero, suc, ◌<◌}
use mathlib.Core.Path.{◌≡◌, refl, ◌∙◌, ap, subst}
use mathlib.Core.Logic.{◌≢◌}
use mathlib.Core.Bool.{Bool, true, false, cond}
use mathlib.Core.List.{List, ◌++◌}
use native.Mathlib.Decide.{ℕ_discrete}
use native.Mathlib.Omega.{arith}
use Rattle.nodes.specs.Nodes.{key_at, value_at}
use Rattle.terms.specs.Terms.{names_of}
use Rattle.terms.specs.declared.Op.{Op}
use Rattle.sixteen.specs.declared.Call.{Call}
use Rattle.reached.specs.Fair.{Lived, go_on, whose, Busy, AllInWords}
use Rattle.fairness.specs.Calls.{after, Fair}
use Rattle.fairness.proofs.Along.{along_here, along_map}
use Rattle.words.proofs.Whole.{reached_shown}
use Rattle.starving.proofs.Reaches.{Reaches, calls_reach, words_front}
use Rattle.starving.proofs.Words.{busy_drawn}
use Rattle.starving.proofs.Spaced.{true_false, spaced, spaced_serves}

-- ---- a test of each session
abbrev pub all_below : ℕ → (ℕ → Bool) → Bool
all_below zero f = true
all_below (suc n) f = cond (f n) (all_below n f) false

last_all : (n : ℕ) (f : ℕ → Bool) → all_below (suc n) f ≡ true → (b : Bool) → f n ≡ b
    → (f n ≡ true) × (all_below n f ≡ true)
last_all n f e true is = (is, rw is at e)
last_all n f e false is = true_false (rw is at e)

below_all : (n : ℕ) (f : ℕ → Bool) → all_below n f ≡ true → (i : ℕ) → i < n → f i ≡ true
below_all zero f e i i<n = absurd (omega arith)
below_all (suc n) f e i i<n =
    let s = last_all n f e (f n) refl in
    elim (ℕ_discrete i n) [
      | yes i≡n ↦ ap f i≡n ∙ s.0
      | no i≢n ↦ below_all n f s.1 i (omega arith)
    ]

abbrev pub busy_in : Lived → ℕ → Bool
busy_in l i = names_of (l.past.under i)

some_named : (op : Op) → op ≢ Op.None → names_of op ≡ true
some_named Op.None some_op = absurd (some_op refl)
some_named (Op.Insert k v) some_op = refl
some_named (Op.Remove k) some_op = refl
some_named (Op.Has k) some_op = refl
some_named (Op.Range low high) some_op = refl

abbrev pub passes_test : (w : ℕ) → Lived → List Call → Bool
passes_test w l calls = all_below 16 (λ i. spaced go_on whose busy_in w i 0 l calls)

-- there is no session above 15
no_other : (l : Lived) → Reaches l → (i : ℕ) → Busy l i → i < 16
no_other l r i busy =
    let ns = l.state.nodes in
    let S = reached_shown r (key_at ns) (value_at ns) (record { keyed = λ x _. refl; valued = λ x _. refl }) in
    (busy_drawn (key_at ns) (value_at ns) l S.0 S.1 i busy).0

pub tested_fair : (w : ℕ) → 0 < w → (l : Lived) → Reaches l → (calls : List Call) → AllInWords calls
    → passes_test w l calls ≡ true → Fair go_on whose Busy w l calls
tested_fair w some_w l reached calls words passes before row rest whole many i throughout =
    let τ = after go_on l before in
    let words_before = words_front before (row ++ rest) (subst AllInWords whole words) in
    let i<16 = no_other τ (calls_reach l reached before words_before) i
    (along_here go_on (λ x. Busy x i) τ row throughout) in
    spaced_serves go_on whose busy_in w i some_w l calls
    (below_all 16 (λ j. spaced go_on whose busy_in w j 0 l calls) passes i i<16) before row rest whole many
    (along_map go_on (λ x. Busy x i) (λ x. busy_in x i ≡ true) (λ x. some_named (x.past.under i)) τ row throughout)
