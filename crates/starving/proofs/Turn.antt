-- SERVED IN TURN, EVERY RANGE ENDS: round robin over the sixteen sessions ends it within 16 * 1,536 rounds.
-- In order: a row with a step of a session; rounds one after the other, and a counted step in each; a session with an
-- open range is busy; too many counted steps; the theorem.
-- Not here: that round robin is fair (Possible). Assumes nothing.
use Prim.Native.Nat.{ℕ, zero, suc, ◌+◌, ◌*◌, ◌%◌, ◌≤◌, ◌<◌}
use mathlib.Core.Path.{◌≡◌, sym, ◌∙◌, ap, subst}
use mathlib.Core.Logic.{inl, inr, ⊎_elim}
use mathlib.Core.List.{List, [], ◌∷◌, ◌++◌}
use native.Mathlib.Omega.{arith}
use Rattle.terms.specs.declared.Op.{Op}
use Rattle.sixteen.specs.declared.Call.{Call}
use Rattle.reached.specs.Reached.{on}
use Rattle.reached.specs.Fair.{Lived, go_on, whose, Busy, Open, given, begun, Begins}
use Rattle.fairness.specs.Calls.{tell, after, Along, steps, Takes, Ended}
use Rattle.fairness.specs.Robin.{Counts}
use Rattle.fairness.proofs.Along.{along_map, along_both, along_last, along_front, along_rest, steps_append}
use Rattle.fairness.proofs.Robin.{row_taken}
use Rattle.words.proofs.Demand2.{demand_2}
use Rattle.starving.proofs.Reaches.{Reaches, along_reach}
use Rattle.starving.proofs.Possible.{round, round_words, reached_counts, served_in_turn}

-- ---- a row with a step of a session has a counted step
takes_counted : (i : ℕ) (l : Lived) (row : List Call) → Takes go_on whose i l row
    → 0 < steps go_on whose l row
takes_counted i l [] t = absurd t
takes_counted i l (c ∷ row) (inl e) = omega (arith, ap tell e)
takes_counted i l (c ∷ row) (inr t) = omega (arith, takes_counted i (go_on l c) row t)

-- ---- rounds one after the other
round_append : (k a b : ℕ) → round k (a + b) ≡ round k a ++ round (k + a) b
round_append k zero b =
    let here : k + 0 ≡ k = omega arith in
    let all : 0 + b ≡ b = omega arith in
    ap (round k) all ∙ sym (ap (λ j. round j b) here)
round_append k (suc a) b =
    let one_more : suc a + b ≡ suc (a + b) = omega arith in
    let there : suc k + a ≡ k + suc a = omega arith in
    ap (round k) one_more ∙ ap (λ l. Call.Step (k % 16) ∷ l)
    (round_append (suc k) a b ∙ ap (λ j. round (suc k) a ++ round j b) there)

-- a counted step in each, while the session is busy
module _ (i : ℕ) where
  abbrev Served : Lived → Type 0
  Served l = Busy l i × Counts Call.Step 16 whose Busy l

  one_round : (k : ℕ) (l : Lived) → Along go_on Served l (round k 16) → 0 < steps go_on whose l (round k 16)
  one_round k l a = takes_counted i l (round k 16) (row_taken Call.Step 16 go_on whose Busy 16 k 16 l
      (omega arith) (omega arith) i
      (along_map go_on Served (λ x. Busy x i) (λ x s. s.0) l (round k 16) a)
      (along_map go_on Served (Counts Call.Step 16 whose Busy) (λ x s. s.1) l (round k 16) a))

  many_rounds : (j k : ℕ) (l : Lived) → Along go_on Served l (round k (16 * j))
      → j ≤ steps go_on whose l (round k (16 * j))
  many_rounds zero k l a = omega arith
  many_rounds (suc j) k l a =
      let one_more : 16 * suc j ≡ 16 + 16 * j = omega arith in
      let parts : round k (16 * suc j) ≡ round k 16 ++ round (k + 16) (16 * j) =
      ap (round k) one_more ∙ round_append k 16 (16 * j) in
      let a' = subst (Along go_on Served l) parts a in
      omega (
        arith,
        ap (steps go_on whose l) parts,
        steps_append go_on whose l (round k 16) (round (k + 16) (16 * j)),
        one_round k l (along_front go_on Served l (round k 16) (round (k + 16) (16 * j)) a'),
        many_rounds j (k + 16) (after go_on l (round k 16))
            (along_rest go_on Served l (round k 16) (round (k + 16) (16 * j)) a'),
      )

-- ---- a session with an open range is busy
open_busy : (q low high : ℕ) (l : Lived) → Open q low high l → Busy l q
open_busy q low high l is_open e = let z : ◌≡◌ {A = ℕ} 0 1 = cc in omega arith

few_given : (l : Lived) → Reaches l → given l.state ≤ 510
few_given l r = omega (arith, (demand_2.bounds l.state l.past r).0)

-- at most 510 nodes, so that 16 * 1,536 counted steps are too many
too_many : (s n j : ℕ) → suc s < 16 * (3 * n + 6) → n ≤ 510 → j ≤ s → ¬ (16 * 1536 ≤ j)
too_many s n j few n≤510 j≤s long = omega arith

-- ---- SERVED IN TURN, EVERY RANGE ENDS
module _ (l : Lived) (q low high : ℕ) (B : Begins l q low high) (k j : ℕ) where
  abbrev start : Lived
  start = begun l q low high

  reached : Along go_on Reaches start (round k (16 * j))
  reached = along_reach start (on B.reached (Call.Start q (Op.Range low high)) B.in_words) (round k (16 * j))
      (round_words k (16 * j))

  busy_served : (τ : Lived) → Reaches τ × Open q low high τ → Served q τ
  busy_served τ s = (open_busy q low high τ s.1, reached_counts τ s.0)

  counted : Along go_on (Open q low high) start (round k (16 * j)) → j ≤ steps go_on whose start (round k (16 * j))
  counted still = many_rounds q j k start
      (along_map go_on (λ τ. Reaches τ × Open q low high τ) (Served q) busy_served start (round k (16 * j))
      (along_both go_on Reaches (Open q low high) start (round k (16 * j)) reached still))

  pub ends_in_turn : 16 * 1536 ≤ j → Ended go_on (Open q low high) start (round k (16 * j))
  ends_in_turn long = ⊎_elim
      (λ still. absurd (too_many (steps go_on whose start (round k (16 * j)))
      (given (after go_on start (round k (16 * j))).state) j still.1
      (few_given (after go_on start (round k (16 * j)))
      (along_last go_on Reaches start (round k (16 * j)) reached)) (counted still.0) long))
      (λ d. d.0) (served_in_turn l q low high B 16 k (16 * j) (omega arith)).0
