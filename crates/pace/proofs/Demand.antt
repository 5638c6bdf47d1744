-- Demand 3 for anything that goes on as a drawing does: the one-step facts that crate fairness asks, and its bounds.
-- In order: whether a range is open; the facts; the bounds while it is open; open or ended.
-- `given` are the nodes given to keys, the starting ones included. The head's key is 0.
-- Assumes nothing.
use mathlib.Core.Path.{◌≡◌, refl, sym, ap, subst}
use mathlib.Core.Logic.{inl, inr, ⊎_elim, ◌≢◌}
use mathlib.Core.Option.{Option, none, some}
use mathlib.Core.List.Memᴰ
use mathlib.Core.List.{List, [], ◌∷◌, append-nil, Memᴰ}
use Prim.Native.Nat.{ℕ, suc, ◌+◌, ◌*◌, ◌≤◌, ◌<◌}
use native.Mathlib.Decide.{dec_lt, ℕ_discrete}
use native.Mathlib.Omega.{arith}
use lib.ListN.{length}
use Rattle.order.specs.History.{head, Start}
use Rattle.drawing.specs.Phases.{Op, upd, has, range, walking, task}
use Rattle.fairness.specs.Reader
use Rattle.fairness.specs.Calls.{after, Along, steps, Fair, FairWhile, OpenOrEnded}
use Rattle.fairness.specs.Reader.{Stage, credit, Gives, gives_none, gives_one, Own, move, fix, wait, CallFacts}
use Rattle.fairness.proofs.Reader.{credit_some}
use Rattle.fairness.proofs.Along.{along_both, along_front}
use Rattle.fairness.proofs.Ended.{first_end}
use Rattle.fairness.proofs.Bounds.{walk_ends, walk_sharp}
use Rattle.pace.specs.Turns.{Draws, IsOpen, IsBusy}
use Rattle.pace.proofs.Stage.{stage_of, stage_in_lem, debt, owing}
use Rattle.pace.proofs.Debt.{owing_three, owing_debt, debt_busy, debt_node}
use Rattle.pace.proofs.Turns.{none_some, not_update, not_has, Gave, gave_none, gave_one, owes_in, OwnTurn}
use Rattle.pace.proofs.Turns.{own_move, own_fix, own_wait, open_busy, quiet_turn, other_turn, own_turn}

-- ---- whether a range is open
same_range : {low high low' high' : ℕ} → some (range low high) ≡ some (range low' high') →
    (low ≡ low') × (high ≡ high')
same_range e = (cc, cc)

dec_task : (low high : ℕ) (o : Option Op) → Dec (o ≡ some (range low high))
dec_task low high none = no none_some
dec_task low high (some (upd u)) = no not_update
dec_task low high (some (has k)) = no not_has
dec_task low high (some (range l h)) = elim (ℕ_discrete l low) [
  | no l≢ ↦ no (λ e. l≢ (same_range e).0)
  | yes l≡ ↦ elim (ℕ_discrete h high) [
    | no h≢ ↦ no (λ e. h≢ (same_range e).1)
    | yes h≡ ↦ yes (rw (l≡, h≡) refl)
  ]
]

mem_length : (x : ℕ) (l : List ℕ) → Memᴰ x l → 0 < length l
mem_length x [] k = absurd (Memᴰ.not-nil k)
mem_length x (y ∷ l) k = omega arith

module _ {State Call : Type 0} (go : State → Call → State) (who : State → Call → Option ℕ) (Good : State → Type 0)
    (key val : ℕ → ℕ) (start : Start) (zeroth : key head ≡ 0) (D : Draws go who Good key val start)
    (q low high : ℕ) where
  abbrev Opened : State → Type 0
  Opened σ = IsOpen D q low high σ × Good σ

  abbrev pub stage : State → Stage ℕ
  stage σ = stage_of key val start (D.drawing σ) (D.inv σ) q

  abbrev pub owes : State → ℕ → ℕ
  owes σ i = owes_in key val start zeroth q low high (D.drawing σ) i

  gives : (σ τ : State) → Gave (D.given σ) (D.given τ) → Gives D.given σ τ
  gives σ τ (gave_none e) = gives_none e
  gives σ τ (gave_one x e) = gives_one x e

  own : (σ τ : State) → OwnTurn key val start zeroth q low high (D.given σ) (stage σ) (stage τ) (D.given τ)
      (owes σ) (owes τ) → Own key low stage D.given owes σ τ
  own σ τ (own_move s t a b k e less) = move s t a b k e less
  own σ τ (own_fix s t a b k e) = fix s t a b k e
  own σ τ (own_wait a e less i h) = wait a e less i h

  -- who owes has a node given, so the credit is three
  owes_most : (σ : State) → Good σ → (i : ℕ) → owes σ i ≤ credit (length (D.given σ))
  owes_most σ g i = elim (dec_lt 0 (owes σ i)) [
    | no h ↦ omega arith
    | yes h ↦
        let m = D.drawing σ in
        let d = owing_debt (m.phase q) (m.phase i) h in
        let x = debt_node key val start m (D.inv σ) i d.0 (m.phase i) ((D.inv σ).own.facts i) d.1 in
        let some_given = mem_length x.0 (D.given σ) (D.covers σ g x.0 x.1 x.2) in
        omega (arith, owing_three (m.phase q) (m.phase i), credit_some (length (D.given σ)) some_given)
  ]

  owes_busy : (σ : State) (i : ℕ) → 0 < owes σ i → IsBusy D σ i × (i ≢ q)
  owes_busy σ i h =
      let m = D.drawing σ in
      let d = owing_debt (m.phase q) (m.phase i) h in
      (debt_busy d.0 (m.phase i) d.1, λ z. omega (arith, d.1, d.2, ap (λ j. debt d.0 (m.phase j)) z))

  -- ---- THE FACTS, while the range is open
  pub call_facts : CallFacts go who (IsBusy D) q Opened key low stage D.given owes
  call_facts = record {
    open_busy = λ σ g. open_busy key val start zeroth q low high (D.drawing σ) (D.inv σ) (D.given σ)
        (D.covers σ g.1) g.0;
    owes_most = λ σ g. owes_most σ g.1;
    owes_busy = λ σ g. owes_busy σ;
    quiet = λ σ c g h e.
        quiet_turn key val start zeroth q low high (D.drawing σ) (D.inv σ) (D.given σ) (D.covers σ g.1) g.0
        (D.turn σ c g.1 h.1) (D.inv (go σ c)) e;
    other = λ σ c i g h e i≢q.
        let r = other_turn key val start zeroth q low high (D.drawing σ) (D.inv σ) (D.given σ)
        (D.covers σ g.1) g.0 (D.turn σ c g.1 h.1) (D.inv (go σ c)) i e i≢q in
        (r.0, gives σ (go σ c) r.1, r.2, r.3);
    own = λ σ c g h e. own σ (go σ c)
        (own_turn key val start zeroth q low high (D.drawing σ) (D.inv σ) (D.given σ) (D.covers σ g.1) g.0
        (D.turn σ c g.1 h.1) (D.inv (go σ c)) e h.0);
  }

  -- ---- at its start a range walks from the head, and nobody owes it
  module _ (σ : State) (curr : ℕ) (begins : (D.drawing σ).phase q ≡ walking (range low high) head curr) where
    start_stage : stage σ ≡ Reader.walking (key head) 0
    start_stage = stage_in_lem key val start (D.drawing σ) (D.inv σ) q (walking (range low high) head curr) begins
        (rw begins at ((D.inv σ).own.facts q))

    start_owes : (i : ℕ) → owes σ i ≡ 0
    unfolding owing
    start_owes i = ap (λ φ. owing φ ((D.drawing σ).phase i)) begins

    start_open : IsOpen D q low high σ
    start_open = ap task begins

    -- as long as it is open
    module _ (w : ℕ) (calls : List Call) (good : Along go Good σ calls)
        (still : Along go (IsOpen D q low high) σ calls) (fair : Fair go who (IsBusy D) w σ calls) where
      abbrev n : ℕ
      n = length (D.given (after go σ calls))

      opened : Along go Opened σ calls
      opened = along_both go (IsOpen D q low high) Good σ calls still good

      pub range_open : suc (steps go who σ calls) < w * (3 * n + 6)
      range_open = subst (λ k. suc (steps go who σ calls) < w * k) (omega arith)
          (walk_ends go who (IsBusy D) q Opened key low stage D.given owes (key head) 0 call_facts w σ calls
          (start_stage, start_owes) opened fair)

      -- the sharper bound
      pub range_sharp : steps go who σ calls < w * (2 * n + 6)
      range_sharp = subst (λ k. steps go who σ calls < w * k) (omega arith)
          (walk_sharp go who (IsBusy D) q Opened key low stage D.given owes (key head) 0 call_facts w σ calls
          (start_stage, start_owes) opened fair)

    -- ---- DEMAND 3: it is open with counted steps below the bound, or has ended below it
    pub range_demand : (w : ℕ) (calls : List Call) → Along go Good σ calls →
        FairWhile go who (IsOpen D q low high) (IsBusy D) w σ calls →
        OpenOrEnded go (IsOpen D q low high) who (λ τ. w * (3 * length (D.given τ) + 6)) σ calls
    range_demand w calls good fair = ⊎_elim
        (λ still. inl (still, range_open w calls good still (fair calls [] (sym (append-nil calls)) still)))
        (λ d.
        let lived_good = along_front go Good σ d.lived (d.last ∷ d.later) (rw d.whole at good) in
        let lived_fair = fair d.lived (d.last ∷ d.later) d.whole d.open_till in
        inr (d, range_open w d.lived lived_good d.open_till lived_fair))
        (first_end go (IsOpen D q low high) (λ τ. dec_task low high (task ((D.drawing τ).phase q))) σ calls start_open)
