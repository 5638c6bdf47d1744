-- Drawings themselves as states with calls: any start, and any session's step, in any order.
-- In order: states; a call's turn; the machine; demand 3 of it; every reached drawing is
-- one of its states, so that the premises of Demand can be met.
-- A step call names a node: an insert's Prepare takes it if it is unused and has the key and the value, and else
-- answers full. So every step of the relation is made by some call.
-- Assumes nothing.
use mathlib.Core.Path.{◌≡◌, refl}
use mathlib.Core.Logic.{⊎_elim}
use mathlib.Core.Option.{Option, none, some}
use mathlib.Core.List.{List, [], ◌∷◌}
use Prim.Native.Nat.{ℕ, ◌+◌, ◌*◌}
use native.Mathlib.Decide.{dec_le, dec_lt, ℕ_discrete}
use native.Mathlib.Omega.{arith}
use lib.ListN.{length}
use Rattle.order.specs.Set.{insert, remove}
use Rattle.order.specs.History.{head, tail, Start, InOrder}
use Rattle.drawing.specs.Phases.{Op, upd, has, range, key_in, Phase, idle, walking, locking, locking_curr, checking}
use Rattle.drawing.specs.Phases.{preparing, numbering, linking, finishing, seeking, fixing, following, handing}
use Rattle.drawing.specs.Drawing.{Owned, final, pending, Drawing}
use Rattle.drawing.specs.Effects.{given_by, after, begun}
use Rattle.drawing.specs.Steps.{Fine, Starts, starts}
use Rattle.drawing.specs.Steps.{prepare_insert}
use Rattle.drawing.proofs.Inv.{Inv}
use Rattle.drawing.proofs.Shape.{Reached, started_inv, stepped_inv, reached_inv}
use Rattle.drawing.proofs.Goes.{bundle_cases, Goes, goes_or_waits}
use Rattle.drawing.proofs.Room.{Covers}
use Rattle.drawing.proofs.Given.{covers_step}
use Rattle.drawing.proofs.Reached.{reached_listed}
use Rattle.fairness.specs.Calls.{FairWhile, OpenOrEnded}
use Rattle.fairness.proofs.Along.{along_all}
use Rattle.pace.specs.Turns.{Turn, refused, starting, waiting, stepping, Draws, IsOpen, IsBusy}
use Rattle.pace.proofs.Demand.{range_demand}

module _ (key val : ℕ → ℕ) (start : Start) where
  -- ---- states and calls
  pub record State : Type 0 where
    pub drawing : Drawing
    pub given : List ℕ
    pub inv : Inv key val start drawing
    pub covers : Covers given drawing

  pub data Call : Type 0 where
    start_call : (t : ℕ) → Op → Call
    step_call : (t node : ℕ) → Call

  abbrev pub Next : State → Type 0
  Next σ = (o : Option ℕ) × (τ : State) × Turn key val start σ.drawing σ.given o τ.drawing τ.given

  module _ (σ : State) where
    abbrev m : Drawing
    m = σ.drawing

    -- ---- a start
    both : {P Q : Type 0} → Dec P → Dec Q → Dec (P × Q)
    both (yes p) (yes q) = yes (p, q)
    both (yes p) (no n) = no (λ b. n b.1)
    both (no n) q = no (λ b. n b.0)

    three : {P Q R : Type 0} → Dec P → Dec Q → Dec R → Dec (P × Q × R)
    three (yes p) (yes q) (yes r) = yes (p, q, r)
    three (yes p) (yes q) (no n) = no (λ b. n b.2)
    three (yes p) (no n) r = no (λ b. n b.1)
    three (no n) q r = no (λ b. n b.0)

    fine : (op : Op) → Dec (Fine key val op)
    fine (upd u) = both (dec_lt (key head) (key_in u)) (dec_lt (key_in u) (key tail))
    fine (has k) = both (dec_lt (key head) k) (dec_lt k (key tail))
    fine (range low high) = three (dec_lt (key head) low) (dec_le low high) (dec_lt high (key tail))

    begin_turn : (t : ℕ) (op : Op) → m.phase t ≡ idle → Dec (Fine key val op) → Next σ
    begin_turn t op e (no n) = (none, σ, refused)
    begin_turn t op e (yes f) =
        let s : Starts key val t m (walking op head (m.plain head)) = starts op e f in (
          none,
          record {
            drawing = begun start m t (walking op head (m.plain head));
            given = σ.given;
            inv = started_inv key val start σ.inv t s;
            covers = σ.covers;
          },
          starting t s,
        )

    -- ---- a step
    take : (t : ℕ) → Goes key val start m t → Next σ
    take t (o, f, φ, s) = (
      some t,
      record {
        drawing = after start m t f φ;
        given = given_by f σ.given;
        inv = stepped_inv key val start σ.inv t s;
        covers = covers_step key val start m σ.inv σ.given σ.covers t s;
      },
      stepping t s,
    )

    unused : (b : Owned) → Dec (b ≡ final [])
    unused (final []) = yes refl
    unused (final (x ∷ r)) = no (λ e. let z : ◌≡◌ {A = ℕ} 0 1 = cc in omega arith)
    unused (pending w c g r) = no (λ e. let z : ◌≡◌ {A = ℕ} 0 1 = cc in omega arith)

    -- an insert's Prepare takes the node that the call names, if it may
    prefer : (t n k v p q : ℕ) → m.phase t ≡ preparing (insert k v) p q → Goes key val start m t →
        Goes key val start m t
    prefer t n k v p q e g = ⊎_elim
        (λ b. elim (three (unused (m.bundle n)) (ℕ_discrete (key n) k) (ℕ_discrete (val n) v)) [
          | no _ ↦ g
          | yes fits ↦ elim (ℕ_discrete n tail) [
            | yes _ ↦ g
            | no n≢tail ↦ (
              _,
              _,
              _,
              prepare_insert k v p q b.0 n e b.1 fits.0 n≢tail fits.1 fits.2,
            )
          ]
        ])
        (λ _. g) (bundle_cases (m.bundle p))

    choose : (t n : ℕ) (φ : Phase) → m.phase t ≡ φ → Goes key val start m t → Goes key val start m t
    choose t n idle e g = g
    choose t n (walking op p q) e g = g
    choose t n (locking u p q) e g = g
    choose t n (locking_curr k p q) e g = g
    choose t n (checking u p q) e g = g
    choose t n (preparing (insert k v) p q) e g = prefer t n k v p q e g
    choose t n (preparing (remove k) p q) e g = g
    choose t n (numbering u p y z c) e g = g
    choose t n (linking u p y z c k) e g = g
    choose t n (finishing u p y z c k) e g = g
    choose t n (seeking k x) e g = g
    choose t n (fixing low high p) e g = g
    choose t n (following low high x s handed) e g = g
    choose t n (handing low high x s handed) e g = g

    pub step_turn : (t n : ℕ) → Next σ
    step_turn t n = ⊎_elim (λ _. (none, σ, refused))
        (⊎_elim (λ w. (some t, σ, waiting t w)) (λ g. take t (choose t n (m.phase t) refl g)))
        (goes_or_waits key val start m σ.inv t)

    pub start_turn : (t : ℕ) (op : Op) → Next σ
    start_turn t op = ⊎_elim (λ e. begin_turn t op e (fine op)) (λ _. (none, σ, refused))
        (goes_or_waits key val start m σ.inv t)

  -- ---- the machine
  pub turn : (σ : State) → Call → Next σ
  turn σ (start_call t op) = start_turn σ t op
  turn σ (step_call t n) = step_turn σ t n

  abbrev pub go : State → Call → State
  go σ c = (turn σ c).1

  abbrev pub who : State → Call → Option ℕ
  who σ c = (turn σ c).0

  abbrev pub draws : Draws go who (λ _. Unit {0}) key val start
  draws = record {
    drawing = λ σ. σ.drawing;
    given = λ σ. σ.given;
    inv = λ σ. σ.inv;
    covers = λ σ _. σ.covers;
    turn = λ σ c _ _. (turn σ c).2;
  }

  -- ---- DEMAND 3 OF DRAWINGS
  pub drawings_demand : key head ≡ 0 → (q low high : ℕ) (σ : State) (curr : ℕ) →
      σ.drawing.phase q ≡ walking (range low high) head curr → (w : ℕ) (calls : List Call) →
      FairWhile go who (IsOpen draws q low high) (IsBusy draws) w σ calls →
      OpenOrEnded go (IsOpen draws q low high) who (λ τ. w * (3 * length τ.given + 6)) σ calls
  drawings_demand zeroth q low high σ curr at_head w calls fair =
      range_demand go who (λ _. Unit {0}) key val start zeroth draws q low high σ curr at_head w calls
      (along_all go (λ _. Unit {0}) (λ _. tt) σ calls) fair

  -- ---- every reached drawing is a state's
  pub reached_state : InOrder key start → {m : Drawing} → Reached key val start m → (σ : State) × (σ.drawing ≡ m)
  reached_state in_order {m} r =
      let g = reached_listed key val start in_order r in
      (record { drawing = m; given = g.0; inv = reached_inv key val start in_order r; covers = g.1.covers }, refl)
