-- Demand 3's bounds, of exactly the types of specs/Bounds.
-- In order: nodes given stay given; from a reader's facts to a query's; a query on its walk; a range as of a stamp;
-- what a reader waits for; demand 3 whole; a report.
-- Not here: the window argument itself (Window). Assumes nothing.
use mathlib.Core.Path.{◌≡◌, refl, ◌∙◌, ap}
use mathlib.Core.Option.{Option, none, some}
use mathlib.Core.List.{List, [], ◌∷◌}
use Prim.Native.Nat.{ℕ, suc, ◌+◌, ◌*◌, ◌≤◌, ◌<◌}
use native.Mathlib.Decide.{ℕ_discrete}
use native.Mathlib.Omega.{arith}
use lib.ListN.{length}
use Rattle.fairness.specs.Calls.{after, Along, steps, Fair}
use Rattle.fairness.specs.Facts.{Facts, Level}
use Rattle.fairness.specs.Reader.{Stage, walking, Fixed, credit, Owing, CallFacts}
use Rattle.fairness.specs.Bounds.{WalkEnds, WalkSharp, WalkNone, Reads, AsOfEnds, AsOfSharp}
use Rattle.fairness.specs.Bounds.{Promise, OwedSince, WaitsSince, Opens, Demand, WalkDemand}
use Rattle.fairness.specs.Bounds.{AsOfDemand, ReportEnds}
use Rattle.fairness.proofs.Along.{along_here, along_last, along_both, along_kept, along_under}
use Rattle.fairness.proofs.Ended.{open_or_ended}
use Rattle.fairness.proofs.Window.{bound, ends}
use Rattle.fairness.proofs.Reader.{credit_none, credit_most, credit_low, credit_up}
use Rattle.fairness.proofs.Reader.{left_some, left_walk, left_as_of, own_stands}
use Rattle.fairness.proofs.Reader.{measure, same_left, gives_left, own_left, own_owes, gives_more, own_gives}

module _ {State Call A : Type 0} (go : State → Call → State) (who : State → Call → Option ℕ)
    (Busy : State → ℕ → Type 0) (q : ℕ) (Good : State → Type 0) (key : A → ℕ) (low : ℕ)
    (stage : State → Stage A) (given : State → List A) (owes : State → ℕ → ℕ) where
  module _ (F : CallFacts go who Busy q Good key low stage given owes) where
    -- ---- nodes given stay given
    stays_given : (σ : State) (c : Call) → Good σ → Good (go σ c) → (o : Option ℕ) → who σ c ≡ o
        → length (given σ) ≤ length (given (go σ c))
    stays_given σ c g h none e = omega (arith, ap length (F.quiet σ c g h e).1)
    stays_given σ c g h (some j) e = elim (ℕ_discrete j q) [
      | yes z ↦ omega (
        arith,
        ap length
            (own_gives key low 0 stage given owes σ (go σ c) (F.own σ c g h (e ∙ ap some z))),
      )
      | no n ↦ gives_more key low 0 stage given owes σ (go σ c) (F.other σ c j g h e n).1
    ]

    given_under : (σ : State) (calls : List Call) → Along go Good σ calls
        → Along go (λ x. length (given x) ≤ length (given (after go σ calls))) σ calls
    given_under σ calls good =
        along_under go Good (λ x. length (given x)) (λ x c g h. stays_given x c g h (who x c) refl) σ calls good

    -- ---- from a reader's facts to a query's, where at most `n` nodes are ever given
    module _ (n : ℕ) where
      abbrev Room : State → Type 0
      Room σ = Good σ × (length (given σ) ≤ n)

      room_owes : (σ : State) → Room σ → (i : ℕ) → owes σ i ≤ credit n
      room_owes σ r i = omega (arith, F.owes_most σ r.0 i, credit_up (length (given σ)) n r.1)

      reader_facts : Facts go who Busy q Room (measure key low n stage given owes) owes
      reader_facts = record {
        open_busy = λ σ r. F.open_busy σ r.0;
        open_left = λ σ r. left_some key low n (stage σ) (given σ);
        owes_busy = λ σ r. F.owes_busy σ r.0;
        quiet = λ σ c r t e.
            let s = F.quiet σ c r.0 t.0 e in
            (same_left key low n stage given owes σ (go σ c) s.0 s.1, s.2);
        other = λ σ c i r t e k.
            let s = F.other σ c i r.0 t.0 e k in
            ((gives_left key low n stage given owes σ (go σ c) t.1 s.0 s.1, s.2), s.3);
        own = λ σ c r t e. own_left key low n stage given owes σ (go σ c) (room_owes (go σ c) t)
            (F.own σ c r.0 t.0 e);
      }

    module _ (w : ℕ) (σ : State) (calls : List Call) (good : Along go Good σ calls)
        (fair : Fair go who Busy w σ calls) where
      -- the nodes given by then
      abbrev by_then : ℕ
      by_then = length (given (after go σ calls))

      roomy : Along go (Room by_then) σ calls
      roomy = along_both go Good (λ x. length (given x) ≤ by_then) σ calls good (given_under σ calls good)

      here : Room by_then σ
      here = along_here go (Room by_then) σ calls roomy

      abbrev total : State → ℕ
      total = measure key low by_then stage given owes

      few : (d m : ℕ) → Level total owes d σ → total σ + d ≤ m → steps go who σ calls < w * m
      few d m l h =
          bound go who Busy q (Room by_then) total owes (reader_facts by_then) w m σ calls roomy fair d l h

      few_with_last : (d m : ℕ) → Level total owes d σ → total σ + d < m → suc (steps go who σ calls) < w * m
      few_with_last d m l h =
          ends go who Busy q (Room by_then) total owes (reader_facts by_then) w m σ calls roomy fair d l h

      -- ---- at the start of a walk, and in a snapshot
      walk_left : (p h : ℕ) → stage σ ≡ walking p h → total σ ≤ 2 * by_then + h + 3 + credit by_then
      walk_left p h e = rw e (left_walk key low by_then p h (given σ) here.1)

      as_of_left : (ns : List A) → Reads go who Busy q Good key low stage given owes ns σ
          → total σ ≤ 2 * by_then + 1
      as_of_left ns b =
          rw b.0 (omega (arith, left_as_of key low by_then ns (given σ) b.1 b.2, here.1))

  -- ---- a query on its walk
  pub walk_ends : WalkEnds go who Busy q Good key low stage given owes
  walk_ends p h F w σ calls b good fair =
      let n = by_then F w σ calls good fair in
      few_with_last F w σ calls good fair 0 _ (λ i. omega (arith, b.1 i))
      (omega (arith, credit_low n, walk_left F w σ calls good fair p h b.0))

  pub walk_sharp : WalkSharp go who Busy q Good key low stage given owes
  walk_sharp p h F w σ calls b good fair =
      let n = by_then F w σ calls good fair in
      few F w σ calls good fair 0 _ (λ i. omega (arith, b.1 i))
      (omega (arith, credit_most n, walk_left F w σ calls good fair p h b.0))

  pub walk_none : WalkNone go who Busy q Good key low stage given owes
  walk_none p h F w σ calls b good fair none_given =
      let n = by_then F w σ calls good fair in
      few F w σ calls good fair 0 _ (λ i. omega (arith, b.1 i))
      (omega (arith, credit_none n none_given, walk_left F w σ calls good fair p h b.0))

  -- ---- a range as of a stamp
  pub as_of_ends : AsOfEnds go who Busy q Good key low stage given owes
  as_of_ends ns F w σ calls b good fair =
      let n = by_then F w σ calls good fair in
      few_with_last F w σ calls good fair (credit n) _ (room_owes F n σ (here F w σ calls good fair))
      (omega (arith, credit_low n, as_of_left F w σ calls good fair ns b))

  pub as_of_sharp : AsOfSharp go who Busy q Good key low stage given owes
  as_of_sharp ns F w σ calls b good fair =
      let n = by_then F w σ calls good fair in
      few F w σ calls good fair (credit n) _ (room_owes F n σ (here F w σ calls good fair))
      (omega (arith, credit_most n, as_of_left F w σ calls good fair ns b))

  -- ---- what a reader waits for
  module _ (F : CallFacts go who Busy q Good key low stage given owes) where
    owed_once : (σ : State) (c : Call) → Good σ → Good (go σ c) → Fixed (stage σ) → (o : Option ℕ) → who σ c ≡ o
        → Owing owes σ (go σ c)
    owed_once σ c g h p none e = (F.quiet σ c g h e).2
    owed_once σ c g h p (some j) e = elim (ℕ_discrete j q) [
      | yes z ↦ own_owes key low 0 stage given owes σ (go σ c) p (F.own σ c g h (e ∙ ap some z))
      | no n ↦ (F.other σ c j g h e n).2
    ]

  pub owed_since : OwedSince go who Busy q Good key low stage given owes
  owed_since F σ [] g p i = omega arith
  owed_since F σ (c ∷ cs) g p i = omega (
    arith,
    owed_once F σ c g.0 (along_here go Good (go σ c) cs g.1) p.0 (who σ c) refl i,
    owed_since F (go σ c) cs g.1 p.1 i,
  )

  pub waits_since : WaitsSince go who Busy q Good key low stage given owes
  waits_since F σ calls c good fixed e g stands =
      let τ = after go σ calls in
      let own = F.own τ c (along_last go Good σ calls good) g e in
      let n = own_stands key low 0 stage given owes τ (go τ c) own stands in
      (n.0, n.1, omega (arith, n.1, owed_since F σ calls good fixed n.0))

-- ---- demand 3 whole
module _ {State Call A : Type 0} (go : State → Call → State) (who : State → Call → Option ℕ)
    (Busy : State → ℕ → Type 0) (q : ℕ) (Open Inv : State → Type 0) (key : A → ℕ) (low : ℕ)
    (stage : State → Stage A) (given : State → List A) (owes : State → ℕ → ℕ) where
  -- from a bound on the time that the query is open
  demand : (rounds : ℕ → ℕ) (Begins : State → Type 0)
      → Promise go who Busy q (Opens go who Busy q Open Inv key low stage given owes) key low stage given owes
      (λ w n s. suc s < w * rounds n) Begins
      → Demand go who Busy q Open Inv key low stage given owes rounds Begins
  demand rounds Begins few kept dec F w σ calls o b fair = open_or_ended go Open dec who Busy w
      (λ τ. w * rounds (length (given τ))) σ
      (λ cs a f. few F w σ cs b (along_both go Open Inv σ cs a (along_kept go Inv kept σ cs o.1)) f)
      o.0 calls fair

  pub walk_demand : WalkDemand go who Busy q Open Inv key low stage given owes
  walk_demand p h = demand (λ n. 3 * n + 6 + h) _ (walk_ends go who Busy q _ key low stage given owes p h)

  pub as_of_demand : AsOfDemand go who Busy q Open Inv key low stage given owes
  as_of_demand ns = demand (λ n. 3 * n + 6) _ (as_of_ends go who Busy q _ key low stage given owes ns)

-- ---- a report on two stamps
module _ {State Call : Type 0} (go : State → Call → State) (who : State → Call → Option ℕ)
    (Busy : State → ℕ → Type 0) (q : ℕ) (Good : State → Type 0) (left : State → ℕ) (owes : State → ℕ → ℕ) where
  pub report_ends : ReportEnds go who Busy q Good left owes
  report_ends F w n σ calls l o good fair = ends go who Busy q Good left owes F w (2 * (3 * n + 6)) σ calls good fair
      (credit n) o (omega (arith, credit_low n))
