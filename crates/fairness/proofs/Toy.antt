-- A toy that meets the facts: session 0 reads one node with key 5, session 1 writes, and the reader waits for it.
-- In order: the toy; what is owed; the facts, one call at a time; the bounds; round robin, in which the reader waits,
-- hands out its key and ends.
-- Shows that the facts can be met by a query that waits. Not here: a register. Assumes nothing.
use mathlib.Core.Path.{◌≡◌, refl, sym, ◌∙◌}
use mathlib.Core.Logic.{◌≢◌}
use mathlib.Core.Option.{Option, none, some}
use mathlib.Core.List.{List, [], ◌∷◌}
use Prim.Native.Nat.{ℕ, zero, suc, ◌*◌, ◌≤◌, ◌<◌}
use native.Mathlib.Omega.{arith}
use Rattle.fairness.specs.Calls.{after, steps, Along, Fair, OpenOrEnded}
use Rattle.fairness.specs.Trail.{Keyed, key_of}
use Rattle.fairness.specs.Reader.{Stage, walking, arrived, following, handing, arrives, finds, hands, behind}
use Rattle.fairness.specs.Reader.{credit, Owing, Gives, gives_none, Own, move, fix, wait, CallFacts}
use Rattle.fairness.specs.Robin.{robin, Counts}
use Rattle.fairness.proofs.Told.{some_same, none≢some}
use Rattle.fairness.proofs.Along.{along_all, along_both, along_kept}
use Rattle.fairness.proofs.Weigh.{rising_distinct}
use Rattle.fairness.proofs.Reader.{credit_some}
use Rattle.fairness.proofs.Bounds.{walk_ends, walk_sharp, walk_demand}
use Rattle.fairness.proofs.Ended.{fair_while}
use Rattle.fairness.proofs.Robin.{robin_fair}

-- ---- the toy: where the reader stands, and how many steps the writer has to its end
pub data Phase : Type 0 where
  walk to_fix follow hand last idle : Phase

pub data State : Type 0 where
  at_phase : Phase → ℕ → State

pub data Call : Type 0 where
  read write : Call

-- the reader alone; behind Fix it waits while the writer has steps left
abbrev pub on : Phase → ℕ → Phase
on walk d = to_fix
on to_fix d = follow
on follow zero = hand
on follow (suc d) = follow
on hand d = last
on last d = idle
on idle d = idle

abbrev pub go : State → Call → State
go (at_phase p d) read = at_phase (on p d) d
go (at_phase p zero) write = at_phase p zero
go (at_phase p (suc d)) write = at_phase p d

abbrev pub reader : Phase → Option ℕ
reader walk = some 0
reader to_fix = some 0
reader follow = some 0
reader hand = some 0
reader last = some 0
reader idle = none

abbrev pub who : State → Call → Option ℕ
who (at_phase p d) read = reader p
who (at_phase p zero) write = none
who (at_phase p (suc d)) write = some 1

abbrev pub Open : Phase → Type 0
Open walk = Unit {0}
Open to_fix = Unit {0}
Open follow = Unit {0}
Open hand = Unit {0}
Open last = Unit {0}
Open idle = ⊥

abbrev pub Busy : State → ℕ → Type 0
Busy (at_phase p d) zero = Open p
Busy (at_phase p d) (suc zero) = 0 < d
Busy (at_phase p d) (suc (suc i)) = ⊥

abbrev pub Reads : State → Type 0
Reads (at_phase p d) = Open p

abbrev pub Near : State → Type 0
Near (at_phase p d) = d ≤ 3

abbrev pub Good : State → Type 0
Good σ = Reads σ × Near σ

abbrev pub placed : Phase → Stage Keyed
placed walk = walking 0 0
placed to_fix = arrived
placed follow = following ((2, 5) ∷ [])
placed hand = handing []
placed last = following []
placed idle = following []

abbrev pub stage : State → Stage Keyed
stage (at_phase p d) = placed p

abbrev pub given : State → List Keyed
given σ = (2, 5) ∷ []

-- ---- what the writer owes the reader: nothing before Fix
abbrev pub debt : Phase → ℕ → ℕ
debt walk d = 0
debt to_fix d = 0
debt follow d = d
debt hand d = d
debt last d = d
debt idle d = d

abbrev pub owes : State → ℕ → ℕ
owes (at_phase p d) zero = 0
owes (at_phase p d) (suc zero) = debt p d
owes (at_phase p d) (suc (suc i)) = 0

debt_most : (p : Phase) (d : ℕ) → debt p d ≤ d
debt_most walk d = omega arith
debt_most to_fix d = omega arith
debt_most follow d = omega arith
debt_most hand d = omega arith
debt_most last d = omega arith
debt_most idle d = omega arith

debt_falls : (p : Phase) (d : ℕ) → (debt p d ≤ debt p (suc d)) × (0 < debt p (suc d) → debt p d < debt p (suc d))
debt_falls walk d = (omega arith, λ h. omega arith)
debt_falls to_fix d = (omega arith, λ h. omega arith)
debt_falls follow d = (omega arith, λ h. omega arith)
debt_falls hand d = (omega arith, λ h. omega arith)
debt_falls last d = (omega arith, λ h. omega arith)
debt_falls idle d = (omega arith, λ h. omega arith)

owes_most : (σ : State) → Good σ → (i : ℕ) → owes σ i ≤ credit 1
owes_most (at_phase p d) g zero = omega arith
owes_most (at_phase p d) g (suc zero) = omega (arith, debt_most p d, credit_some 1 (omega arith))
owes_most (at_phase p d) g (suc (suc i)) = omega arith

owes_busy : (σ : State) → Good σ → (i : ℕ) → 0 < owes σ i → Busy σ i × (i ≢ 0)
owes_busy (at_phase p d) g zero h = absurd (omega arith)
owes_busy (at_phase p d) g (suc zero) h = (omega (arith, debt_most p d), λ e. omega arith)
owes_busy (at_phase p d) g (suc (suc i)) h = absurd (omega arith)

owes_same : (σ : State) → Owing owes σ σ
owes_same σ i = omega arith

owes_on : (p r : Phase) (d : ℕ) → debt r d ≡ debt p d → Owing owes (at_phase p d) (at_phase r d)
owes_on p r d e zero = omega arith
owes_on p r d e (suc zero) = omega arith
owes_on p r d e (suc (suc i)) = omega arith

owes_falls : (p : Phase) (d : ℕ) → Owing owes (at_phase p (suc d)) (at_phase p d)
owes_falls p d zero = omega arith
owes_falls p d (suc zero) = (debt_falls p d).0
owes_falls p d (suc (suc i)) = omega arith

owes_paid : (p : Phase) (d i : ℕ) → some 1 ≡ some i → 0 < owes (at_phase p (suc d)) i
    → owes (at_phase p d) i < owes (at_phase p (suc d)) i
owes_paid p d zero e h = absurd (omega arith)
owes_paid p d (suc zero) e h = (debt_falls p d).1 h
owes_paid p d (suc (suc i)) e h = absurd (omega arith)

-- ---- the facts
-- a counted read is session 0's, and is not idle
reads_open : (p : Phase) → Open p → reader p ≡ some 0
reads_open walk o = refl
reads_open to_fix o = refl
reads_open follow o = refl
reads_open hand o = refl
reads_open last o = refl
reads_open idle o = absurd o

quiet : (σ : State) (c : Call) → Good σ → Good (go σ c) → who σ c ≡ none
    → (stage (go σ c) ≡ stage σ) × (given (go σ c) ≡ given σ) × Owing owes σ (go σ c)
quiet (at_phase p d) read g h e = absurd (none≢some 0 (sym e ∙ reads_open p g.0))
quiet (at_phase p zero) write g h e = (refl, refl, owes_same (at_phase p zero))
quiet (at_phase p (suc d)) write g h e = absurd (none≢some 1 (sym e))

other : (σ : State) (c : Call) (i : ℕ) → Good σ → Good (go σ c) → who σ c ≡ some i → i ≢ 0
    → (stage (go σ c) ≡ stage σ) × Gives given σ (go σ c) × Owing owes σ (go σ c)
    × (0 < owes σ i → owes (go σ c) i < owes σ i)
other (at_phase p d) read i g h e n = absurd (n (some_same i 0 (sym e ∙ reads_open p g.0)))
other (at_phase p zero) write i g h e n = absurd (none≢some i e)
other (at_phase p (suc d)) write i g h e n = (refl, gives_none refl, owes_falls p d, owes_paid p d i e)

own_read : (p : Phase) (d : ℕ) → Open p → Open (on p d)
    → Own key_of 1 stage given owes (at_phase p d) (at_phase (on p d) d)
own_read walk d g h = move _ _ refl refl arrives refl (owes_on walk to_fix d refl)
own_read to_fix d g h =
    fix _ _ refl refl (behind (rising_distinct key_of 0 ((2, 5) ∷ []) (omega arith, tt)) (λ x m. m)) refl
own_read follow zero g h = move _ _ refl refl (finds (2, 5) (omega arith)) refl (owes_on follow hand zero refl)
own_read follow (suc d) g h = wait refl refl (owes_same (at_phase follow (suc d))) 1 (omega arith)
own_read hand d g h = move _ _ refl refl hands refl (owes_on hand last d refl)
own_read last d g h = absurd h
own_read idle d g h = absurd g

own : (σ : State) (c : Call) → Good σ → Good (go σ c) → who σ c ≡ some 0 → Own key_of 1 stage given owes σ (go σ c)
own (at_phase p d) read g h e = own_read p d g.0 h.0
own (at_phase p zero) write g h e = absurd (none≢some 0 e)
own (at_phase p (suc d)) write g h e = absurd (let z = some_same 1 0 e in omega arith)

open_busy : (σ : State) → Good σ → Busy σ 0
open_busy (at_phase p d) g = g.0

pub toy_facts : CallFacts go who Busy 0 Good key_of 1 stage given owes
toy_facts = record {
  open_busy = open_busy;
  owes_most = owes_most;
  owes_busy = owes_busy;
  quiet = quiet;
  other = other;
  own = own;
}

-- ---- the bounds, from the start of the reader, whatever the writer still has to do
none_owed : (d i : ℕ) → owes (at_phase walk d) i ≡ 0
none_owed d zero = refl
none_owed d (suc zero) = refl
none_owed d (suc (suc i)) = refl

pub toy_ends : (d w : ℕ) (calls : List Call) → Along go Good (at_phase walk d) calls
    → Fair go who Busy w (at_phase walk d) calls → suc (steps go who (at_phase walk d) calls) < w * 9
toy_ends d w calls good fair = walk_ends go who Busy 0 Good key_of 1 stage given owes 0 0 toy_facts w
    (at_phase walk d) calls (refl, none_owed d) good fair

pub toy_sharp : (d w : ℕ) (calls : List Call) → Along go Good (at_phase walk d) calls
    → Fair go who Busy w (at_phase walk d) calls → steps go who (at_phase walk d) calls < w * 8
toy_sharp d w calls good fair = walk_sharp go who Busy 0 Good key_of 1 stage given owes 0 0 toy_facts w
    (at_phase walk d) calls (refl, none_owed d) good fair

-- ---- round robin: fair for each window of at least 2, and computed
abbrev pub turn : ℕ → Call
turn zero = read
turn (suc i) = write

turn_counts : (σ : State) → Counts turn 2 who Busy σ
turn_counts (at_phase p d) zero b = (omega arith, reads_open p b)
turn_counts (at_phase p zero) (suc zero) b = absurd (omega arith)
turn_counts (at_phase p (suc d)) (suc zero) b = (omega arith, refl)
turn_counts (at_phase p d) (suc (suc i)) b = absurd b

pub toy_fair : (w m : ℕ) (σ : State) → 2 ≤ w → Fair go who Busy w σ (robin turn 2 0 m)
toy_fair w m σ h =
    robin_fair turn 2 go who Busy w 0 m σ h (along_all go (Counts turn 2 who Busy) turn_counts σ (robin turn 2 0 m))

-- the third read is a counted step, and waits for the writer
toy_wait_counts : who (after go (at_phase walk 3) (robin turn 2 0 4)) read ≡ some 0
toy_wait_counts = refl

toy_waits : go (after go (at_phase walk 3) (robin turn 2 0 4)) read ≡ after go (at_phase walk 3) (robin turn 2 0 4)
toy_waits = refl

-- it is open along ten calls, of which eight are counted steps, and the eleventh ends it
near_kept : (σ : State) (c : Call) → Near σ → Near (go σ c)
near_kept (at_phase p d) read h = h
near_kept (at_phase p zero) write h = h
near_kept (at_phase p (suc d)) write h = omega arith

toy_open : Along go Good (at_phase walk 3) (robin turn 2 0 10)
toy_open = along_both go Reads Near (at_phase walk 3) (robin turn 2 0 10) reads
    (along_kept go Near near_kept (at_phase walk 3) (robin turn 2 0 10) (omega arith))
  where
    reads : Along go Reads (at_phase walk 3) (robin turn 2 0 10)
    reads = (tt, (tt, (tt, (tt, (tt, (tt, (tt, (tt, (tt, (tt, tt))))))))))

toy_steps : steps go who (at_phase walk 3) (robin turn 2 0 10) ≡ 8
toy_steps = refl

toy_ended : after go (at_phase walk 3) (robin turn 2 0 11) ≡ at_phase idle 0
toy_ended = refl

-- as the bound has it for a window of 2: nine steps, the last included, and 9 < 18
toy_within : suc (steps go who (at_phase walk 3) (robin turn 2 0 10)) < 2 * 9
toy_within = toy_ends 3 2 (robin turn 2 0 10) toy_open (toy_fair 2 10 (at_phase walk 3) (omega arith))

-- ---- demand 3 whole: in round robin of any length it is open and below the bound, or has ended below it
reads_dec : (σ : State) → Dec (Reads σ)
reads_dec (at_phase walk d) = yes tt
reads_dec (at_phase to_fix d) = yes tt
reads_dec (at_phase follow d) = yes tt
reads_dec (at_phase hand d) = yes tt
reads_dec (at_phase last d) = yes tt
reads_dec (at_phase idle d) = no (λ o. o)

pub toy_demand : (w d m : ℕ) → 2 ≤ w → d ≤ 3
    → OpenOrEnded go Reads who (λ τ. w * 9) (at_phase walk d) (robin turn 2 0 m)
toy_demand w d m two near = walk_demand go who Busy 0 Reads Near key_of 1 stage given owes 0 0 near_kept reads_dec
    toy_facts w (at_phase walk d) (robin turn 2 0 m) (tt, near) (refl, none_owed d)
    (fair_while go who Reads Busy w (at_phase walk d) (robin turn 2 0 m) (toy_fair w m (at_phase walk d) two))
