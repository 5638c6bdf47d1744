-- Every step settles: it is refused Damaged and keeps all, waits and keeps all, is full, or goes on; and what it uses
-- says which (rows 8 and 6 of document 01, and its wait rules).
-- In order: answers that are no refusal; settling; each phase; any phase. Assumes nothing.
use Rattle.std.specs.Prelude.{Result, Ok, Err}
use Prim.Native.Nat.{ℕ, ◌+◌, ◌≤◌, ◌<◌}
use mathlib.Core.Path.{◌≡◌, refl}
use mathlib.Core.Logic.{◌⊎◌, inl, inr, ⊎_elim, ◌≢◌}
use mathlib.Core.List.{List}
use mathlib.Core.Bool.{Bool, true, false, cond, true≢false}
use native.Mathlib.Omega.{arith}
use lib.Dec.{ltb, leb, eqb}
use borrow.Author.Tests.{ltb-true, ltb-false}
use Rattle.bundle.specs.Bundle.{at_of, newest_of}
use Rattle.bundle.specs.declared.Held.{Held}
use Rattle.nodes.specs.Nodes.{next_at, lock_at, removed_at, newest_at, key_at, unlocked}
use Rattle.terms.specs.Terms.{sought_of, high_of, removes_of, Name, name_of, started, working, waiting, key, inserted}
use Rattle.terms.specs.Terms.{removed, present, absent, end, refused}
use Rattle.terms.specs.declared.Size.{Size}
use Rattle.terms.specs.declared.Counters.{Counters}
use Rattle.terms.specs.declared.Op.{Op}
use Rattle.terms.specs.declared.Refusal.{Refusal}
use Rattle.terms.specs.declared.Answer.{Answer}
use Rattle.steps.specs.declared.Phase.{Phase}
use Rattle.steps.specs.declared.Stepped.{Stepped}
use Rattle.steps.specs.Steps.{Done, done, Moved, over, Tables, tables, leaves, damaged, waits, ends, walk_step, free}
use Rattle.steps.specs.Steps.{lock_step, insert_meets, insert_check, linked_of, remove_check, check_step, insert_laid}
use Rattle.steps.specs.Steps.{remove_laid, insert_room, remove_room, held_at, held_either, on_held, prepare_step}
use Rattle.steps.specs.Steps.{insert_prepare, remove_prepare, number_step, insert_link, remove_link, link_step, usable}
use Rattle.steps.specs.Steps.{finish_step, has_sees, on_read, newest_step, range_sees, follow_step, hand_step}
use Rattle.steps.specs.Steps.{act_step}
use Rattle.steps.specs.Steps.{locked_of}
use Rattle.demands.specs.Demands.{FarNode, FarEntry, Misled, FullAt, Full, CheckDamage, HeldByAnother}
use Rattle.demands.specs.Demands.{LockWaits, Wait, RoomDamage, PrepareDamage, held_for, RemoveUses, Damage}
use Rattle.demands.proofs.Splits.{Splits, split_lt, split_eq, split_and, split_or, split_unless, split_cases}

-- ---- answers of a step that is neither refused nor waiting
abbrev pub Gone : Name → Type 0
Gone started = ⊥
Gone working = Unit {0}
Gone waiting = ⊥
Gone key = Unit {0}
Gone inserted = Unit {0}
Gone removed = Unit {0}
Gone present = Unit {0}
Gone absent = Unit {0}
Gone end = Unit {0}
Gone refused = ⊥

abbrev pub Goes : Answer → Type 0
Goes a = Gone (name_of a)

-- ---- settling: D is what damages the step, F is what fills it, W is what it waits for
pub data Settled (D F W : Type 0) (ns es : List ℕ) (c : Counters) (op : Op) (here : Phase) : Done → Type 0 where
  damages : D → ¬ F → ¬ W → Settled D F W ns es c op here (done ns es (damaged c op here))
  halts : ¬ D → ¬ F → W → Settled D F W ns es c op here (done ns es (waits c op here))
  fills : (pred curr : ℕ) → here ≡ Phase.Prepare pred curr → ¬ D → F → ¬ W →
      Settled D F W ns es c op here (done (unlocked ns pred) es (ends c (Answer.Refused Refusal.Full)))
  goes : (ns' es' : List ℕ) (r : Stepped) → Goes r.answer → ¬ D → ¬ F → ¬ W →
      Settled D F W ns es c op here (done ns' es' r)

-- neither of two; a choice whose test does not matter
neither : {A B : Type 0} → ¬ A → ¬ B → ¬ (A ⊎ B)
neither f g = ⊎_elim f g

none : ¬ ⊥
none x = x

any : {A : Type 0} (R : A → Type 0) (t : Bool) (a b : A) → R a → R b → R (cond t a b)
any R true a b r s = r
any R false a b r s = s

-- what a bundle answers, told apart
abbrev unheld : Result (Unit {0}) Held
unheld = Ok tt

wait≢unheld : Err Held.Wait ≢ unheld
wait≢unheld e = let w : ◌≡◌ {A = ℕ} 0 1 = cc in omega arith

damaged≢unheld : Err Held.Damaged ≢ unheld
damaged≢unheld e = let w : ◌≡◌ {A = ℕ} 0 1 = cc in omega arith

unheld≢wait : unheld ≢ Err Held.Wait
unheld≢wait e = let w : ◌≡◌ {A = ℕ} 0 1 = cc in omega arith

damaged≢wait : {A : Type 0} → ◌≢◌ {A = Result A Held} (Err Held.Damaged) (Err Held.Wait)
damaged≢wait e = let w : ◌≡◌ {A = ℕ} 0 1 = cc in omega arith

take≢wait : (to : ℕ) → Ok to ≢ Err Held.Wait
take≢wait to e = let w : ◌≡◌ {A = ℕ} 0 1 = cc in omega arith

-- a lock word is free or one's own, or another holds it
split_free : (who word : ℕ) → Splits ((word ≡ 0) ⊎ (word ≡ who + 1)) (HeldByAnother who word) (free who word)
unfolding free
split_free who word = split_unless (split_eq word 0) (split_eq word (who + 1))

finished_goes : (b : Bool) (n : ℕ) → Goes (cond b (Answer.Removed n) (Answer.Inserted n))
finished_goes true n = tt
finished_goes false n = tt

-- what a remove uses besides
split_remove : (b : Bool) (z : Size) (node : ℕ) →
    Splits (¬ RemoveUses b z node) (RemoveUses b z node) (cond b (ltb node z.nodes) true)
split_remove true z node =
    record { taken = λ e far. omega (arith, ltb-true node z.nodes e); left = ltb-false node z.nodes }
split_remove false z node = record { taken = λ _ x. x; left = λ e. absurd (true≢false e) }

module _ (z : Size) (ns es : List ℕ) (c : Counters) (op : Op) where
  abbrev Steady : Type 0 → Phase → Done → Type 0
  Steady D here d = Settled D ⊥ ⊥ ns es c op here d

  -- ---- Walk
  walk_settles : (pred curr : ℕ) →
      Steady (FarNode z curr) (Phase.Walk pred curr) (done ns es (walk_step z ns c op pred curr))
  unfolding walk_step
  walk_settles pred curr =
      let R : Stepped → Type 0 = λ r. Steady (FarNode z curr) (Phase.Walk pred curr) (done ns es r) in
      split_cases R _ _ (split_lt curr z.nodes)
      (λ near. any R (ltb (key_at ns curr) (sought_of op)) _ _
      (goes ns es _ tt (λ far. omega arith) none none) (goes ns es _ tt (λ far. omega arith) none none))
      (λ far. damages far none none)

  -- ---- Lock
  lock_settles : (who node : ℕ) (here then : Phase) →
      Settled (FarNode z node) ⊥ (LockWaits z ns who node) ns es c op here
      (over es (lock_step z ns c who op node here then))
  unfolding lock_step
  lock_settles who node here then =
      let R : Moved → Type 0 = λ m. Settled (FarNode z node) ⊥ (LockWaits z ns who node) ns es c op here
      (over es m) in
      split_cases R _ _ (split_lt node z.nodes)
      (λ near. split_cases R _ _ (split_free who (lock_at ns node))
      (λ ours. goes _ es _ tt (λ far. omega arith) none (λ w. neither w.1.0 w.1.1 ours))
      (λ theirs. halts (λ far. omega arith) none (near, theirs)))
      (λ far. damages far none (λ w. omega (arith, w.0)))

  -- ---- Check
  meet_settles : (pred curr : ℕ) → pred < z.nodes → removed_at ns pred ≡ 0 → next_at ns pred ≡ curr →
      Steady (CheckDamage false z ns pred curr) (Phase.Check pred curr) (over es (insert_meets z ns c op pred curr))
  unfolding insert_meets
  meet_settles pred curr in_table not_removed linked =
      let R : Moved → Type 0 = λ m. Steady (CheckDamage false z ns pred curr) (Phase.Check pred curr) (over es m) in
      split_cases R _ _ (split_lt curr z.nodes)
      (λ near. any R (eqb (key_at ns curr) (sought_of op)) _ _
      (goes _ es _ tt (neither (λ far. omega arith) (λ h. omega arith)) none none)
      (goes _ es _ tt (neither (λ far. omega arith) (λ h. omega arith)) none none))
      (λ far. damages (inr (not_removed, linked, far)) none none)

  insert_check_settles : (pred curr : ℕ) →
      Steady (CheckDamage false z ns pred curr) (Phase.Check pred curr) (over es (insert_check z ns c op pred curr))
  unfolding insert_check
  insert_check_settles pred curr =
      let R : Moved → Type 0 = λ m. Steady (CheckDamage false z ns pred curr) (Phase.Check pred curr) (over es m) in
      split_cases R _ _ (split_lt pred z.nodes)
      (λ near. split_cases R _ _ (split_and (split_eq (removed_at ns pred) 0) (split_eq (next_at ns pred) curr))
      (λ h. meet_settles pred curr near h.0 h.1)
      (λ off. goes _ es _ tt
      (neither (λ far. omega arith) (λ h. neither (λ n. n h.0) (λ n. n h.1) off)) none none))
      (λ far. damages (inl far) none none)

  remove_check_settles : (pred curr : ℕ) →
      Steady (CheckDamage true z ns pred curr) (Phase.Check pred curr) (over es (remove_check z ns c op pred curr))
  unfolding remove_check
  remove_check_settles pred curr =
      let R : Moved → Type 0 = λ m. Steady (CheckDamage true z ns pred curr) (Phase.Check pred curr) (over es m) in
      split_cases R _ _ (split_and (split_lt pred z.nodes) (split_lt curr z.nodes))
      (λ near. let safe : ¬ CheckDamage true z ns pred curr = neither (λ far. omega arith) (λ far. omega arith) in
      any R (linked_of ns pred curr) _ _ (any R (eqb (key_at ns curr) (sought_of op)) _ _
      (goes _ es _ tt safe none none) (goes _ es _ tt safe none none)) (goes _ es _ tt safe none none))
      (λ far. damages far none none)

  check_settles : (b : Bool) (pred curr : ℕ) → Steady (CheckDamage b z ns pred curr) (Phase.Check pred curr)
      (over es (cond b (remove_check z ns c op pred curr) (insert_check z ns c op pred curr)))
  check_settles true pred curr = remove_check_settles pred curr
  check_settles false pred curr = insert_check_settles pred curr

  -- ---- Prepare
  laid_settles : {D F W : Type 0} (here : Phase) (t : Tables) (r : Stepped) → Goes r.answer → ¬ D → ¬ F → ¬ W →
      Settled D F W ns es c op here (leaves t r)
  laid_settles here (tables ns' es') r g = goes ns' es' r g

  insert_room_settles : (pred curr : ℕ) →
      Settled (RoomDamage false z c) (FullAt false z unheld c) (unheld ≡ Err Held.Wait) ns es c op
      (Phase.Prepare pred curr) (insert_room z ns es c op pred curr)
  unfolding insert_room
  insert_room_settles pred curr =
      let R : Done → Type 0 = λ d. Settled (RoomDamage false z c) (FullAt false z unheld c)
      (unheld ≡ Err Held.Wait) ns es c op (Phase.Prepare pred curr) d in
      split_cases R _ _ (split_lt z.nodes c.nodes)
      (λ many. damages (inl many) (λ f. omega arith) unheld≢wait)
      (λ few. split_cases R _ _ (split_eq c.nodes z.nodes)
      (λ all. fills pred curr refl (neither (λ many. omega arith) (λ h. h.0 all)) (refl, all) unheld≢wait)
      (λ some. split_cases R _ _ (split_lt z.entries (c.entries + 2))
      (λ many. damages (inr (some, many)) (λ f. some f.1) unheld≢wait)
      (λ room. laid_settles (Phase.Prepare pred curr) (insert_laid ns es c op pred curr) _ tt
      (neither (λ many. omega arith) (λ h. omega arith)) (λ f. some f.1) unheld≢wait)))

  insert_prepare_settles : (h : Result (Unit {0}) Held) (pred curr : ℕ) →
      Settled (PrepareDamage false z h c) (FullAt false z h c) (h ≡ Err Held.Wait) ns es c op (Phase.Prepare pred curr)
      (on_held ns es c op (Phase.Prepare pred curr) h (insert_room z ns es c op pred curr))
  insert_prepare_settles (Ok tt) pred curr = insert_room_settles pred curr
  insert_prepare_settles (Err Held.Wait) pred curr = halts none (λ f. wait≢unheld f.0) refl
  insert_prepare_settles (Err Held.Damaged) pred curr = damages tt (λ f. damaged≢unheld f.0) damaged≢wait

  remove_room_settles : (pred curr : ℕ) →
      Settled (RoomDamage true z c) ⊥ (unheld ≡ Err Held.Wait) ns es c op (Phase.Prepare pred curr)
      (remove_room z ns es c op pred curr)
  unfolding remove_room
  remove_room_settles pred curr =
      let R : Done → Type 0 = λ d. Settled (RoomDamage true z c) ⊥ (unheld ≡ Err Held.Wait) ns es c op
      (Phase.Prepare pred curr) d in
      split_cases R _ _ (split_or (split_lt z.nodes c.nodes) (split_lt z.entries (c.entries + 2)))
      (λ many. damages many none unheld≢wait)
      (λ room. laid_settles (Phase.Prepare pred curr) (remove_laid ns es c pred curr) _ tt
      (neither (λ many. omega arith) (λ many. omega arith)) none unheld≢wait)

  remove_prepare_settles : (h : Result (Unit {0}) Held) (pred curr : ℕ) →
      Settled (PrepareDamage true z h c) ⊥ (h ≡ Err Held.Wait) ns es c op (Phase.Prepare pred curr)
      (on_held ns es c op (Phase.Prepare pred curr) h (remove_room z ns es c op pred curr))
  remove_prepare_settles (Ok tt) pred curr = remove_room_settles pred curr
  remove_prepare_settles (Err Held.Wait) pred curr = halts none none refl
  remove_prepare_settles (Err Held.Damaged) pred curr = damages tt none damaged≢wait

  prepare_settles : (b : Bool) (pred curr : ℕ) →
      Settled (PrepareDamage b z (held_for b z ns es pred curr) c) (FullAt b z (held_at z ns es pred) c)
      (held_for b z ns es pred curr ≡ Err Held.Wait) ns es c op (Phase.Prepare pred curr)
      (cond b (remove_prepare z ns es c op pred curr) (insert_prepare z ns es c op pred curr))
  prepare_settles true pred curr = remove_prepare_settles (held_either z ns es pred curr) pred curr
  prepare_settles false pred curr = insert_prepare_settles (held_at z ns es pred) pred curr

  -- ---- Number
  number_settles : (pred node lower upper : ℕ) → Steady (z.updates ≤ c.stamp) (Phase.Number pred node lower upper)
      (done ns es (number_step z c op pred node lower upper))
  unfolding number_step
  number_settles pred node lower upper =
      let R : Stepped → Type 0 = λ r. Steady (z.updates ≤ c.stamp) (Phase.Number pred node lower upper)
      (done ns es r) in
      split_cases R _ _ (split_lt c.stamp z.updates) (λ near. goes ns es _ tt (λ far. omega arith) none none)
      (λ far. damages far none none)

  module _ (pred node lower upper number : ℕ) where
    abbrev linking : Phase
    linking = Phase.Link pred node lower upper number

    abbrev finishing : Phase
    finishing = Phase.Finish pred node lower upper number

    -- ---- Link
    insert_link_settles : Steady (FarNode z pred ⊎ ⊥) linking
        (over es (insert_link z ns c op pred node lower upper number))
    unfolding insert_link
    insert_link_settles =
        let R : Moved → Type 0 = λ m. Steady (FarNode z pred ⊎ ⊥) linking (over es m) in
        split_cases R _ _ (split_lt pred z.nodes)
        (λ near. goes _ es _ tt (neither (λ far. omega arith) none) none none) (λ far. damages (inl far) none none)

    remove_link_settles : Steady (FarNode z pred ⊎ FarNode z node) linking
        (over es (remove_link z ns c op pred node lower upper number))
    unfolding remove_link
    remove_link_settles =
        let R : Moved → Type 0 = λ m. Steady (FarNode z pred ⊎ FarNode z node) linking (over es m) in
        split_cases R _ _ (split_and (split_lt pred z.nodes) (split_lt node z.nodes))
        (λ near. goes _ es _ tt (neither (λ far. omega arith) (λ far. omega arith)) none none)
        (λ far. damages far none none)

    link_settles : (b : Bool) → Steady (FarNode z pred ⊎ RemoveUses b z node) linking
        (over es (cond b (remove_link z ns c op pred node lower upper number)
        (insert_link z ns c op pred node lower upper number)))
    link_settles true = remove_link_settles
    link_settles false = insert_link_settles

    -- ---- Finish
    abbrev FinishDamage : Type 0
    FinishDamage = FarEntry z lower ⊎ (FarEntry z upper ⊎ (FarNode z pred ⊎ RemoveUses (removes_of op) z node))

    finish_settles : Steady FinishDamage finishing (finish_step z ns es c op pred node lower upper number)
    unfolding finish_step usable
    finish_settles =
        let R : Done → Type 0 = λ d. Steady FinishDamage finishing d in
        split_cases R _ _
        (split_and (split_lt lower z.entries) (split_and (split_lt upper z.entries)
        (split_and (split_lt pred z.nodes) (split_remove (removes_of op) z node))))
        (λ near. goes _ _ _ (finished_goes (removes_of op) number)
        (neither (λ far. omega (arith, near.0)) (neither (λ far. omega (arith, near.1.0))
        (neither (λ far. omega (arith, near.1.1.0)) near.1.1.1))) none none)
        (λ far. damages far none none)

  -- ---- a link is read, by the newest or at a snapshot
  read_settles : (at : ℕ) (here : Phase) (next : ℕ → Stepped) → at < z.nodes →
      ((to : ℕ) (W : Type 0) → ¬ W → Settled (FarNode z at ⊎ FarNode z to) ⊥ W ns es c op here
      (done ns es (next to))) →
      (seen : Result ℕ Held) →
      Settled (FarNode z at ⊎ Misled z seen) ⊥ ((at < z.nodes) × (seen ≡ Err Held.Wait)) ns es c op here
      (done ns es (on_read c op here seen next))
  read_settles at here next near sees (Err Held.Wait) = halts (neither (λ far. omega arith) none) none (near, refl)
  read_settles at here next near sees (Ok to) = sees to _ (λ w. take≢wait to w.1)
  read_settles at here next near sees (Err Held.Damaged) = damages (inr tt) none (λ w. damaged≢wait w.1)

  has_settles : (at to : ℕ) → at < z.nodes → (W : Type 0) → ¬ W →
      Settled (FarNode z at ⊎ FarNode z to) ⊥ W ns es c op (Phase.Newest at) (done ns es (has_sees z ns c op at to))
  unfolding has_sees
  has_settles at to near W no_wait =
      let R : Stepped → Type 0 = λ r. Settled (FarNode z at ⊎ FarNode z to) ⊥ W ns es c op (Phase.Newest at)
      (done ns es r) in
      split_cases R _ _ (split_lt to z.nodes)
      (λ there. let safe : ¬ (FarNode z at ⊎ FarNode z to) = neither (λ far. omega arith) (λ far. omega arith) in
      any R (ltb (key_at ns to) (sought_of op)) _ _ (goes ns es _ tt safe none no_wait)
      (any R (eqb (key_at ns to) (sought_of op)) _ _
      (goes ns es _ tt safe none no_wait) (goes ns es _ tt safe none no_wait)))
      (λ far. damages (inr far) none no_wait)

  newest_settles : (at : ℕ) →
      let seen = newest_of z.entries es (newest_at ns at) in
      Settled (FarNode z at ⊎ Misled z seen) ⊥ ((at < z.nodes) × (seen ≡ Err Held.Wait)) ns es c op
      (Phase.Newest at) (done ns es (newest_step z ns es c op at))
  unfolding newest_step
  newest_settles at =
      let seen = newest_of z.entries es (newest_at ns at) in
      let R : Stepped → Type 0 = λ r.
      Settled (FarNode z at ⊎ Misled z seen) ⊥ ((at < z.nodes) × (seen ≡ Err Held.Wait))
      ns es c op (Phase.Newest at) (done ns es r) in
      split_cases R _ _ (split_lt at z.nodes)
      (λ near. read_settles at (Phase.Newest at) (has_sees z ns c op at) near (λ to. has_settles at to near) seen)
      (λ far. damages (inl far) none (λ w. omega (arith, w.0)))

  module _ (at snapshot handed : ℕ) where
    abbrev following : Phase
    following = Phase.Follow at snapshot handed

    range_settles : (to : ℕ) → at < z.nodes → (W : Type 0) → ¬ W →
        Settled (FarNode z at ⊎ FarNode z to) ⊥ W ns es c op following
        (done ns es (range_sees z ns c op at snapshot handed to))
    unfolding range_sees
    range_settles to near W no_wait =
        let R : Stepped → Type 0 = λ r. Settled (FarNode z at ⊎ FarNode z to) ⊥ W ns es c op following
        (done ns es r) in
        split_cases R _ _ (split_lt to z.nodes)
        (λ there. let safe : ¬ (FarNode z at ⊎ FarNode z to) = neither (λ far. omega arith) (λ far. omega arith) in
        any R (ltb (key_at ns to) (sought_of op)) _ _ (goes ns es _ tt safe none no_wait)
        (any R (leb (key_at ns to) (high_of op)) _ _
        (goes ns es _ tt safe none no_wait) (goes ns es _ tt safe none no_wait)))
        (λ far. damages (inr far) none no_wait)

    follow_settles :
        let seen = at_of z.entries es (newest_at ns at) snapshot in
        Settled (FarNode z at ⊎ Misled z seen) ⊥ ((at < z.nodes) × (seen ≡ Err Held.Wait)) ns es c op following
        (done ns es (follow_step z ns es c op at snapshot handed))
    unfolding follow_step
    follow_settles =
        let seen = at_of z.entries es (newest_at ns at) snapshot in
        let R : Stepped → Type 0 = λ r. Settled (FarNode z at ⊎ Misled z seen) ⊥
        ((at < z.nodes) × (seen ≡ Err Held.Wait)) ns es c op following (done ns es r) in
        split_cases R _ _ (split_lt at z.nodes)
        (λ near. read_settles at following (range_sees z ns c op at snapshot handed) near
        (λ to. range_settles to near) seen)
        (λ far. damages (inl far) none (λ w. omega (arith, w.0)))

    -- ---- Hand
    hand_settles : Steady (FarNode z at ⊎ (z.keys ≤ handed)) (Phase.Hand at snapshot handed)
        (done ns es (hand_step z ns c op at snapshot handed))
    unfolding hand_step
    hand_settles =
        let R : Stepped → Type 0 = λ r. Steady (FarNode z at ⊎ (z.keys ≤ handed)) (Phase.Hand at snapshot handed)
        (done ns es r) in
        split_cases R _ _ (split_and (split_lt at z.nodes) (split_lt handed z.keys))
        (λ near. goes ns es _ tt (neither (λ far. omega arith) (λ far. omega arith)) none none)
        (λ far. damages far none none)

  -- ---- any phase of an operation
  pub acts_settle : (who : ℕ) (here : Phase) → here ≢ Phase.Idle →
      Settled (Damage z ns es c op here) (Full z ns es c op here) (Wait z ns es who op here) ns es c op here
      (act_step z ns es c who op here)
  unfolding check_step prepare_step link_step
  acts_settle who Phase.Idle busy = absurd (busy refl)
  acts_settle who (Phase.Walk pred curr) busy = walk_settles pred curr
  acts_settle who (Phase.Lock pred curr) busy =
      lock_settles who pred (Phase.Lock pred curr) (locked_of op pred curr)
  acts_settle who (Phase.LockCurr pred curr) busy =
      lock_settles who curr (Phase.LockCurr pred curr) (Phase.Check pred curr)
  acts_settle who (Phase.Check pred curr) busy = check_settles (removes_of op) pred curr
  acts_settle who (Phase.Prepare pred curr) busy = prepare_settles (removes_of op) pred curr
  acts_settle who (Phase.Number pred node lower upper) busy = number_settles pred node lower upper
  acts_settle who (Phase.Link pred node lower upper number) busy =
      link_settles pred node lower upper number (removes_of op)
  acts_settle who (Phase.Finish pred node lower upper number) busy = finish_settles pred node lower upper number
  acts_settle who (Phase.Newest at) busy = newest_settles at
  acts_settle who (Phase.Fix pred) busy = goes ns es _ tt none none none
  acts_settle who (Phase.Follow at snapshot handed) busy = follow_settles at snapshot handed
  acts_settle who (Phase.Hand at snapshot handed) busy = hand_settles at snapshot handed
