-- No call changes the key or the value of a node in use, and none gives a node back: what agrees with the words after
-- a call agreed before it. True of any words.
-- In order: stores; what a step keeps, phase by phase; any call; `agree_back`.
-- Not here: what the words show. Assumes nothing.
use Rattle.std.specs.Prelude.{Result, Ok, Err}
use Prim.Native.Nat.{ℕ, ◌+◌, ◌≤◌, ◌<◌}
use mathlib.Core.Path.{◌≡◌, refl, sym, ◌∙◌, ap}
use mathlib.Core.Logic.{◌⊎◌, inl, inr}
use mathlib.Core.Bool.{Bool, true, false, cond, ◌&&◌, ◌||◌}
use mathlib.Core.List.{List}
use native.Mathlib.Omega.{arith}
use lib.Dec.{ltb, leb, eqb}
use Rattle.table.proofs.Laws.{word_else}
use Rattle.order.proofs.Tests.{cond_cases}
use Rattle.bundle.specs.Bundle.{at_of, newest_of}
use Rattle.bundle.specs.declared.Held.{Held}
use Rattle.nodes.specs.Nodes.{node_at, put_node, key_at, next_at, lock_at, removed_at, newest_at, unlocked}
use Rattle.nodes.specs.Nodes.{unlocked_both}
use Rattle.nodes.specs.Nodes.{named_node, clear_node, new_node}
use Rattle.terms.specs.Terms.{sought_of, high_of, value_of, removes_of}
use Rattle.terms.specs.declared.Size.{Size}
use Rattle.terms.specs.declared.Counters.{Counters}
use Rattle.terms.specs.declared.Op.{Op}
use Rattle.steps.specs.declared.Phase.{Phase}
use Rattle.steps.specs.declared.Session.{Session}
use Rattle.steps.specs.declared.Stepped.{Stepped}
use Rattle.steps.specs.Steps.{Done, done, Moved, moved, over, act_step, busy_of}
use Rattle.steps.specs.Steps.{walk_step, lock_step, insert_meets, insert_check, remove_check, check_step, lay_in}
use Rattle.steps.specs.Steps.{insert_laid}
use Rattle.steps.specs.Steps.{remove_laid, insert_room, remove_room, held_at, held_either, on_held, prepare_step}
use Rattle.steps.specs.Steps.{number_step}
use Rattle.steps.specs.Steps.{insert_link, remove_link, link_step, finish_step, has_sees, on_read, newest_step}
use Rattle.steps.specs.Steps.{range_sees}
use Rattle.steps.specs.Steps.{follow_step, hand_step, locked_of, free, linked_of, usable}
use Rattle.register.specs.Register.{fits, step_of}
use Rattle.sixteen.specs.declared.Call.{Call}
use Rattle.sixteen.specs.Sixteen.{after_step}
use Rattle.reached.specs.Reached.{State, record_of, state_in, go}
use Rattle.words.proofs.Show.{Agrees}
use Rattle.words.proofs.Land.{used_of}

-- ---- keys and values of the nodes below `used` stay
abbrev Kept : ℕ → List ℕ → List ℕ → Type 0
Kept used ns ns' = (x k : ℕ) → x < used → k < 2 → node_at ns' x k ≡ node_at ns x k

same_kept : (used : ℕ) (ns : List ℕ) → Kept used ns ns
same_kept used ns x k x<used k<2 = refl

-- a store of another word, or at a node that is not in use yet
put_kept : (used : ℕ) (ns ns' : List ℕ) (n j v : ℕ) → j < 6 → (used ≤ n) ⊎ (2 ≤ j) → Kept used ns ns'
    → Kept used ns (put_node ns' n j v)
put_kept used ns ns' n j v j<6 (inl new) K x k x<used k<2 =
    word_else 6 ns' n j v x k j<6 (omega arith) (inl (λ e. omega arith)) ∙ K x k x<used k<2
put_kept used ns ns' n j v j<6 (inr other) K x k x<used k<2 =
    word_else 6 ns' n j v x k j<6 (omega arith) (inr (λ e. omega arith)) ∙ K x k x<used k<2

unlock_kept : (used : ℕ) (ns : List ℕ) (p : ℕ) → Kept used ns (unlocked ns p)
unlock_kept used ns p = put_kept used ns ns p 3 0 (omega arith) (inr (omega arith)) (same_kept used ns)

both_kept : (used : ℕ) (ns : List ℕ) (p q : ℕ) (both : Bool) → Kept used ns (unlocked_both ns p q both)
both_kept used ns p q true = put_kept used ns (unlocked ns p) q 3 0 (omega arith) (inr (omega arith))
    (unlock_kept used ns p)
both_kept used ns p q false = unlock_kept used ns p

new_kept : (used : ℕ) (ns : List ℕ) (n k v next : ℕ) → used ≤ n → Kept used ns (new_node ns n k v next)
unfolding named_node clear_node
new_kept used ns n k v next new =
    let first = put_kept used ns ns n 0 k (omega arith) (inl new) (same_kept used ns) in
    let second = put_kept used ns _ n 1 v (omega arith) (inl new) first in
    let third = put_kept used ns _ n 2 next (omega arith) (inl new) second in
    let fourth = put_kept used ns _ n 3 0 (omega arith) (inl new) third in
    let fifth = put_kept used ns _ n 4 0 (omega arith) (inl new) fourth in
    put_kept used ns _ n 5 0 (omega arith) (inl new) fifth

-- ---- what a step leaves: no node given back, and keys and values kept
record Up (c : Counters) (r : Stepped) : Type 0 where
  up : c.nodes ≤ r.counters.nodes

abbrev table_in : Moved → List ℕ
table_in (moved ns r) = ns

abbrev return_in : Moved → Stepped
return_in (moved ns r) = r

record KeepsMoved (c : Counters) (ns : List ℕ) (o : Moved) : Type 0 where
  up : c.nodes ≤ (return_in o).counters.nodes
  kept : Kept c.nodes ns (table_in o)

abbrev table_of : Done → List ℕ
table_of (done ns es r) = ns

abbrev return_of : Done → Stepped
return_of (done ns es r) = r

record Keeps (c : Counters) (ns : List ℕ) (o : Done) : Type 0 where
  up : c.nodes ≤ (return_of o).counters.nodes
  kept : Kept c.nodes ns (table_of o)

over_keeps : (c : Counters) (ns es : List ℕ) (o : Moved) → KeepsMoved c ns o → Keeps c ns (over es o)
over_keeps c ns es (moved ns' r) k = record { up = k.up; kept = k.kept }

-- a choice that keeps on both ways
either : {A : Type 0} (P : A → Type 0) (t : Bool) (a b : A) → P a → P b → P (cond t a b)
either P t a b f g = cond_cases P t a b (λ _. f) (λ _. g)

module _ (z : Size) (ns : List ℕ) (c : Counters) where
  abbrev U : Stepped → Type 0
  U = Up c

  abbrev M : Moved → Type 0
  M = KeepsMoved c ns

  same_up : (r : Stepped) → r.counters ≡ c → U r
  same_up r e = record { up = omega (arith, ap (λ d. d.nodes) e) }

  keeps : (ns' : List ℕ) (r : Stepped) → r.counters ≡ c → Kept c.nodes ns ns' → M (moved ns' r)
  keeps ns' r e k = record { up = omega (arith, ap (λ d. d.nodes) e); kept = k }

  still : (r : Stepped) → r.counters ≡ c → M (moved ns r)
  still r e = keeps ns r e (same_kept c.nodes ns)

  unlocks : (p : ℕ) (r : Stepped) → r.counters ≡ c → M (moved (unlocked ns p) r)
  unlocks p r e = keeps (unlocked ns p) r e (unlock_kept c.nodes ns p)

  leaves : (p q : ℕ) (r : Stepped) → r.counters ≡ c → M (moved (unlocked_both ns p q true) r)
  leaves p q r e = keeps (unlocked_both ns p q true) r e (both_kept c.nodes ns p q true)

  walk_keeps : (op : Op) (p q : ℕ) → Up c (walk_step z ns c op p q)
  unfolding walk_step
  walk_keeps op p q =
      either U (ltb q z.nodes) _ _
      (either U (ltb (key_at ns q) (sought_of op)) _ _ (same_up _ refl) (same_up _ refl))
      (same_up _ refl)

  lock_keeps : (t : ℕ) (op : Op) (n : ℕ) (here then : Phase) → M (lock_step z ns c t op n here then)
  unfolding lock_step
  lock_keeps t op n here then =
      either M (ltb n z.nodes) _ _
      (either M (free t (lock_at ns n)) _ _ (keeps (put_node ns n 3 (t + 1)) _ refl
      (put_kept c.nodes ns ns n 3 (t + 1) (omega arith) (inr (omega arith)) (same_kept c.nodes ns)))
      (still _ refl))
      (still _ refl)

  meets_keeps : (op : Op) (p q : ℕ) → M (insert_meets z ns c op p q)
  unfolding insert_meets
  meets_keeps op p q =
      either M (ltb q z.nodes) _ _
      (either M (eqb (key_at ns q) (sought_of op)) _ _ (unlocks p _ refl) (still _ refl))
      (still _ refl)

  insert_check_keeps : (op : Op) (p q : ℕ) → M (insert_check z ns c op p q)
  unfolding insert_check
  insert_check_keeps op p q =
      either M (ltb p z.nodes) _ _
      (either M (eqb (removed_at ns p) 0 && eqb (next_at ns p) q) _ _ (meets_keeps op p q) (unlocks p _ refl))
      (still _ refl)

  remove_check_keeps : (op : Op) (p q : ℕ) → M (remove_check z ns c op p q)
  unfolding remove_check
  remove_check_keeps op p q =
      either M (ltb p z.nodes && ltb q z.nodes) _ _
      (either M (linked_of ns p q) _ _
      (either M (eqb (key_at ns q) (sought_of op)) _ _ (still _ refl) (leaves p q _ refl)) (leaves p q _ refl))
      (still _ refl)

  check_keeps : (op : Op) (p q : ℕ) → M (check_step z ns c op p q)
  unfolding check_step
  check_keeps op p q = either M (removes_of op) _ _ (remove_check_keeps op p q) (insert_check_keeps op p q)

  number_keeps : (op : Op) (p y lo hi : ℕ) → Up c (number_step z c op p y lo hi)
  unfolding number_step
  number_keeps op p y lo hi =
      either U (ltb c.stamp z.updates) _ _ (record { up = omega arith }) (same_up _ refl)

  insert_link_keeps : (op : Op) (p y lo hi n : ℕ) → M (insert_link z ns c op p y lo hi n)
  unfolding insert_link
  insert_link_keeps op p y lo hi n = either M (ltb p z.nodes) _ _
      (keeps (put_node ns p 2 y) _ refl
      (put_kept c.nodes ns ns p 2 y (omega arith) (inr (omega arith)) (same_kept c.nodes ns))) (still _ refl)

  remove_link_keeps : (op : Op) (p y lo hi n : ℕ) → M (remove_link z ns c op p y lo hi n)
  unfolding remove_link
  remove_link_keeps op p y lo hi n = either M (ltb p z.nodes && ltb y z.nodes) _ _
      (keeps (put_node (put_node ns y 4 1) p 2 (next_at ns y)) _ refl
      (put_kept c.nodes ns (put_node ns y 4 1) p 2 (next_at ns y) (omega arith) (inr (omega arith))
      (put_kept c.nodes ns ns y 4 1 (omega arith) (inr (omega arith)) (same_kept c.nodes ns)))) (still _ refl)

  link_keeps : (op : Op) (p y lo hi n : ℕ) → M (link_step z ns c op p y lo hi n)
  unfolding link_step
  link_keeps op p y lo hi n =
      either M (removes_of op) _ _ (remove_link_keeps op p y lo hi n) (insert_link_keeps op p y lo hi n)

  -- the readers
  read_keeps : (op : Op) (here : Phase) (rd : Result ℕ Held) (next : ℕ → Stepped) → ((to : ℕ) → Up c (next to))
      → Up c (on_read c op here rd next)
  read_keeps op here (Err Held.Wait) next on = same_up _ refl
  read_keeps op here (Ok to) next on = on to
  read_keeps op here (Err Held.Damaged) next on = same_up _ refl

  has_keeps : (op : Op) (x to : ℕ) → Up c (has_sees z ns c op x to)
  unfolding has_sees
  has_keeps op x to =
      either U (ltb to z.nodes) _ _
      (either U (ltb (key_at ns to) (sought_of op)) _ _ (same_up _ refl)
      (either U (eqb (key_at ns to) (sought_of op)) _ _ (same_up _ refl) (same_up _ refl)))
      (same_up _ refl)

  newest_keeps : (es : List ℕ) (op : Op) (x : ℕ) → Up c (newest_step z ns es c op x)
  unfolding newest_step
  newest_keeps es op x =
      either U (ltb x z.nodes) _ _
      (read_keeps op (Phase.Newest x) (newest_of z.entries es (newest_at ns x)) _ (has_keeps op x))
      (same_up _ refl)

  range_keeps : (op : Op) (x s n to : ℕ) → Up c (range_sees z ns c op x s n to)
  unfolding range_sees
  range_keeps op x s n to =
      either U (ltb to z.nodes) _ _
      (either U (ltb (key_at ns to) (sought_of op)) _ _ (same_up _ refl)
      (either U (leb (key_at ns to) (high_of op)) _ _ (same_up _ refl) (same_up _ refl)))
      (same_up _ refl)

  follow_keeps : (es : List ℕ) (op : Op) (x s n : ℕ) → Up c (follow_step z ns es c op x s n)
  unfolding follow_step
  follow_keeps es op x s n =
      either U (ltb x z.nodes) _ _
      (read_keeps op (Phase.Follow x s n) (at_of z.entries es (newest_at ns x) s) _ (range_keeps op x s n))
      (same_up _ refl)

  hand_keeps : (op : Op) (x s n : ℕ) → Up c (hand_step z ns c op x s n)
  unfolding hand_step
  hand_keeps op x s n = either U (ltb x z.nodes && ltb n z.keys) _ _ (same_up _ refl) (same_up _ refl)

module _ (z : Size) (ns es : List ℕ) (c : Counters) where
  abbrev D : Done → Type 0
  D = Keeps c ns

  keeps_both : (ns' es' : List ℕ) (r : Stepped) → c.nodes ≤ r.counters.nodes → Kept c.nodes ns ns'
      → D (done ns' es' r)
  keeps_both ns' es' r u k = record { up = u; kept = k }

  stays : (r : Stepped) → Up c r → D (done ns es r)
  stays r u = keeps_both ns es r u.up (same_kept c.nodes ns)

  as_was : (r : Stepped) → r.counters ≡ c → D (done ns es r)
  as_was r e = stays r (same_up z ns c r e)

  -- Prepare and Finish
  insert_laid_lem : (op : Op) (p q : ℕ) → Kept c.nodes ns (put_node (put_node (new_node ns c.nodes (sought_of op)
      (value_of op) q) p 5 (c.entries + 1)) c.nodes 5 (c.entries + 1 + 1))
  insert_laid_lem op p q = put_kept c.nodes ns _ c.nodes 5 (c.entries + 1 + 1) (omega arith) (inr (omega arith))
      (put_kept c.nodes ns _ p 5 (c.entries + 1) (omega arith) (inr (omega arith))
      (new_kept c.nodes ns c.nodes (sought_of op) (value_of op) q (omega arith)))

  remove_laid_lem : (p q : ℕ) → Kept c.nodes ns (put_node (put_node ns p 5 (c.entries + 1)) q 5 (c.entries + 1 + 1))
  remove_laid_lem p q = put_kept c.nodes ns _ q 5 (c.entries + 1 + 1) (omega arith) (inr (omega arith))
      (put_kept c.nodes ns ns p 5 (c.entries + 1) (omega arith) (inr (omega arith)) (same_kept c.nodes ns))

  insert_room_keeps : (op : Op) (p q : ℕ) → D (insert_room z ns es c op p q)
  unfolding insert_room insert_laid lay_in
  insert_room_keeps op p q =
      either D (ltb z.nodes c.nodes) _ _ (as_was _ refl)
      (either D (eqb c.nodes z.nodes) _ _
      (keeps_both (unlocked ns p) es _ (omega arith) (unlock_kept c.nodes ns p))
      (either D (ltb z.entries (c.entries + 2)) _ _ (as_was _ refl)
      (keeps_both _ _ _ (omega arith) (insert_laid_lem op p q))))

  remove_room_keeps : (op : Op) (p q : ℕ) → D (remove_room z ns es c op p q)
  unfolding remove_room remove_laid lay_in
  remove_room_keeps op p q =
      either D (ltb z.nodes c.nodes || ltb z.entries (c.entries + 2)) _ _ (as_was _ refl)
      (keeps_both _ _ _ (omega arith) (remove_laid_lem p q))

  held_keeps : (op : Op) (here : Phase) (held : Result (Unit {0}) Held) (next : Done) → D next
      → D (on_held ns es c op here held next)
  held_keeps op here (Ok tt) next k = k
  held_keeps op here (Err Held.Wait) next k = as_was _ refl
  held_keeps op here (Err Held.Damaged) next k = as_was _ refl

  prepare_keeps : (op : Op) (p q : ℕ) → D (prepare_step z ns es c op p q)
  unfolding prepare_step
  prepare_keeps op p q = either D (removes_of op) _ _
      (held_keeps op (Phase.Prepare p q) (held_either z ns es p q) _ (remove_room_keeps op p q))
      (held_keeps op (Phase.Prepare p q) (held_at z ns es p) _ (insert_room_keeps op p q))

  finish_keeps : (op : Op) (p y lo hi n : ℕ) → D (finish_step z ns es c op p y lo hi n)
  unfolding finish_step
  finish_keeps op p y lo hi n = either D (usable z op p y lo hi) _ _
      (keeps_both _ _ _ (omega arith) (both_kept c.nodes ns p y (removes_of op))) (as_was _ refl)

  -- ---- any step, and any call
  act_keeps : (t : ℕ) (op : Op) (ph : Phase) → D (act_step z ns es c t op ph)
  act_keeps t op Phase.Idle = as_was _ refl
  act_keeps t op (Phase.Walk p q) = stays _ (walk_keeps z ns c op p q)
  act_keeps t op (Phase.Lock p q) =
      over_keeps c ns es _ (lock_keeps z ns c t op p (Phase.Lock p q) (locked_of op p q))
  act_keeps t op (Phase.LockCurr p q) =
      over_keeps c ns es _ (lock_keeps z ns c t op q (Phase.LockCurr p q) (Phase.Check p q))
  act_keeps t op (Phase.Check p q) = over_keeps c ns es _ (check_keeps z ns c op p q)
  act_keeps t op (Phase.Prepare p q) = prepare_keeps op p q
  act_keeps t op (Phase.Number p y lo hi) = stays _ (number_keeps z ns c op p y lo hi)
  act_keeps t op (Phase.Link p y lo hi n) = over_keeps c ns es _ (link_keeps z ns c op p y lo hi n)
  act_keeps t op (Phase.Finish p y lo hi n) = finish_keeps op p y lo hi n
  act_keeps t op (Phase.Newest x) = stays _ (newest_keeps z ns c es op x)
  act_keeps t op (Phase.Fix p) = as_was _ refl
  act_keeps t op (Phase.Follow x s n) = stays _ (follow_keeps z ns c es op x s n)
  act_keeps t op (Phase.Hand x s n) = stays _ (hand_keeps z ns c op x s n)

  step_keeps : (t : ℕ) (s : Session) → D (step_of z ns es c t s)
  unfolding step_of
  step_keeps t s =
      either D (fits z ns es) _ _
      (either D (ltb t 16) _ _
      (either D (busy_of s) _ _ (act_keeps t s.op s.phase) (as_was _ refl)) (as_was _ refl))
      (as_was _ refl)

abbrev KeepsState : State → State → Type 0
KeepsState σ τ = (used_of σ ≤ used_of τ) × Kept (used_of σ) σ.nodes τ.nodes

left_keeps : (σ : State) (t : ℕ) (o : Done) → Keeps σ.register.counters σ.nodes o
    → KeepsState σ (state_in (after_step σ.register t o))
left_keeps σ t (done ns es r) k = (k.up, k.kept)

call_keeps : (z : Size) (σ : State) (c : Call) → KeepsState σ (go z σ c)
call_keeps z σ (Call.Start who op) = (omega arith, same_kept (used_of σ) σ.nodes)
call_keeps z σ (Call.Step who) = left_keeps σ who (step_of z σ.nodes σ.entries σ.register.counters who
    (record_of σ who)) (step_keeps z σ.nodes σ.entries σ.register.counters who (record_of σ who))

-- ---- WHAT AGREES AFTER A CALL AGREED BEFORE IT
pub agree_back : (z : Size) (key val : ℕ → ℕ) (σ : State) (c : Call)
    → Agrees key val (used_of (go z σ c)) (go z σ c).nodes → Agrees key val (used_of σ) σ.nodes
agree_back z key val σ c A = let k = call_keeps z σ c in record {
  keyed = λ x x<used. sym (k.1 x 0 x<used (omega arith)) ∙ A.keyed x (omega (arith, k.0));
  valued = λ x x<used. sym (k.1 x 1 x<used (omega arith)) ∙ A.valued x (omega (arith, k.0));
}
