-- The steps of session 0's insert where nothing is in its way: each phase over plain values.
-- In order: a start and a step of session 0; Walk; Lock; Check; Prepare; Number; Link; Finish.
-- Not here: which tables are so (Filed). Assumes nothing.
use Rattle.std.specs.Prelude.{Ok}
use Prim.Native.Nat.{ℕ, zero, suc, ◌+◌, ◌≤◌, ◌<◌}
use mathlib.Core.Path.{◌≡◌, refl, ◌∙◌}
use mathlib.Core.Logic.{◌≢◌}
use mathlib.Core.Bool.{true}
use mathlib.Core.List.{List, [], ◌∷◌}
use native.Mathlib.Omega.{arith}
use lib.ListN.{replicate}
use borrow.Author.Tests.{lt-ltb, le-ltb, ne_eqb}
use Rattle.bundle.specs.Bundle.{finish_of}
use Rattle.bundle.specs.declared.Held.{Held}
use Rattle.nodes.specs.Nodes.{put_node, key_at, next_at, lock_at, removed_at, unlocked}
use Rattle.terms.specs.Terms.{tail_key, out_of_bounds}
use Rattle.terms.specs.declared.Size.{Size}
use Rattle.terms.specs.declared.Counters.{Counters}
use Rattle.terms.specs.declared.Op.{Op}
use Rattle.terms.specs.declared.Answer.{Answer}
use Rattle.steps.specs.declared.Phase.{Phase}
use Rattle.steps.specs.declared.Session.{Session}
use Rattle.steps.specs.declared.Stepped.{Stepped}
use Rattle.steps.specs.Steps.{done, tables, idle, busy_of, works, counted, raised, walk_step, free, lock_step}
use Rattle.steps.specs.Steps.{insert_meets, insert_check, check_step, insert_laid, held_at, insert_room, prepare_step}
use Rattle.steps.specs.Steps.{number_step, insert_link, link_step, usable, finish_step, act_step, ends}
use Rattle.register.specs.Register.{fits, bad_key, began, start_of, step_of}
use Rattle.sixteen.specs.declared.Call.{Call}
use Rattle.sixteen.specs.Sixteen.{Left, served, session_of}
use Rattle.reached.specs.Reached.{under_by, called}
use Rattle.reached.proofs.History.{at_same, under_other}
use Rattle.loaded.specs.Calls.{alone, Goes}
use Rattle.loaded.proofs.Goes.{quiet_call, number_call}
use Rattle.order.specs.Set.{insert}

-- session 0's record
abbrev pub at : ℕ → ℕ → Phase → Session
at k v phase = record { op = Op.Insert k v; phase = phase }

-- what a call of session 0 leaves
abbrev left : List ℕ → List ℕ → Counters → Session → Answer → Left
left ns es c s a =
    served ns es (record { register = record { counters = c; sessions = s ∷ replicate 15 idle }; answer = a })

-- all other sessions are idle, before it and after it
abbrev op_alone : Session → ℕ → Op
op_alone s who = (session_of (s ∷ replicate 15 idle) who).op

alone_tells : (asked : Op) (s s' : Session) (a : Answer) →
    ((f : ℕ → Op) → f 0 ≡ s.op → under_by a 0 asked f 0 ≡ s'.op) →
    (f : ℕ → Op) → ((who : ℕ) → f who ≡ op_alone s who) → (who : ℕ) → under_by a 0 asked f who ≡ op_alone s' who
alone_tells asked s s' a own f e zero = own f (e 0)
alone_tells asked s s' a own f e (suc i) = under_other a 0 asked f (suc i) (λ z. omega arith) ∙ e (suc i)

module _ (z : Size) (ns es : List ℕ) (c : Counters) (fit : fits z ns es ≡ true) where
  -- ---- the start
  started : (k v : ℕ) → 0 < k → k < tail_key →
      called z (alone ns es c idle) (Call.Start 0 (Op.Insert k v)) ≡
      left ns es c (at k v (Phase.Walk 0 (next_at ns 0))) Answer.Started
  unfolding start_of began bad_key out_of_bounds
  started k v low high =
      rw (
        fit,
        ne_eqb k 0 (λ e. omega arith),
        ne_eqb k tail_key (λ e. omega arith),
        le-ltb k k (omega arith),
      )

  pub starts : (k v : ℕ) → 0 < k → k < tail_key →
      Goes z (alone ns es c idle) (Call.Start 0 (Op.Insert k v) ∷ [])
      (alone ns es c (at k v (Phase.Walk 0 (next_at ns 0)))) (Answer.Started ∷ []) []
  starts k v low high =
      quiet_call z (alone ns es c idle) (Call.Start 0 (Op.Insert k v))
      (left ns es c (at k v (Phase.Walk 0 (next_at ns 0))) Answer.Started) (started k v low high)
      (alone_tells (Op.Insert k v) idle (at k v (Phase.Walk 0 (next_at ns 0))) Answer.Started
      (λ f _. at_same f 0 (Op.Insert k v))) refl

  -- ---- a step
  module _ (s : Session) (busy : busy_of s ≡ true) (ns' es' : List ℕ) (r : Stepped)
      (acts : act_step z ns es c 0 s.op s.phase ≡ done ns' es' r) where
    stepped : called z (alone ns es c s) (Call.Step 0) ≡ left ns' es' r.counters r.session r.answer
    unfolding step_of
    stepped = rw (fit, busy, acts)

    -- whoever follows the answers knows what session 0 runs then
    abbrev pub Followed : Type 0
    Followed = (f : ℕ → Op) → f 0 ≡ s.op → under_by r.answer 0 Op.None f 0 ≡ r.session.op

    pub steps_on : Followed → r.counters.stamp ≡ c.stamp →
        Goes z (alone ns es c s) (Call.Step 0 ∷ []) (alone ns' es' r.counters r.session) (r.answer ∷ []) []
    steps_on own same =
        quiet_call z (alone ns es c s) (Call.Step 0) (left ns' es' r.counters r.session r.answer) stepped
        (alone_tells Op.None s r.session r.answer own) same

    pub steps_numbered : Followed → (k v : ℕ) → s.op ≡ Op.Insert k v → c.stamp < r.counters.stamp →
        Goes z (alone ns es c s) (Call.Step 0 ∷ []) (alone ns' es' r.counters r.session) (r.answer ∷ [])
        (insert k v ∷ [])
    steps_numbered own k v op up =
        number_call z (alone ns es c s) (Call.Step 0) (left ns' es' r.counters r.session r.answer) stepped
        (alone_tells Op.None s r.session r.answer own) k v op up

-- ---- each phase
module _ (z : Size) (ns es : List ℕ) (c : Counters) (k v p : ℕ) where
  abbrev op : Op
  op = Op.Insert k v

  pub walk_moves : (curr : ℕ) → curr < z.nodes → key_at ns curr < k →
      walk_step z ns c op p curr ≡ works c op (Phase.Walk curr (next_at ns curr))
  unfolding walk_step
  walk_moves curr in_table low = rw (lt-ltb _ _ in_table, lt-ltb _ _ low)

  pub walk_arrives : (curr : ℕ) → curr < z.nodes → k ≤ key_at ns curr →
      walk_step z ns c op p curr ≡ works c op (Phase.Lock p curr)
  unfolding walk_step
  walk_arrives curr in_table high = rw (lt-ltb _ _ in_table, le-ltb _ _ high)

  module _ (in_table : p < z.nodes) where
    pub locks : lock_at ns p ≡ 0 →
        act_step z ns es c 0 op (Phase.Lock p 1) ≡ done (put_node ns p 3 1) es (works c op (Phase.Check p 1))
    unfolding lock_step free
    locks unlocked = rw (lt-ltb _ _ in_table, unlocked)

    pub checks : removed_at ns p ≡ 0 → next_at ns p ≡ 1 → 1 < z.nodes → key_at ns 1 ≢ k →
        act_step z ns es c 0 op (Phase.Check p 1) ≡ done ns es (works c op (Phase.Prepare p 1))
    unfolding check_step insert_check insert_meets
    checks kept next tail other =
        rw (lt-ltb _ _ in_table, kept, next, lt-ltb _ _ tail, ne_eqb _ _ other)

    pub prepares : held_at z ns es p ≡ Ok tt → c.nodes < z.nodes → c.entries + 2 ≤ z.entries →
        (ns' es' : List ℕ) → insert_laid ns es c op p 1 ≡ tables ns' es' →
        act_step z ns es c 0 op (Phase.Prepare p 1) ≡
        done ns' es'
        (works (counted c (c.nodes + 1)) op (Phase.Number p c.nodes c.entries (c.entries + 1)))
    unfolding prepare_step insert_room
    prepares free room_nodes room_entries ns' es' laid =
        rw (
          free,
          le-ltb z.nodes c.nodes (omega arith),
          ne_eqb c.nodes z.nodes (λ e. omega arith),
          le-ltb z.entries (c.entries + 2) room_entries,
          laid,
        )

    pub links : (n lower upper number : ℕ) →
        act_step z ns es c 0 op (Phase.Link p n lower upper number) ≡
        done (put_node ns p 2 n) es (works c op (Phase.Finish p n lower upper number))
    unfolding link_step insert_link
    links n lower upper number = rw (lt-ltb _ _ in_table)

    pub finishes : (n lower upper number : ℕ) → lower < z.entries → upper < z.entries →
        act_step z ns es c 0 op (Phase.Finish p n lower upper number) ≡
        done (unlocked ns p) (finish_of (finish_of es lower number) upper number) (ends c (Answer.Inserted number))
    unfolding finish_step usable
    finishes n lower upper number low high = rw (lt-ltb _ _ low, lt-ltb _ _ high, lt-ltb _ _ in_table)

  pub numbers : (n lower upper : ℕ) → c.stamp < z.updates →
      act_step z ns es c 0 op (Phase.Number p n lower upper) ≡
      done ns es (works (raised c) op (Phase.Link p n lower upper (c.stamp + 1)))
  unfolding number_step
  numbers n lower upper room = rw (lt-ltb _ _ room)
