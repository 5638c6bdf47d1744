-- Ways out of the steps that write nothing, where nothing is damaged, over plain values: what was read and tested, and
-- what the step then is. The crates above cite them.
-- In order: Walk; has's Follow; Follow; Hand. Assumes nothing.
use Rattle.std.specs.Prelude.{Result, Ok, Err}
use Prim.Native.Nat.{ℕ, ◌+◌, ◌≤◌, ◌<◌}
use mathlib.Core.Path.{◌≡◌}
use mathlib.Core.List.{List}
use borrow.Author.Tests.{lt-ltb, le-ltb, le-leb, lt-leb, eq-eqb, ne_eqb}
use Rattle.bundle.specs.Bundle.{at_of, newest_of}
use Rattle.bundle.specs.declared.Held.{Held}
use Rattle.nodes.specs.Nodes.{key_at, value_at, next_at, newest_at}
use Rattle.terms.specs.Terms.{sought_of, high_of}
use Rattle.terms.specs.declared.Size.{Size}
use Rattle.terms.specs.declared.Counters.{Counters}
use Rattle.terms.specs.declared.Op.{Op}
use Rattle.terms.specs.declared.Answer.{Answer}
use Rattle.steps.specs.declared.Phase.{Phase}
use Rattle.steps.specs.declared.Stepped.{Stepped}
use Rattle.steps.specs.Steps.{arrived_of, gives, works, waits, ends, walk_step, has_sees, newest_step}
use Rattle.steps.specs.Steps.{range_sees}
use Rattle.steps.specs.Steps.{follow_step, hand_step}

-- ---- Walk
module _ (z : Size) (ns : List ℕ) (c : Counters) (op : Op) (pred curr : ℕ) (r : Stepped) where
  pub walk_on : (k s n : ℕ) → curr < z.nodes → k ≡ key_at ns curr → s ≡ sought_of op → k < s → n ≡ next_at ns curr
      → r ≡ works c op (Phase.Walk curr n) → r ≡ walk_step z ns c op pred curr
  unfolding walk_step
  walk_on k s n in_table hk hs below hn e = rw (lt-ltb _ _ in_table, ← hk, ← hs, lt-ltb k s below, e, hn)

  pub walk_arrives : (k s : ℕ) (p : Phase) → curr < z.nodes → k ≡ key_at ns curr → s ≡ sought_of op → s ≤ k
      → p ≡ arrived_of op pred curr → r ≡ works c op p → r ≡ walk_step z ns c op pred curr
  unfolding walk_step
  walk_arrives k s p in_table hk hs reached hp e = rw (lt-ltb _ _ in_table, ← hk, ← hs, le-ltb k s reached, e, hp)

-- ---- has's Follow
module _ (z : Size) (ns : List ℕ) (c : Counters) (op : Op) (at to : ℕ) (r : Stepped) where
  module _ (k s : ℕ) (in_table : to < z.nodes) (key : k ≡ key_at ns to) (sought : s ≡ sought_of op) where
    pub has_on : k < s → r ≡ works c op (Phase.Newest to) → r ≡ has_sees z ns c op at to
    unfolding has_sees
    has_on below e = rw (lt-ltb _ _ in_table, ← key, ← sought, lt-ltb k s below, e)

    pub has_yes : s ≤ k → k ≡ s → r ≡ ends c Answer.Present → r ≡ has_sees z ns c op at to
    unfolding has_sees
    has_yes reached same e = rw (lt-ltb _ _ in_table, ← key, ← sought, le-ltb k s reached, eq-eqb k s same, e)

    pub has_not : s ≤ k → (k ≡ s → ⊥) → r ≡ ends c Answer.Absent → r ≡ has_sees z ns c op at to
    unfolding has_sees
    has_not reached other e = rw (lt-ltb _ _ in_table, ← key, ← sought, le-ltb k s reached, ne_eqb k s other, e)

module _ (z : Size) (ns es : List ℕ) (c : Counters) (op : Op) (at : ℕ) (r : Stepped) where
  module _ (f : ℕ) (o : Result ℕ Held) (in_table : at < z.nodes) (link : f ≡ newest_at ns at)
      (read : o ≡ newest_of z.entries es f) where
    pub newest_waits : o ≡ Err Held.Wait → r ≡ waits c op (Phase.Newest at) → r ≡ newest_step z ns es c op at
    unfolding newest_step
    newest_waits h e = rw (lt-ltb _ _ in_table, ← link, ← read, h, e)

    pub newest_leads : (to : ℕ) → o ≡ Ok to → r ≡ has_sees z ns c op at to → r ≡ newest_step z ns es c op at
    unfolding newest_step
    newest_leads to h e = rw (lt-ltb _ _ in_table, ← link, ← read, h, e)

-- ---- Follow
module _ (z : Size) (ns : List ℕ) (c : Counters) (op : Op) (at snapshot handed to : ℕ) (r : Stepped) where
  module _ (k s : ℕ) (in_table : to < z.nodes) (key : k ≡ key_at ns to) (sought : s ≡ sought_of op) where
    pub range_on : k < s → r ≡ works c op (Phase.Follow to snapshot handed)
        → r ≡ range_sees z ns c op at snapshot handed to
    unfolding range_sees
    range_on below e = rw (lt-ltb _ _ in_table, ← key, ← sought, lt-ltb k s below, e)

    pub range_in : (h : ℕ) → s ≤ k → h ≡ high_of op → k ≤ h → r ≡ works c op (Phase.Hand to snapshot handed)
        → r ≡ range_sees z ns c op at snapshot handed to
    unfolding range_sees
    range_in h reached high low e =
        rw (lt-ltb _ _ in_table, ← key, ← sought, le-ltb k s reached, ← high, le-leb k h low, e)

    pub range_ends : (h : ℕ) → s ≤ k → h ≡ high_of op → h < k → r ≡ ends c (Answer.End snapshot handed)
        → r ≡ range_sees z ns c op at snapshot handed to
    unfolding range_sees
    range_ends h reached high above e =
        rw (lt-ltb _ _ in_table, ← key, ← sought, le-ltb k s reached, ← high, lt-leb k h above, e)

module _ (z : Size) (ns es : List ℕ) (c : Counters) (op : Op) (at snapshot handed : ℕ) (r : Stepped) where
  module _ (f : ℕ) (o : Result ℕ Held) (in_table : at < z.nodes) (link : f ≡ newest_at ns at)
      (read : o ≡ at_of z.entries es f snapshot) where
    pub follow_waits : o ≡ Err Held.Wait → r ≡ waits c op (Phase.Follow at snapshot handed)
        → r ≡ follow_step z ns es c op at snapshot handed
    unfolding follow_step
    follow_waits h e = rw (lt-ltb _ _ in_table, ← link, ← read, h, e)

    pub follow_leads : (to : ℕ) → o ≡ Ok to → r ≡ range_sees z ns c op at snapshot handed to
        → r ≡ follow_step z ns es c op at snapshot handed
    unfolding follow_step
    follow_leads to h e = rw (lt-ltb _ _ in_table, ← link, ← read, h, e)

-- ---- Hand
module _ (z : Size) (ns : List ℕ) (c : Counters) (op : Op) (at snapshot handed : ℕ) (r : Stepped) where
  pub hands : (k v : ℕ) → at < z.nodes → handed < z.keys → k ≡ key_at ns at → v ≡ value_at ns at
      → r ≡ gives c op (Phase.Follow at snapshot (handed + 1)) (Answer.Key k v)
      → r ≡ hand_step z ns c op at snapshot handed
  unfolding hand_step
  hands k v in_table few hk hv e = rw (lt-ltb _ _ in_table, lt-ltb _ _ few, e, hk, hv)
