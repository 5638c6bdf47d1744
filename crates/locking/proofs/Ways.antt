-- Ways out of Lock and Check where nothing is damaged, over plain values: what was read and tested, and what the step
-- then is. The crates above cite them.
-- In order: Lock; an insert's Check; a remove's Check; Check. Assumes nothing.
use Prim.Native.Nat.{ℕ, ◌+◌, ◌<◌}
use mathlib.Core.Path.{◌≡◌}
use mathlib.Core.List.{List}
use mathlib.Core.Bool.{Bool, true, false}
use lib.Dec.{eqb}
use borrow.Author.Tests.{lt-ltb, eq-eqb, ne_eqb}
use Rattle.nodes.specs.Nodes.{put_node, key_at, next_at, lock_at, removed_at, unlocked_both}
use Rattle.terms.specs.Terms.{sought_of, removes_of}
use Rattle.terms.specs.declared.Size.{Size}
use Rattle.terms.specs.declared.Counters.{Counters}
use Rattle.terms.specs.declared.Op.{Op}
use Rattle.terms.specs.declared.Answer.{Answer}
use Rattle.steps.specs.declared.Phase.{Phase}
use Rattle.steps.specs.declared.Stepped.{Stepped}
use Rattle.steps.specs.Steps.{Moved, moved, works, waits, ends, free, again_of, linked_of, lock_step}
use Rattle.steps.specs.Steps.{insert_meets, insert_check, remove_check, check_step}

-- ---- Lock
module _ (z : Size) (ns : List ℕ) (c : Counters) (who : ℕ) (op : Op) (node : ℕ) (here then : Phase) (r : Stepped)
    (w : ℕ) (b : Bool) (in_table : node < z.nodes) (word : w ≡ lock_at ns node) (test : b ≡ free who w) where
  pub lock_takes : (ns' : List ℕ) → b ≡ true → ns' ≡ put_node ns node 3 (who + 1) → r ≡ works c op then
      → moved ns' r ≡ lock_step z ns c who op node here then
  unfolding lock_step
  lock_takes ns' h p e = rw (lt-ltb _ _ in_table, ← word, ← test, h, e, p)

  pub lock_waits : b ≡ false → r ≡ waits c op here → moved ns r ≡ lock_step z ns c who op node here then
  unfolding lock_step
  lock_waits h e = rw (lt-ltb _ _ in_table, ← word, ← test, h, e)

-- ---- an insert's Check
module _ (z : Size) (ns : List ℕ) (c : Counters) (op : Op) (pred curr : ℕ) where
  module _ (m : ℕ) (in_table : pred < z.nodes) (mark : m ≡ removed_at ns pred) where
    pub insert_removed : (d : Moved) → (m ≡ 0 → ⊥)
        → d ≡ moved (unlocked_both ns pred curr false) (works c op (again_of ns))
        → d ≡ insert_check z ns c op pred curr
    unfolding insert_check
    insert_removed d gone e = rw (lt-ltb _ _ in_table, ← mark, ne_eqb m 0 gone, e)

    module _ (n : ℕ) (stays : m ≡ 0) (next : n ≡ next_at ns pred) where
      pub insert_moved : (d : Moved) → (n ≡ curr → ⊥)
          → d ≡ moved (unlocked_both ns pred curr false) (works c op (again_of ns))
          → d ≡ insert_check z ns c op pred curr
      unfolding insert_check
      insert_moved d other e = rw (lt-ltb _ _ in_table, ← mark, eq-eqb m 0 stays, ← next, ne_eqb n curr other, e)

      pub insert_stands : (d : Moved) → n ≡ curr → d ≡ insert_meets z ns c op pred curr
          → d ≡ insert_check z ns c op pred curr
      unfolding insert_check
      insert_stands d linked e = rw (lt-ltb _ _ in_table, ← mark, eq-eqb m 0 stays, ← next, eq-eqb n curr linked, e)

  module _ (k s : ℕ) (curr_in : curr < z.nodes) (key : k ≡ key_at ns curr) (sought : s ≡ sought_of op) where
    pub meet_present : (d : Moved) → k ≡ s → d ≡ moved (unlocked_both ns pred curr false) (ends c Answer.Present)
        → d ≡ insert_meets z ns c op pred curr
    unfolding insert_meets
    meet_present d same e = rw (lt-ltb _ _ curr_in, ← key, ← sought, eq-eqb k s same, e)

    pub meet_goes : (r : Stepped) → (k ≡ s → ⊥) → r ≡ works c op (Phase.Prepare pred curr)
        → moved ns r ≡ insert_meets z ns c op pred curr
    unfolding insert_meets
    meet_goes r other e = rw (lt-ltb _ _ curr_in, ← key, ← sought, ne_eqb k s other, e)

-- ---- a remove's Check
module _ (ns : List ℕ) (pred curr m : ℕ) (mark : m ≡ removed_at ns pred) where
  pub linked_pred_gone : (m ≡ 0 → ⊥) → false ≡ linked_of ns pred curr
  unfolding linked_of
  linked_pred_gone gone = rw (← mark, ne_eqb m 0 gone)

  module _ (m' : ℕ) (stays : m ≡ 0) (mark' : m' ≡ removed_at ns curr) where
    pub linked_curr_gone : (m' ≡ 0 → ⊥) → false ≡ linked_of ns pred curr
    unfolding linked_of
    linked_curr_gone gone = rw (← mark, eq-eqb m 0 stays, ← mark', ne_eqb m' 0 gone)

    pub linked_next : (n : ℕ) → m' ≡ 0 → n ≡ next_at ns pred → eqb n curr ≡ linked_of ns pred curr
    unfolding linked_of
    linked_next n stays' next = rw (← mark, eq-eqb m 0 stays, ← mark', eq-eqb m' 0 stays', next)

module _ (z : Size) (ns : List ℕ) (c : Counters) (op : Op) (pred curr : ℕ) where
  module _ (b : Bool) (pred_in : pred < z.nodes) (curr_in : curr < z.nodes) (test : b ≡ linked_of ns pred curr) where
    pub remove_again : (d : Moved) → b ≡ false → d ≡ moved (unlocked_both ns pred curr true) (works c op (again_of ns))
        → d ≡ remove_check z ns c op pred curr
    unfolding remove_check
    remove_again d h e = rw (lt-ltb _ _ pred_in, lt-ltb _ _ curr_in, ← test, h, e)

    module _ (k s : ℕ) (stands : b ≡ true) (key : k ≡ key_at ns curr) (sought : s ≡ sought_of op) where
      pub remove_goes : (r : Stepped) → k ≡ s → r ≡ works c op (Phase.Prepare pred curr)
          → moved ns r ≡ remove_check z ns c op pred curr
      unfolding remove_check
      remove_goes r same e =
          rw (lt-ltb _ _ pred_in, lt-ltb _ _ curr_in, ← test, stands, ← key, ← sought, eq-eqb k s same, e)

      pub remove_absent : (d : Moved) → (k ≡ s → ⊥)
          → d ≡ moved (unlocked_both ns pred curr true) (ends c Answer.Absent)
          → d ≡ remove_check z ns c op pred curr
      unfolding remove_check
      remove_absent d other e =
          rw (lt-ltb _ _ pred_in, lt-ltb _ _ curr_in, ← test, stands, ← key, ← sought, ne_eqb k s other, e)

-- ---- Check, by the operation
module _ (z : Size) (ns : List ℕ) (c : Counters) (op : Op) (pred curr : ℕ) (b : Bool) (test : b
    ≡ removes_of op) (d : Moved) where
  pub check_remove : b ≡ true → d ≡ remove_check z ns c op pred curr → d ≡ check_step z ns c op pred curr
  unfolding check_step
  check_remove h e = rw (← test, h, e)

  pub check_insert : b ≡ false → d ≡ insert_check z ns c op pred curr → d ≡ check_step z ns c op pred curr
  unfolding check_step
  check_insert h e = rw (← test, h, e)
