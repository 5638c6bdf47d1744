-- Ways out of Number, Link and Finish where no test fails, over plain values: what was read and tested, and what the
-- step then is. The crates above cite them.
-- In order: Number; Link; Finish. Assumes nothing.
use Prim.Native.Nat.{ℕ, ◌+◌, ◌<◌}
use mathlib.Core.Path.{◌≡◌}
use mathlib.Core.List.{List}
use mathlib.Core.Bool.{Bool, true, false}
use lib.Dec.{ltb}
use borrow.Author.Tests.{lt-ltb}
use Rattle.bundle.specs.Bundle.{finish_of}
use Rattle.nodes.specs.Nodes.{put_node, next_at, unlocked_both}
use Rattle.terms.specs.Terms.{removes_of}
use Rattle.terms.specs.declared.Size.{Size}
use Rattle.terms.specs.declared.Counters.{Counters}
use Rattle.terms.specs.declared.Op.{Op}
use Rattle.terms.specs.declared.Answer.{Answer}
use Rattle.steps.specs.declared.Phase.{Phase}
use Rattle.steps.specs.declared.Stepped.{Stepped}
use Rattle.steps.specs.Steps.{done, Moved, moved, works, ends, raised, number_step, insert_link}
use Rattle.steps.specs.Steps.{remove_link, link_step, finished_of, usable, finish_step}

-- ---- Number
module _ (z : Size) (c : Counters) (op : Op) (pred node lower upper : ℕ) (r : Stepped) where
  pub numbers : c.stamp < z.updates → r ≡ works (raised c) op (Phase.Link pred node lower upper (c.stamp + 1))
      → r ≡ number_step z c op pred node lower upper
  unfolding number_step
  numbers few e = rw (lt-ltb _ _ few, e)

-- ---- Link
module _ (z : Size) (ns : List ℕ) (c : Counters) (op : Op) (pred node lower upper number : ℕ) where
  pub insert_links : (r : Stepped) (ns' : List ℕ) → pred < z.nodes → ns' ≡ put_node ns pred 2 node
      → r ≡ works c op (Phase.Finish pred node lower upper number)
      → moved ns' r ≡ insert_link z ns c op pred node lower upper number
  unfolding insert_link
  insert_links r ns' in_table p e = rw (lt-ltb _ _ in_table, p, e)

  pub remove_links : (r : Stepped) (n : ℕ) (ns₁ ns₂ : List ℕ) → pred < z.nodes → node < z.nodes → n ≡ next_at ns node
      → ns₁ ≡ put_node ns node 4 1 → ns₂ ≡ put_node ns₁ pred 2 n
      → r ≡ works c op (Phase.Finish pred node lower upper number)
      → moved ns₂ r ≡ remove_link z ns c op pred node lower upper number
  unfolding remove_link
  remove_links r n ns₁ ns₂ pred_in node_in next p q e = rw (lt-ltb _ _ pred_in, lt-ltb _ _ node_in, q, p, e, next)

  module _ (b : Bool) (test : b ≡ removes_of op) (d : Moved) where
    pub link_remove : b ≡ true → d ≡ remove_link z ns c op pred node lower upper number
        → d ≡ link_step z ns c op pred node lower upper number
    unfolding link_step
    link_remove h e = rw (← test, h, e)

    pub link_insert : b ≡ false → d ≡ insert_link z ns c op pred node lower upper number
        → d ≡ link_step z ns c op pred node lower upper number
    unfolding link_step
    link_insert h e = rw (← test, h, e)

-- ---- Finish
module _ (z : Size) (op : Op) (pred node lower upper : ℕ) (lower_in : lower < z.entries)
    (upper_in : upper < z.entries) (pred_in : pred < z.nodes) (b : Bool) (test : b ≡ removes_of op) where
  pub usable_remove : b ≡ true → ltb node z.nodes ≡ usable z op pred node lower upper
  unfolding usable
  usable_remove h = rw (lt-ltb _ _ lower_in, lt-ltb _ _ upper_in, lt-ltb _ _ pred_in, ← test, h)

  pub usable_insert : b ≡ false → true ≡ usable z op pred node lower upper
  unfolding usable
  usable_insert h = rw (lt-ltb _ _ lower_in, lt-ltb _ _ upper_in, lt-ltb _ _ pred_in, ← test, h)

module _ (z : Size) (ns es : List ℕ) (c : Counters) (op : Op) (pred node lower upper number : ℕ) (b : Bool)
    (test : b ≡ usable z op pred node lower upper) (r : Stepped) where
  pub finishes : (ns' es₁ es₂ : List ℕ) (two : Bool) (a : Answer) → b ≡ true → es₁ ≡ finish_of es lower number
      → es₂ ≡ finish_of es₁ upper number → two ≡ removes_of op → ns' ≡ unlocked_both ns pred node two
      → a ≡ finished_of op number → r ≡ ends c a
      → done ns' es₂ r ≡ finish_step z ns es c op pred node lower upper number
  unfolding finish_step
  finishes ns' es₁ es₂ two a h p q w u k e = rw (← test, h, e, k, u, w, q, p)
