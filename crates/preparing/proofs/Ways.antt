-- Ways out of Prepare where nothing is damaged, over plain values: what was read and tested, and what the step then
-- is. The crates above cite them.
-- In order: is a newest entry pending; laying; room; Prepare. Assumes nothing.
use Rattle.std.specs.Prelude.{Result, Ok, Err}
use Prim.Native.Nat.{ℕ, ◌+◌, ◌≤◌, ◌<◌}
use mathlib.Core.Path.{◌≡◌}
use mathlib.Core.List.{List}
use mathlib.Core.Bool.{Bool, true, false}
use borrow.Author.Tests.{lt-ltb, le-ltb, eq-eqb, ne_eqb}
use Rattle.bundle.specs.Bundle.{held_of, lay_of}
use Rattle.bundle.specs.declared.Held.{Held}
use Rattle.nodes.specs.Nodes.{put_node, newest_at, unlocked}
use Rattle.terms.specs.Terms.{removes_of}
use Rattle.terms.specs.declared.Size.{Size}
use Rattle.terms.specs.declared.Counters.{Counters}
use Rattle.terms.specs.declared.Op.{Op}
use Rattle.terms.specs.declared.Answer.{Answer}
use Rattle.terms.specs.declared.Refusal.{Refusal}
use Rattle.steps.specs.declared.Phase.{Phase}
use Rattle.steps.specs.declared.Stepped.{Stepped}
use Rattle.steps.specs.Steps.{Done, done, tables, works, waits, ends, counted, held_at}
use Rattle.steps.specs.Steps.{held_either, lay_in, insert_laid, remove_laid, insert_room, remove_room}
use Rattle.steps.specs.Steps.{insert_prepare, remove_prepare, prepare_step}

-- ---- is a newest entry pending
module _ (z : Size) (ns es : List ℕ) (node : ℕ) where
  pub held_is : (h : Result (Unit {0}) Held) (f : ℕ) → node < z.nodes → f ≡ newest_at ns node
      → h ≡ held_of z.entries es f → h ≡ held_at z ns es node
  unfolding held_at
  held_is h f in_table link e = rw (lt-ltb _ _ in_table, e, link)

module _ (z : Size) (ns es : List ℕ) (pred curr : ℕ) (a : Result (Unit {0}) Held)
    (first : a ≡ held_at z ns es pred) where
  pub either_free : (b : Result (Unit {0}) Held) → a ≡ Ok tt → b ≡ held_at z ns es curr
      → b ≡ held_either z ns es pred curr
  either_free b e h = rw (← first, e, h)

  pub either_waits : a ≡ Err Held.Wait → Err Held.Wait ≡ held_either z ns es pred curr
  either_waits e = rw (← first, e)

-- ---- laying
pub lays : (ns ns' es es' : List ℕ) (node e target stamp o : ℕ) → o ≡ newest_at ns node
    → es' ≡ lay_of es e target stamp o
    → ns' ≡ put_node ns node 5 (e + 1) → tables ns' es' ≡ lay_in node e target stamp (tables ns es)
unfolding lay_in
lays ns ns' es es' node e target stamp o older h p = rw (h, p, older)

-- ---- room
module _ (z : Size) (ns es : List ℕ) (c : Counters) (op : Op) (pred curr : ℕ) (r : Stepped) where
  pub insert_full : (ns' : List ℕ) → c.nodes ≤ z.nodes → c.nodes ≡ z.nodes → ns' ≡ unlocked ns pred
      → r ≡ ends c (Answer.Refused Refusal.Full) → done ns' es r ≡ insert_room z ns es c op pred curr
  unfolding insert_room
  insert_full ns' few all p e = rw (le-ltb _ _ few, eq-eqb _ _ all, e, p)

  pub insert_lays : (ns' es' : List ℕ) → c.nodes ≤ z.nodes → (c.nodes ≡ z.nodes → ⊥) → c.entries + 2 ≤ z.entries
      → tables ns' es' ≡ insert_laid ns es c op pred curr
      → r ≡ works (counted c (c.nodes + 1)) op (Phase.Number pred c.nodes c.entries (c.entries + 1))
      → done ns' es' r ≡ insert_room z ns es c op pred curr
  unfolding insert_room
  insert_lays ns' es' few left two t e = rw (le-ltb _ _ few, ne_eqb _ _ left, le-ltb _ _ two, ← t, e)

  pub remove_lays : (ns' es' : List ℕ) → c.nodes ≤ z.nodes → c.entries + 2 ≤ z.entries
      → tables ns' es' ≡ remove_laid ns es c pred curr
      → r ≡ works (counted c c.nodes) op (Phase.Number pred curr c.entries (c.entries + 1))
      → done ns' es' r ≡ remove_room z ns es c op pred curr
  unfolding remove_room
  remove_lays ns' es' few two t e = rw (le-ltb _ _ few, le-ltb _ _ two, ← t, e)

-- ---- Prepare
module _ (z : Size) (ns es : List ℕ) (c : Counters) (op : Op) (pred curr : ℕ) (h : Result (Unit {0}) Held) where
  module _ (test : h ≡ held_at z ns es pred) where
    pub insert_waits : (r : Stepped) → h ≡ Err Held.Wait → r ≡ waits c op (Phase.Prepare pred curr)
        → done ns es r ≡ insert_prepare z ns es c op pred curr
    insert_waits r e w = rw (← test, e, w)

    pub insert_free : (d : Done) → h ≡ Ok tt → d ≡ insert_room z ns es c op pred curr
        → d ≡ insert_prepare z ns es c op pred curr
    insert_free d e w = rw (← test, e, w)

  module _ (test : h ≡ held_either z ns es pred curr) where
    pub remove_waits : (r : Stepped) → h ≡ Err Held.Wait → r ≡ waits c op (Phase.Prepare pred curr)
        → done ns es r ≡ remove_prepare z ns es c op pred curr
    remove_waits r e w = rw (← test, e, w)

    pub remove_free : (d : Done) → h ≡ Ok tt → d ≡ remove_room z ns es c op pred curr
        → d ≡ remove_prepare z ns es c op pred curr
    remove_free d e w = rw (← test, e, w)

module _ (z : Size) (ns es : List ℕ) (c : Counters) (op : Op) (pred curr : ℕ) (b : Bool) (test : b
    ≡ removes_of op) (d : Done) where
  pub prepare_remove : b ≡ true → d ≡ remove_prepare z ns es c op pred curr → d ≡ prepare_step z ns es c op pred curr
  unfolding prepare_step
  prepare_remove h e = rw (← test, h, e)

  pub prepare_insert : b ≡ false → d ≡ insert_prepare z ns es c op pred curr → d ≡ prepare_step z ns es c op pred curr
  unfolding prepare_step
  prepare_insert h e = rw (← test, h, e)
