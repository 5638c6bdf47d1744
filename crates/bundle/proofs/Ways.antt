-- What the definitions are of a link that names no entry, and of one whose entry's words are known; and rule B3's
-- loop. The checks of the bundle's functions take the loop's laws (`scanned`), proofs/Promise.antt the others.
-- In order: no entry; an entry; rule B3's loop. Assumes nothing.
use Rattle.std.specs.Prelude.{Ok, Err}
use Prim.Native.Nat.{ℕ, zero, suc, ◌+◌, ◌-◌, ◌≤◌, ◌<◌}
use mathlib.Core.Path.{◌≡◌, ◌∙◌}
use mathlib.Core.List.{List}
use mathlib.Core.Bool.{false}
use lib.Dec.{ltb}
use native.Mathlib.Omega.{arith}
use borrow.Author.Tests.{le-leb, lt-leb, eq-eqb, ne_eqb}
use Rattle.bundle.specs.Bundle.{word_at, look_of, go_on, scan_of, holds_up, at_of, newest_of, held_of}
use Rattle.bundle.specs.declared.Held.{Held}
use Rattle.bundle.specs.declared.Look.{Look}

-- ---- a link that names no entry
module _ (size : ℕ) (es : List ℕ) (link s : ℕ) where
  pub look_none : link ≡ 0 → Err Held.Damaged ≡ look_of size es link s
  unfolding look_of
  look_none none = simp (eq-eqb link 0 none)

  pub up_none : link ≡ 0 → false ≡ holds_up size es link s
  unfolding holds_up
  up_none none = simp (eq-eqb link 0 none)

  pub newest_none : link ≡ 0 → Err Held.Damaged ≡ newest_of size es link
  unfolding newest_of
  newest_none none = simp (eq-eqb link 0 none)

  pub held_none : link ≡ 0 → Ok tt ≡ held_of size es link
  unfolding held_of
  held_none none = simp (eq-eqb link 0 none)

-- ---- a link that names one, whose pending word is p
module _ (size : ℕ) (es : List ℕ) (link s : ℕ) (some : link ≡ 0 → ⊥) (within : link ≤ size) (p : ℕ)
    (word : p ≡ word_at es (link - 1) 2) where
  pub look_taken : (st t : ℕ) → p ≡ 0 → st ≡ word_at es (link - 1) 1 → st ≤ s → t ≡ word_at es (link - 1) 0
      → Ok (Look.Taken t) ≡ look_of size es link s
  unfolding look_of
  look_taken st t final hs low ht =
      simp (ne_eqb link 0 some, le-leb link size within, ← word, eq-eqb p 0 final, ← hs, le-leb st s low, ht)

  pub look_above : (st o : ℕ) → p ≡ 0 → st ≡ word_at es (link - 1) 1 → s < st → o ≡ word_at es (link - 1) 3
      → Ok (Look.Passed o) ≡ look_of size es link s
  unfolding look_of
  look_above st o final hs high ho =
      simp (ne_eqb link 0 some, le-leb link size within, ← word, eq-eqb p 0 final, ← hs, lt-leb st s high, ho)

  pub look_pending : (o : ℕ) → (p ≡ 0 → ⊥) → o ≡ word_at es (link - 1) 3 → Ok (Look.Passed o) ≡ look_of size es link s
  unfolding look_of
  look_pending o pends ho =
      simp (ne_eqb link 0 some, le-leb link size within, ← word, ne_eqb p 0 pends, ho)

  pub up_final : p ≡ 0 → false ≡ holds_up size es link s
  unfolding holds_up
  up_final final = simp (ne_eqb link 0 some, le-leb link size within, ← word, eq-eqb p 0 final)

  pub up_pending : (c : ℕ) → (p ≡ 0 → ⊥) → c ≡ word_at es (link - 1) 1 → ltb c s ≡ holds_up size es link s
  unfolding holds_up
  up_pending c pends hc =
      simp (ne_eqb link 0 some, le-leb link size within, ← word, ne_eqb p 0 pends, hc)

  pub newest_final : (t : ℕ) → p ≡ 0 → t ≡ word_at es (link - 1) 0 → Ok t ≡ newest_of size es link
  unfolding newest_of
  newest_final t final ht =
      simp (ne_eqb link 0 some, le-leb link size within, ← word, eq-eqb p 0 final, ht)

  pub newest_pending : (p ≡ 0 → ⊥) → Err Held.Wait ≡ newest_of size es link
  unfolding newest_of
  newest_pending pends = simp (ne_eqb link 0 some, le-leb link size within, ← word, ne_eqb p 0 pends)

  pub held_final : p ≡ 0 → Ok tt ≡ held_of size es link
  unfolding held_of
  held_final final = simp (ne_eqb link 0 some, le-leb link size within, ← word, eq-eqb p 0 final)

  pub held_pending : (p ≡ 0 → ⊥) → Err Held.Wait ≡ held_of size es link
  unfolding held_of
  held_pending pends = simp (ne_eqb link 0 some, le-leb link size within, ← word, ne_eqb p 0 pends)

-- ---- rule B3's loop: a scan of some entries is one look and a scan of one entry less
scan_suc : (left size : ℕ) (es : List ℕ) (link s : ℕ) → 0 < left
    → scan_of left size es link s ≡ go_on (look_of size es link s) (λ older. scan_of (left - 1) size es older s)
unfolding scan_of
scan_suc zero size es link s some = absurd (omega arith)
scan_suc (suc left) size es link s some = let e : suc left - 1 ≡ left = omega arith in rw e

module _ (size : ℕ) (es : List ℕ) (newest s k link : ℕ)
    (inv : at_of size es newest s ≡ scan_of (size - k) size es link s) where
  one_look : k < size
      → at_of size es newest s ≡ go_on (look_of size es link s) (λ older. scan_of (size - k - 1) size es older s)
  one_look more = inv ∙ scan_suc (size - k) size es link s (omega arith)

  pub at_taken : (t : ℕ) → k < size → Ok (Look.Taken t) ≡ look_of size es link s → Ok t ≡ at_of size es newest s
  at_taken t more l = rw (one_look more, ← l)

  pub at_broken : (why : Held) → k < size → Err why ≡ look_of size es link s → Err why ≡ at_of size es newest s
  at_broken why more l = rw (one_look more, ← l)

  pub at_on : (older : ℕ) → k < size → Ok (Look.Passed older) ≡ look_of size es link s
      → at_of size es newest s ≡ scan_of (size - (k + 1)) size es older s
  at_on older more l = let e : size - (k + 1) ≡ size - k - 1 = omega arith in rw (one_look more, ← l, e)

  pub at_ended : size ≤ k → Err Held.Damaged ≡ at_of size es newest s
  unfolding scan_of
  at_ended none = let e : size - k ≡ 0 = omega arith in rw (inv, e)

pub ruleset scanned = (at_taken, at_broken, at_on, at_ended)
