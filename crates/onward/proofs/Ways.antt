-- Each way on and out of the loops that walk on and hand out, over plain values.
-- `all` is what the whole loop leaves. Assumes nothing.
use Prim.Native.Nat.{ℕ, zero, suc, ◌+◌, ◌-◌, ◌≤◌, ◌<◌}
use mathlib.Core.Path.{◌≡◌, refl}
use mathlib.Core.List.{List}
use native.Mathlib.Decide.{dec_lt}
use native.Mathlib.Omega.{arith}
use borrow.Author.Tests.{le-ltb}
use Rattle.nodes.specs.Nodes.{key_at, value_at}
use Rattle.terms.specs.Terms.{small}
use Rattle.terms.specs.declared.Size.{Size}
use Rattle.std.specs.Prelude.{Option, Some, None}
use Rattle.steps.specs.Steps.{moves_on}
use Rattle.onward.specs.declared.Walked.{Walked}
use Rattle.onward.specs.Onward.{walked_to, walk_on, put_pair}
use Rattle.onward.specs.Onward.{Handed, handed_to, handed_at, next_key, hand_on}

-- ---- walking on
pub record Walking (all : Walked) (z : Size) (ns : List ℕ) (sought pred curr made most : ℕ) : Type 0 where
  pub same : all ≡ walk_on (most - made) z ns sought pred curr made

module _ (all : Walked) (z : Size) (ns : List ℕ) (sought pred curr made most : ℕ)
    (rest : Walking all z ns sought pred curr made most) where
  pub walk_most : most ≤ made → walked_to pred curr made ≡ all
  unfolding walk_on
  walk_most h = let e : most - made ≡ 0 = omega (arith, h) in rw (rest.same, e)

  module _ (r : Option ℕ) (more : made < most) (next : r ≡ moves_on z ns sought curr) where
    abbrev one_more : most - made ≡ suc (most - (made + 1))
    one_more = omega (arith, more)

    pub walk_stops : r ≡ None → walked_to pred curr made ≡ all
    unfolding walk_on
    walk_stops h = rw (rest.same, one_more, ← next, h)

    pub walk_goes : (n : ℕ) → r ≡ Some n → Walking all z ns sought curr n (made + 1) most
    unfolding walk_on
    walk_goes n h = record { same = rw (rest.same, one_more, ← next, h) }

pub ruleset walks = (walk_most, walk_stops, walk_goes)

-- ---- handing out
-- a key is handed out only where fewer than all have been, so the count of them has room to grow
pub few_handed : (ns es ps : List ℕ) (low high snapshot at handed count to : ℕ) (r : Option ℕ)
    → r ≡ next_key small ns es ps low high snapshot at handed count → r ≡ Some to → handed + 1 < 4294967296
unfolding next_key
few_handed ns es ps low high snapshot at handed count to r e f = elim (dec_lt handed 510) [
  | yes h ↦ omega (arith, h)
  | no h ↦
      let none : next_key small ns es ps low high snapshot at handed count ≡ None =
      rw (le-ltb handed 510 (omega (arith, h))) in cc
]

pub record Giving (all : Handed) (z : Size) (ns es : List ℕ) (low high snapshot : ℕ) (ps : List ℕ)
    (at handed count made most : ℕ) : Type 0 where
  pub same : all ≡ hand_on (most - made) z ns es low high snapshot ps at handed count made

module _ (all : Handed) (z : Size) (ns es : List ℕ) (low high snapshot : ℕ) (ps : List ℕ)
    (at handed count made most : ℕ) (rest : Giving all z ns es low high snapshot ps at handed count made most) where
  pub give_most : most ≤ made + 1 → handed_to ps (handed_at at handed count made) ≡ all
  unfolding hand_on
  give_most h = rw rest.same (by (most - made) (omega (arith, h)))
    where
      by : (m : ℕ) → m ≤ 1 → handed_to ps (handed_at at handed count made)
          ≡ hand_on m z ns es low high snapshot ps at handed count made
      by zero h = refl
      by (suc zero) h = refl
      by (suc (suc m)) h = absurd (omega (arith, h))

  module _ (r : Option ℕ) (more : made + 1 < most)
      (next : r ≡ next_key z ns es ps low high snapshot at handed count) where
    abbrev two_more : most - made ≡ suc (suc (most - (made + 2)))
    two_more = omega (arith, more)

    pub give_stops : r ≡ None → handed_to ps (handed_at at handed count made) ≡ all
    unfolding hand_on
    give_stops h = rw (rest.same, two_more, ← next, h)

    pub give_goes : (to k v : ℕ) (ps' : List ℕ) → r ≡ Some to → k ≡ key_at ns to → v ≡ value_at ns to
        → ps' ≡ put_pair ps count k v
        → Giving all z ns es low high snapshot ps' to (handed + 1) (count + 1) (made + 2) most
    unfolding hand_on
    give_goes to k v ps' h e f g = record { same = rw (rest.same, two_more, ← next, h, g, e, f) }

pub ruleset gives = (few_handed, give_most, give_stops, give_goes)
