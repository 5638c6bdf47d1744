-- However far a session gets, no step is taken back, it makes no more than it may, and fills no more pairs than it
-- makes steps.
-- In order: walking on; handing out; a session. Assumes nothing.
use Prim.Native.Nat.{ℕ, zero, suc, ◌+◌, ◌-◌, ◌≤◌}
use mathlib.Core.Path.{◌≡◌, sym, subst}
use mathlib.Core.List.{List}
use mathlib.Core.Bool.{Bool, true, false, cond, ◌&&◌}
use native.Mathlib.Omega.{arith}
use lib.Dec.{ltb}
use Rattle.nodes.specs.Nodes.{key_at, value_at}
use Rattle.terms.specs.Terms.{names_of, sought_of, high_of}
use Rattle.terms.specs.declared.Size.{Size}
use Rattle.terms.specs.declared.Op.{Op}
use Rattle.steps.specs.declared.Session.{Session}
use Rattle.steps.specs.Steps.{moves_on}
use Rattle.register.specs.Register.{fits}
use Rattle.std.specs.Prelude.{Option, Some, None}
use Rattle.steps.specs.declared.Phase.{Phase}
use Rattle.onward.specs.declared.Walked.{Walked}
use Rattle.onward.specs.declared.Far.{Far}
use Rattle.onward.specs.Onward.{walked_to, walk_on, put_pair, Handed, handed_to, handed_at}
use Rattle.onward.specs.Onward.{next_key, on_found, hand_on, Reach, reached, stays, hand_far, on_course, far_of}

-- `made` steps, from `from` on and of at most `most`, and no more pairs than steps
pub record Within (from most count made : ℕ) : Type 0 where
  pub no_fewer : from ≤ made
  pub few_steps : made ≤ most
  pub few_pairs : count ≤ made

-- ---- walking on
module _ (z : Size) (ns : List ℕ) (sought count : ℕ) where
  abbrev WalkWithin : ℕ → ℕ → Walked → Type 0
  WalkWithin from most w = Within from most count w.made

  walk_within : (m pred curr made : ℕ) → count ≤ made
      → WalkWithin made (made + m) (walk_on m z ns sought pred curr made)
  unfolding walk_on
  walk_within zero pred curr made h = record { no_fewer = omega arith; few_steps = omega arith; few_pairs = h }
  walk_within (suc m) pred curr made h =
      by (moves_on z ns sought curr) (λ next. walk_within m curr next (made + 1) (omega (arith, h)))
    where
      by : (f : Option ℕ)
          → ((next : ℕ) → WalkWithin (made + 1) (made + 1 + m) (walk_on m z ns sought curr next (made + 1)))
          → WalkWithin made (made + suc m)
          (on_found f (λ next. walk_on m z ns sought curr next (made + 1)) (walked_to pred curr made))
      by (Some next) W = record {
        no_fewer = omega (arith, (W next).no_fewer);
        few_steps = omega (arith, (W next).few_steps);
        few_pairs = (W next).few_pairs;
      }
      by None W = record { no_fewer = omega arith; few_steps = omega arith; few_pairs = h }

-- ---- handing out
abbrev HandWithin : ℕ → ℕ → Handed → Type 0
HandWithin from most (handed_to ps h) = Within from most h.count h.made

module _ (z : Size) (ns es : List ℕ) (low high snapshot : ℕ) where
  hand_stays : (m : ℕ) (ps : List ℕ) (at handed count made : ℕ) → count ≤ made
      → HandWithin made (made + m) (handed_to ps (handed_at at handed count made))
  hand_stays m ps at handed count made h = record { no_fewer = omega arith; few_steps = omega arith; few_pairs = h }

  hand_more : (m made : ℕ) (h : Handed) → HandWithin (made + 2) (made + 2 + m) h
      → HandWithin made (made + suc (suc m)) h
  hand_more m made (handed_to ps h) W = record {
    no_fewer = omega (arith, W.no_fewer);
    few_steps = omega (arith, W.few_steps);
    few_pairs = W.few_pairs;
  }

  abbrev next : ℕ → List ℕ → ℕ → ℕ → ℕ → ℕ → Handed
  next m ps handed count made to =
      hand_on m z ns es low high snapshot (put_pair ps count (key_at ns to) (value_at ns to)) to (handed + 1)
      (count + 1)
      (made + 2)

  hand_within : (m : ℕ) (ps : List ℕ) (at handed count made : ℕ) → count ≤ made
      → HandWithin made (made + m) (hand_on m z ns es low high snapshot ps at handed count made)
  unfolding hand_on
  hand_within zero ps at handed count made h = hand_stays 0 ps at handed count made h
  hand_within (suc zero) ps at handed count made h = hand_stays 1 ps at handed count made h
  hand_within (suc (suc m)) ps at handed count made h =
      by (next_key z ns es ps low high snapshot at handed count)
      (λ to. hand_within m (put_pair ps count (key_at ns to) (value_at ns to)) to (handed + 1) (count + 1) (made + 2)
      (omega (arith, h)))
    where
      by : (f : Option ℕ) → ((to : ℕ) → HandWithin (made + 2) (made + 2 + m) (next m ps handed count made to))
          → HandWithin made (made + suc (suc m))
          (on_found f (next m ps handed count made) (handed_to ps (handed_at at handed count made)))
      by (Some to) W = hand_more m made (next m ps handed count made to) (W to)
      by None W = hand_stays (suc (suc m)) ps at handed count made h

-- ---- a session
abbrev ReachWithin : ℕ → ℕ → Reach → Type 0
ReachWithin from most (reached ps f) = Within from most f.count f.made

module _ (z : Size) (ns es ps : List ℕ) (s : Session) (m count made : ℕ) (h : count ≤ made) where
  far_hand : (op : Op) (snapshot : ℕ) (g : Handed) → HandWithin made (made + m) g
      → ReachWithin made (made + m) (hand_far op snapshot g)
  far_hand op snapshot (handed_to qs g) W = W

  course_within : (φ : Phase) → ReachWithin made (made + m) (on_course φ m z ns es ps s count made)
  course_within (Phase.Walk pred curr) = walk_within z ns (sought_of s.op) count m pred curr made h
  course_within (Phase.Follow at snapshot handed) =
      far_hand s.op snapshot (hand_on m z ns es (sought_of s.op) (high_of s.op) snapshot ps at handed count made)
      (hand_within z ns es (sought_of s.op) (high_of s.op) snapshot m ps at handed count made h)
  course_within phase = record { no_fewer = omega arith; few_steps = omega arith; few_pairs = h }

  far_by : (b : Bool) → ReachWithin made (made + m)
      (cond b (on_course (s.phase) m z ns es ps s count made) (stays ps s count made))
  far_by true = course_within (s.phase)
  far_by false = record { no_fewer = omega arith; few_steps = omega arith; few_pairs = h }

pub far_within : (z : Size) (ns es ps : List ℕ) (who : ℕ) (s : Session) (count made most : ℕ) (ps' : List ℕ) (f : Far)
    → reached ps' f ≡ far_of (most - made) z ns es ps who s count made → count ≤ made → made ≤ most
    → Within made most f.count f.made
unfolding far_of
far_within z ns es ps who s count made most ps' f e h i =
    let W : ReachWithin made (made + (most - made)) (reached ps' f) =
    subst (ReachWithin made (made + (most - made))) (sym e)
    (far_by z ns es ps s (most - made) count made h (fits z ns es && (ltb who 16 && names_of s.op))) in
    record {
      no_fewer = W.no_fewer;
      few_steps = omega (arith, W.few_steps, i);
      few_pairs = W.few_pairs;
    }
