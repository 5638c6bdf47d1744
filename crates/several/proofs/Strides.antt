-- One stride, as far as a session gets and one step more, is so many steps of the call.
-- In order: what a stride leaves; each way out of the loop over strides; the numbers in it.
-- `all` is what the whole call leaves. Assumes nothing.
use Prim.Native.Nat.{ℕ, ◌+◌, ◌-◌, ◌≤◌, ◌<◌}
use mathlib.Core.Path.{◌≡◌, refl, sym, ◌∙◌, ap}
use mathlib.Core.List.{List}
use mathlib.Core.Bool.{true, false}
use native.Mathlib.Omega.{arith}
use Rattle.terms.specs.declared.Size.{Size}
use Rattle.terms.specs.declared.Counters.{Counters}
use Rattle.steps.specs.declared.Session.{Session}
use Rattle.onward.specs.declared.Far.{Far}
use Rattle.onward.specs.Onward.{Reach, reached, far_of}
use Rattle.onward.proofs.Bounds.{far_within}
use Rattle.several.specs.declared.Went.{Went}
use Rattle.several.specs.Several.{Turned, turned, turn_of, Gone, gone, stops, step_then, stride_of}
use Rattle.several.proofs.Ways.{Rest, go_first, few, turn_last, turn_stops, turn_on}
use Rattle.several.proofs.Far.{far_same, after_far}

-- ---- what a stride leaves, in its two parts
record Parts (z : Size) (ns es ps : List ℕ) (n : ℕ) (c : Counters) (who : ℕ) (s : Session) (most made : ℕ)
    (ns' es' ps' : List ℕ) (r : Went) : Type 0 where
  pairs : List ℕ
  far : Far
  goes : reached pairs far ≡ far_of (most - made) z ns es ps who s n made
  steps : turned ns' es' ps' r.last ≡ turn_of z ns es pairs far.count c who far.session
  count : r.made ≡ far.made + 1

module _ (z : Size) (ns es ps : List ℕ) (n : ℕ) (c : Counters) (who : ℕ) (s : Session) (most made : ℕ)
    (ns' es' ps' : List ℕ) (r : Went) where
  parts_turn : (qs : List ℕ) (f : Far) → reached qs f ≡ far_of (most - made) z ns es ps who s n made → (u : Turned)
      → u ≡ turn_of z ns es qs f.count c who f.session → gone ns' es' ps' r ≡ stops (f.made + 1) u
      → Parts z ns es ps n c who s most made ns' es' ps' r
  parts_turn qs f e (turned ns₂ es₂ ps₂ t) h g = record {
    pairs = qs;
    far = f;
    goes = e;
    steps = let same : turned ns' es' ps' r.last ≡ turned ns₂ es₂ ps₂ t = cc in same ∙ h;
    count = cc;
  }

  parts_far : (v : Reach) → v ≡ far_of (most - made) z ns es ps who s n made
      → gone ns' es' ps' r ≡ step_then z ns es c who v → Parts z ns es ps n c who s most made ns' es' ps' r
  parts_far (reached qs f) e g = parts_turn qs f e (turn_of z ns es qs f.count c who f.session) refl g

  parts : gone ns' es' ps' r ≡ stride_of (most - made) z ns es ps n c who s made
      → Parts z ns es ps n c who s most made ns' es' ps' r
  unfolding stride_of
  parts g = parts_far (far_of (most - made) z ns es ps who s n made) refl g

-- ---- each way out of the loop
module _ (all : Gone) (z : Size) (who most made : ℕ) (ns es ps : List ℕ) (n : ℕ) (c : Counters) (s : Session)
    (rest : Rest all z who most made ns es ps n c s) (ns' es' ps' : List ℕ) (r : Went)
    (call : gone ns' es' ps' r ≡ stride_of (most - made) z ns es ps n c who s made) where
  P : Parts z ns es ps n c who s most made ns' es' ps' r
  P = parts z ns es ps n c who s most made ns' es' ps' r call

  further : Rest all z who most P.far.made ns es P.pairs P.far.count c P.far.session
  further = record {
    same = rest.same ∙ far_same z who most ns es c ps s n made ∙ ap (after_far z who most ns es c) (sym P.goes);
  }

  told : stops (P.far.made + 1) (turned ns' es' ps' r.last) ≡ gone ns' es' ps' r
  told = rw (← P.count)

  pub go_limit : most < r.made → gone ns' es' ps' r ≡ all
  go_limit h =
      sym told ∙ turn_last all z who most _ _ _ _ _ _ _ further _ _ _ _ P.steps (omega (arith, h, P.count))

  pub go_stop : r.made ≤ most → r.last.on ≡ false → gone ns' es' ps' r ≡ all
  go_stop h off =
      sym told ∙ turn_stops all z who most _ _ _ _ _ _ _ further _ _ _ _ P.steps (omega (arith, h, P.count)) off

  pub go_on : r.made ≤ most → r.last.on ≡ true
      → Rest all z who most r.made ns' es' ps' r.last.count r.last.counters r.last.session
  go_on h on =
      rw P.count (turn_on all z who most _ _ _ _ _ _ _ further _ _ _ _ P.steps (omega (arith, h, P.count)) on)

-- ---- the numbers: one more step has room, and no more pairs are filled than steps are made
pub one_more : (z : Size) (ns es ps : List ℕ) (who : ℕ) (s : Session) (n made most : ℕ) (ps₁ : List ℕ) (f : Far)
    → reached ps₁ f ≡ far_of (most - made) z ns es ps who s n made → n ≤ made → made ≤ most → most < 4294967295
    → f.made + 1 < 4294967296
one_more z ns es ps who s n made most ps₁ f e h i j =
    let W = far_within z ns es ps who s n made most ps₁ f e h i in
    omega (arith, W.few_steps, j)

pub count_fits : (z : Size) (ns es ps : List ℕ) (who : ℕ) (s : Session) (n made most : ℕ) (ps₁ : List ℕ) (f : Far)
    → reached ps₁ f ≡ far_of (most - made) z ns es ps who s n made → n ≤ made → made ≤ most → most < 4294967295
    → f.count < 4294967295
count_fits z ns es ps who s n made most ps₁ f e h i j =
    let W = far_within z ns es ps who s n made most ps₁ f e h i in
    omega (arith, W.few_steps, W.few_pairs, j)

pub ruleset fits = (one_more, count_fits)

pub few_pairs : (z : Size) (ns es ps : List ℕ) (n : ℕ) (c : Counters) (who : ℕ) (s : Session) (most made : ℕ)
    (ns' es' ps' : List ℕ) (r : Went) → gone ns' es' ps' r ≡ stride_of (most - made) z ns es ps n c who s made
    → n ≤ made → made ≤ most → r.last.count ≤ r.made
few_pairs z ns es ps n c who s most made ns' es' ps' r call h i =
    let P = parts z ns es ps n c who s most made ns' es' ps' r call in
    let W = far_within z ns es ps who s n made most P.pairs P.far P.goes h i in
    let k = few z ns es P.pairs P.far.count c who P.far.session ns' es' ps' r.last P.far.made
    P.steps W.few_pairs in
    omega (arith, k, P.count)

-- and each stride makes a step
pub less_left : (z : Size) (ns es ps : List ℕ) (n : ℕ) (c : Counters) (who : ℕ) (s : Session) (most made : ℕ)
    (ns' es' ps' : List ℕ) (r : Went) → gone ns' es' ps' r ≡ stride_of (most - made) z ns es ps n c who s made
    → n ≤ made → made ≤ most → r.made ≤ most → most - r.made < most - made
less_left z ns es ps n c who s most made ns' es' ps' r call h i j =
    let P = parts z ns es ps n c who s most made ns' es' ps' r call in
    let W = far_within z ns es ps who s n made most P.pairs P.far P.goes h i in
    omega (arith, W.no_fewer, P.count, j)

pub ruleset goes = (go_first, go_limit, go_stop, go_on, few_pairs, less_left)
