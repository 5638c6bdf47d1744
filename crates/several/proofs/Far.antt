-- Going far is making the steps one after the other: walking on is so many Walk steps, and handing out is a Follow and
-- a Hand for each key.
-- In order: what is known where a key comes next; one step of each kind; walking on; handing out; how far a session
-- gets. Assumes nothing.
use Prim.Native.Nat.{ℕ, zero, suc, ◌+◌, ◌-◌, ◌*◌, ◌≤◌}
use mathlib.Core.Path.{◌≡◌, refl, sym, ◌∙◌, ap, subst}
use mathlib.Core.List.{List}
use mathlib.Core.Bool.{Bool, true, false, cond, ◌&&◌}
use native.Mathlib.Omega.{arith}
use lib.ListN.{length}
use lib.Dec.{ltb, leb}
use borrow.Author.Tests.{leb-true, le-ltb, le-leb}
use Rattle.table.specs.Table.{store_of}
use Rattle.table.proofs.Laws.{store_length}
use Rattle.bundle.specs.Bundle.{at_of}
use Rattle.bundle.specs.declared.Held.{Held}
use Rattle.nodes.specs.Nodes.{key_at, value_at, next_at, newest_at}
use Rattle.terms.specs.Terms.{names_of, sought_of, high_of}
use Rattle.terms.specs.declared.Size.{Size}
use Rattle.terms.specs.declared.Counters.{Counters}
use Rattle.terms.specs.declared.Op.{Op}
use Rattle.terms.specs.declared.Answer.{Answer}
use Rattle.steps.specs.declared.Phase.{Phase}
use Rattle.steps.specs.declared.Session.{Session}
use Rattle.steps.specs.Steps.{done, works, gives, walk_step, moves_on, range_sees, follow_step, hand_step}
use Rattle.register.specs.Register.{fits, step_of}
use Rattle.std.specs.Prelude.{Option, Some, None, Result, Ok, Err}
use Rattle.onward.specs.declared.Walked.{Walked}
use Rattle.onward.specs.Onward.{walked_to, walk_on, in_range, on_taken, followed_to, has_room}
use Rattle.onward.specs.Onward.{put_pair}
use Rattle.onward.specs.Onward.{Handed, handed_to, handed_at, next_key, on_found, hand_on, Reach, reached, stays}
use Rattle.onward.specs.Onward.{hand_far, on_course, far_of}
use Rattle.several.specs.Several.{Gone, turn_of, go_on}

-- ---- what is known where a key comes next
both : (a b : Bool) → true ≡ (a && b) → (a ≡ true) × (b ≡ true)
both true true e = (refl, refl)
both true false e = (refl, sym e)
both false b e = (sym e, let x : ◌≡◌ {A = ℕ} 0 1 = cc in absurd (omega arith))

at_cond : (b : Bool) (r : Option ℕ) (to : ℕ) → Some to ≡ cond b r None → (true ≡ b) × (Some to ≡ r)
at_cond true r to e = (refl, e)
at_cond false r to e = cc

record InRange (z : Size) (ns : List ℕ) (low high to : ℕ) : Type 0 where
  in_table : ltb to z.nodes ≡ true
  not_below : ltb (key_at ns to) low ≡ false
  not_above : leb (key_at ns to) high ≡ true

module _ (z : Size) (ns es : List ℕ) (low high to : ℕ) where
  range_facts : (t : ℕ) → Some to ≡ in_range z ns low high t → (t ≡ to) × InRange z ns low high to
  unfolding in_range
  range_facts t e =
      let above = leb low (key_at ns t) in
      let below = leb (key_at ns t) high in
      let c = at_cond (ltb t z.nodes && (above && below)) (Some t) to e in
      let same : t ≡ to = cc in
      let d = both (ltb t z.nodes) (above && below) c.0 in
      let k = both above below (sym d.1) in (
        same,
        subst (InRange z ns low high) same (record {
          in_table = d.0;
          not_below = le-ltb (key_at ns t) low (leb-true low (key_at ns t) k.0);
          not_above = k.1;
        }),
      )

  taken_facts : (o : Result ℕ Held) → Some to ≡ on_taken z ns low high o → (o ≡ Ok to) × InRange z ns low high to
  taken_facts (Ok t) e = let d = range_facts t e in (ap Ok d.0, d.1)
  taken_facts (Err held) e = cc

record Ready (z : Size) (ns es ps : List ℕ) (low high snapshot at handed count to : ℕ) : Type 0 where
  few : ltb handed z.keys ≡ true
  room : has_room ps (count + 1) ≡ true
  from : ltb at z.nodes ≡ true
  link : at_of z.entries es (newest_at ns at) snapshot ≡ Ok to
  range : InRange z ns low high to

ready : (z : Size) (ns es ps : List ℕ) (low high snapshot at handed count to : ℕ)
    → Some to ≡ next_key z ns es ps low high snapshot at handed count
    → Ready z ns es ps low high snapshot at handed count to
unfolding next_key followed_to
ready z ns es ps low high snapshot at handed count to e =
    let read = at_of z.entries es (newest_at ns at) snapshot in
    let fits = ltb handed z.keys && has_room ps (count + 1) in
    let c = at_cond fits (followed_to z ns es low high at snapshot) to e in
    let d = both (ltb handed z.keys) (has_room ps (count + 1)) c.0 in
    let f = at_cond (ltb at z.nodes) (on_taken z ns low high read) to c.1 in
    let g = taken_facts z ns es low high to read f.1 in
    record { few = d.0; room = d.1; from = sym f.0; link = g.0; range = g.1 }

-- ---- room for another pair is room for this one, and a pair put leaves it as it is
room_before : (ps : List ℕ) (n : ℕ) → has_room ps (n + 1) ≡ true → has_room ps n ≡ true
unfolding has_room
room_before ps n h =
    let more : (n + 1) * 2 + 2 ≤ length ps = leb-true ((n + 1) * 2 + 2) (length ps) h in
    le-leb (n * 2 + 2) (length ps) (omega (arith, more))

room_kept : (ps : List ℕ) (n m k v : ℕ) → has_room (put_pair ps n k v) m ≡ has_room ps m
unfolding has_room
room_kept ps n m k v = rw (store_length 2 (store_of 2 ps n 0 k) n 1 v, store_length 2 ps n 0 k)

-- ---- one step of each kind
module _ (z : Size) (who : ℕ) (ns es : List ℕ) (c : Counters) (op : Op) (lengths : fits z ns es ≡ true)
    (known : ltb who 16 ≡ true) (named : names_of op ≡ true) where
  abbrev session : Phase → Session
  session φ = record { op = op; phase = φ }

  step_walk : (pred curr next : ℕ) → Some next ≡ moves_on z ns (sought_of op) curr
      → step_of z ns es c who (session (Phase.Walk pred curr)) ≡ done ns es (works c op (Phase.Walk curr next))
  unfolding step_of walk_step moves_on
  step_walk pred curr next h =
      let below = ltb (key_at ns curr) (sought_of op) in
      let d = at_cond (ltb curr z.nodes) (cond below (Some (next_at ns curr)) None) next h in
      let k = at_cond below (Some (next_at ns curr)) next d.1 in
      let same : next_at ns curr ≡ next = cc in
      rw (lengths, known, named, ← d.0, ← k.0, same)

  module _ (ps : List ℕ) (snapshot at handed count to : ℕ)
      (R : Ready z ns es ps (sought_of op) (high_of op) snapshot at handed count to) where
    step_follow : step_of z ns es c who (session (Phase.Follow at snapshot handed))
        ≡ done ns es (works c op (Phase.Hand to snapshot handed))
    unfolding step_of follow_step range_sees
    step_follow =
        rw (
          lengths,
          known,
          named,
          R.from,
          R.link,
          R.range.in_table,
          R.range.not_below,
          R.range.not_above,
        )

    step_hand : step_of z ns es c who (session (Phase.Hand to snapshot handed))
        ≡ done ns es (gives c op (Phase.Follow to snapshot (handed + 1)) (Answer.Key (key_at ns to) (value_at ns to)))
    unfolding step_of hand_step
    step_hand = rw (lengths, known, named, R.range.in_table, R.few)

  -- ---- walking on
  module _ (ps : List ℕ) (n most : ℕ) where
    abbrev after_walk : Walked → Gone
    after_walk w = go_on (most - w.made) z who w.made ns es ps n c (session (Phase.Walk w.pred w.curr))

    walk_one : (m made pred curr next : ℕ) → Some next ≡ moves_on z ns (sought_of op) curr
        → go_on (suc m) z who made ns es ps n c (session (Phase.Walk pred curr))
        ≡ go_on m z who (made + 1) ns es ps n c (session (Phase.Walk curr next))
    unfolding go_on turn_of
    walk_one m made pred curr next h = rw (step_walk pred curr next h)

    walk_same : (m made pred curr : ℕ) → m ≡ most - made
        → go_on m z who made ns es ps n c (session (Phase.Walk pred curr))
        ≡ after_walk (walk_on m z ns (sought_of op) pred curr made)
    unfolding walk_on
    walk_same zero made pred curr e = rw e
    walk_same (suc m) made pred curr e =
        by (moves_on z ns (sought_of op) curr) refl
        (λ next. walk_same m (made + 1) curr next (omega (arith, e)))
      where
        by : (f : Option ℕ) → f ≡ moves_on z ns (sought_of op) curr
            → ((next : ℕ) → go_on m z who (made + 1) ns es ps n c (session (Phase.Walk curr next))
            ≡ after_walk (walk_on m z ns (sought_of op) curr next (made + 1)))
            → go_on (suc m) z who made ns es ps n c (session (Phase.Walk pred curr))
            ≡ after_walk (on_found f (λ next. walk_on m z ns (sought_of op) curr next (made + 1))
            (walked_to pred curr made))
        by (Some next) h rest = walk_one m made pred curr next h ∙ rest next
        by None h rest = rw e

  -- ---- handing out
  module _ (snapshot most : ℕ) where
    abbrev after_hand : Handed → Gone
    after_hand (handed_to ps h) =
        go_on (most - h.made) z who h.made ns es ps h.count c
        (session (Phase.Follow h.at snapshot h.handed))

    abbrev given : List ℕ → ℕ → ℕ → List ℕ
    given ps count to = put_pair ps count (key_at ns to) (value_at ns to)

    -- a Follow, and its Hand
    hand_one : (m made : ℕ) (ps : List ℕ) (at handed count to : ℕ)
        → Ready z ns es ps (sought_of op) (high_of op) snapshot at handed count to
        → go_on (suc (suc m)) z who made ns es ps count c (session (Phase.Follow at snapshot handed))
        ≡ go_on m z who (made + 2) ns es (given ps count to) (count + 1) c
        (session (Phase.Follow to snapshot (handed + 1)))
    unfolding go_on turn_of
    hand_one m made ps at handed count to R =
        let two : made + 1 + 1 ≡ made + 2 = omega arith in
        rw (
          step_follow ps snapshot at handed count to R,
          step_hand ps snapshot at handed count to R,
          room_before ps count R.room,
          room_kept ps count (count + 1) (key_at ns to) (value_at ns to),
          R.room,
          two,
        )

    hand_same : (m made : ℕ) (ps : List ℕ) (at handed count : ℕ) → m ≡ most - made
        → go_on m z who made ns es ps count c (session (Phase.Follow at snapshot handed))
        ≡ after_hand (hand_on m z ns es (sought_of op) (high_of op) snapshot ps at handed count made)
    unfolding hand_on
    hand_same zero made ps at handed count e = rw e
    hand_same (suc zero) made ps at handed count e = rw e
    hand_same (suc (suc m)) made ps at handed count e =
        by (next_key z ns es ps (sought_of op) (high_of op) snapshot at handed count) refl
        (λ to. hand_same m (made + 2) (given ps count to) to (handed + 1) (count + 1) (omega (arith, e)))
      where
        by : (f : Option ℕ) → f ≡ next_key z ns es ps (sought_of op) (high_of op) snapshot at handed count
            → ((to : ℕ) → go_on m z who (made + 2) ns es (given ps count to) (count + 1) c
            (session (Phase.Follow to snapshot (handed + 1)))
            ≡ after_hand (hand_on m z ns es (sought_of op) (high_of op) snapshot (given ps count to) to (handed + 1)
            (count + 1) (made + 2)))
            → go_on (suc (suc m)) z who made ns es ps count c (session (Phase.Follow at snapshot handed))
            ≡ after_hand (on_found f
            (λ to. hand_on m z ns es (sought_of op) (high_of op) snapshot (given ps count to) to (handed + 1)
            (count + 1) (made + 2))
            (handed_to ps (handed_at at handed count made)))
        by (Some to) h rest =
            hand_one m made ps at handed count to
            (ready z ns es ps (sought_of op) (high_of op) snapshot at handed count to h) ∙ rest to
        by None h rest = rw e

-- ---- how far a session gets
module _ (z : Size) (who most : ℕ) (ns es : List ℕ) (c : Counters) where
  abbrev pub after_far : Reach → Gone
  after_far (reached ps f) = go_on (most - f.made) z who f.made ns es ps f.count c f.session

  far_hand : (op : Op) (lengths : fits z ns es ≡ true) (known : ltb who 16 ≡ true) (named : names_of op ≡ true)
      (snapshot : ℕ) (h : Handed) → after_hand z who ns es c op lengths known named snapshot most h
      ≡ after_far (hand_far op snapshot h)
  far_hand op lengths known named snapshot (handed_to ps h) = refl

  module _ (ps : List ℕ) (count made : ℕ) (lengths : fits z ns es ≡ true) (known : ltb who 16 ≡ true) where
    course_same : (φ : Phase) (op : Op) → names_of op ≡ true
        → go_on (most - made) z who made ns es ps count c (record { op = op; phase = φ })
        ≡ after_far (on_course φ (most - made) z ns es ps (record { op = op; phase = φ }) count made)
    course_same (Phase.Walk pred curr) op named =
        walk_same z who ns es c op lengths known named ps count most (most - made) made pred curr refl
    course_same (Phase.Follow at snapshot handed) op named =
        hand_same z who ns es c op lengths known named snapshot most (most - made) made ps at handed count refl
        ∙ far_hand op lengths known named snapshot
        (hand_on (most - made) z ns es (sought_of op) (high_of op) snapshot ps at handed count made)
    course_same phase op named = refl

  -- where it goes, and where it stays
  far_by : (ps : List ℕ) (s : Session) (count made : ℕ) (a b d : Bool) → a ≡ fits z ns es → b ≡ ltb who 16
      → d ≡ names_of s.op
      → go_on (most - made) z who made ns es ps count c s
      ≡ after_far (cond (a && (b && d)) (on_course (s.phase) (most - made) z ns es ps s count made)
      (stays ps s count made))
  far_by ps s count made true true true f k n = course_same ps count made (sym f) (sym k) s.phase s.op (sym n)
  far_by ps s count made true true false f k n = refl
  far_by ps s count made true false d f k n = refl
  far_by ps s count made false b d f k n = refl

  pub far_same : (ps : List ℕ) (s : Session) (count made : ℕ) → go_on (most - made) z who made ns es ps count c s
      ≡ after_far (far_of (most - made) z ns es ps who s count made)
  unfolding far_of
  far_same ps s count made =
      far_by ps s count made (fits z ns es) (ltb who 16) (names_of s.op) refl refl refl
