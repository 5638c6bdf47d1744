-- Several steps that the library refuses at the first one change nothing either, whatever the slices hold.
-- In order: a call makes a step at least; a call that made one; its word in the answer; that step, refused; the call.
-- Not here: other refusals (Refused). Assumes nothing.
use Prim.Native.Nat.{ℕ, zero, suc, ◌+◌, ◌-◌, ◌≤◌, ◌<◌}
use mathlib.Core.Path.{◌≡◌, refl, sym, ◌∙◌, ap}
use mathlib.Core.Logic.{◌≢◌}
use mathlib.Core.Bool.{Bool, true, false, cond}
use mathlib.Core.List.{List}
use native.Mathlib.Omega.{arith}
use native.Mathlib.Decide.{ℕ_discrete}
use lib.ListN.{length}
use lib.Dec.{ltb, eqb}
use Rattle.table.specs.Table.{store_of}
use Rattle.table.proofs.Laws.{store_length, word_stored}
use Rattle.terms.specs.Terms.{Refuses}
use Rattle.terms.specs.declared.Size.{Size}
use Rattle.terms.specs.declared.Counters.{Counters}
use Rattle.steps.specs.declared.Session.{Session}
use Rattle.steps.specs.declared.Stepped.{Stepped}
use Rattle.steps.specs.Steps.{Done, done}
use Rattle.register.specs.Register.{step_of}
use Rattle.demands.specs.Demands.{answer_of, Kept}
use Rattle.demands.proofs.Demand1.{demand_1}
use Rattle.std.specs.Prelude.{Result, Ok, Err}
use Rattle.encoding.specs.declared.Malformed.{Malformed}
use Rattle.encoding.specs.Encoding.{decode}
use Rattle.packing.specs.declared.Reply.{Reply}
use Rattle.packing.specs.Packing.{counters_at, record_at, reply_of, number_of, put_reply}
use Rattle.several.specs.declared.Went.{Went}
use Rattle.several.specs.Several.{Handed, handed, hand_out, Turned, turned, turn_with, turn_by, turn_of}
use Rattle.several.specs.Several.{Gone, gone, stops, next_or, go_on, several_of}
use Rattle.calling.specs.Calling.{lengths_fit, on_decoded, tally, Strode, strode, stands_still, after_steps}
use Rattle.calling.specs.Calling.{steps_record}
use Rattle.calling.specs.Calling.{steps_session}
use Rattle.ffi.specs.Ffi.{steps_call}
use Rattle.ffi.proofs.Ways.{strides_silent}
use Rattle.driven.specs.Always.{Unchanged, made_in}
use Rattle.driven.proofs.Checked.{refuses_number, refused_hands, kept_unchanged, checked_by}

-- ---- a call makes a step at least
module _ (ns' es' ps' : List ℕ) (r : Went) where
  stops_made : (made : ℕ) (u : Turned) → gone ns' es' ps' r ≡ stops made u → r.made ≡ made
  stops_made made (turned ns es ps t) e = cc

  module _ (z : Size) (who : ℕ) where
    makes : (more made : ℕ) (ns es ps : List ℕ) (n : ℕ) (c : Counters) (s : Session)
        → gone ns' es' ps' r ≡ go_on more z who made ns es ps n c s → made < r.made
    unfolding go_on
    makes zero made ns es ps n c s e =
        let m = stops_made (made + 1) (turn_of z ns es ps n c who s) e in omega (arith, m)
    makes (suc more) made ns es ps n c s e =
        by (turn_of z ns es ps n c who s) (λ ns₁ es₁ ps₁ m c₁ s₁. makes more (made + 1) ns₁ es₁ ps₁ m c₁ s₁) e
      where
        on_by : (b : Bool) (g : Gone) (u : Turned) → (gone ns' es' ps' r ≡ g → made + 1 < r.made)
            → gone ns' es' ps' r ≡ cond b g (stops (made + 1) u) → made < r.made
        on_by true g u rest h = omega (arith, rest h)
        on_by false g u rest h = let m = stops_made (made + 1) u h in omega (arith, m)

        by : (u : Turned) → ((ns es ps : List ℕ) (m : ℕ) (c : Counters) (s : Session)
            → gone ns' es' ps' r ≡ go_on more z who (made + 1) ns es ps m c s → made + 1 < r.made)
            → gone ns' es' ps' r ≡ next_or (go_on more z who (made + 1)) (made + 1) u → made < r.made
        by (turned ns₁ es₁ ps₁ t) rest h =
            on_by t.on _ (turned ns₁ es₁ ps₁ t) (rest ns₁ es₁ ps₁ t.count t.counters t.session) h

    -- ---- a call that made one
    one_by : (more : ℕ) (u : Turned) → r.made ≤ 1 → gone ns' es' ps' r ≡ next_or (go_on more z who 1) 1 u
        → gone ns' es' ps' r ≡ stops 1 u
    one_by more (turned ns₁ es₁ ps₁ t) few = on_by t.on
      where
        on_by : (b : Bool) → gone ns' es' ps' r ≡ cond b (go_on more z who 1 ns₁ es₁ ps₁ t.count t.counters
            t.session) (stops 1 (turned ns₁ es₁ ps₁ t)) → gone ns' es' ps' r ≡ stops 1 (turned ns₁ es₁ ps₁ t)
        on_by true h =
            let m = makes more 1 ns₁ es₁ ps₁ t.count t.counters t.session h in
            absurd (omega (arith, m, few))
        on_by false h = h

    makes_one : (more : ℕ) (ns es ps : List ℕ) (c : Counters) (s : Session) → r.made ≤ 1
        → gone ns' es' ps' r ≡ go_on more z who 0 ns es ps 0 c s
        → gone ns' es' ps' r ≡ stops 1 (turn_of z ns es ps 0 c who s)
    unfolding go_on
    makes_one zero ns es ps c s few e = e
    makes_one (suc more) ns es ps c s few e = one_by more (turn_of z ns es ps 0 c who s) few e

-- ---- its word in the answer
reply_length : (out : List ℕ) (y : Reply) → length (put_reply out y) ≡ length out
unfolding put_reply
reply_length out y =
    store_length 3 _ 0 2 y.second ∙ store_length 3 _ 0 1 y.first ∙ store_length 3 out 0 0 y.name

made_word : (out : List ℕ) (count made : ℕ) → length out ≡ 5 → made_in (tally out count made) ≡ made
made_word out count made five =
    word_stored 5 (store_of 5 out 0 3 count) 0 4 made (omega (arith, five, store_length 5 out 0 3 count))

module _ (z : Size) (ns es ws ps out : List ℕ) (who limit n : ℕ) (some : n ≢ 0) (not_full : n ≢ 6)
    (ns' es' ws' ps' out' : List ℕ) (few : made_in out' ≤ 1) where
  abbrev Stays : Strode → Type 0
  Stays r = strode ns' es' ws' ps' out' n ≡ r → Unchanged ns es ws ns' es' ws' × (ps' ≡ ps)

  same : (out₁ : List ℕ) (m : ℕ) → Stays (strode ns es ws ps out₁ m)
  same out₁ m told = (record { nodes = cc; entries = cc; words = cc }, cc)

  -- ---- that step, refused
  module _ (s : Session) (read : decode (record_at ws who) ≡ Ok s) where
    one_handed : (ns₁ es₁ : List ℕ) (r : Stepped) (h : Handed) → hand_out ps 0 r.answer ≡ h
        → (Refuses n r.answer → Kept ns es (counters_at ws) s (done ns₁ es₁ r))
        → Stays (after_steps ws out who (stops 1 (turn_with ns₁ es₁ r h)))
    one_handed ns₁ es₁ r (handed ps₁ m) e keeps told =
        let number : n ≡ number_of (reply_of r.answer) = cc in
        let K = keeps (refuses_number r.answer n some number) in
        let none : handed ps 0 ≡ handed ps₁ m = sym (refused_hands r.answer n some number ps 0) ∙ e in
        (kept_unchanged ws who s read ns es ns₁ es₁ ns' es' ws' r K (cc) (cc) (cc), cc)

    one_refused : (d : Done) → (Refuses n (answer_of d) → Kept ns es (counters_at ws) s d)
        → Stays (after_steps ws out who (stops 1 (turn_by ps 0 d)))
    one_refused (done ns₁ es₁ r) keeps = one_handed ns₁ es₁ r (hand_out ps 0 r.answer) refl keeps

    one_turn : Stays (after_steps ws out who (stops 1 (turn_of z ns es ps 0 (counters_at ws) who s)))
    unfolding turn_of
    one_turn =
        one_refused (step_of z ns es (counters_at ws) who s)
        (((demand_1 z).step_leaves ns es (counters_at ws) who s).refused_keeps n not_full)

    few_made : length out ≡ 5 → (ns₁ es₁ ps₁ : List ℕ) (r : Went)
        → strode ns' es' ws' ps' out' n ≡ after_steps ws out who (gone ns₁ es₁ ps₁ r) → r.made ≤ 1
    few_made five ns₁ es₁ ps₁ r told =
        let y = reply_of r.last.answer in
        let e : out' ≡ tally (put_reply out y) r.last.count r.made = cc in
        let w = ap made_in e ∙ made_word (put_reply out y) r.last.count r.made (reply_length out y ∙ five) in
        omega (arith, w, few)

    steps_by : length out ≡ 5 → (g : Gone) → g ≡ several_of z ns es ps (counters_at ws) who s limit
        → Stays (after_steps ws out who g)
    steps_by five (gone ns₁ es₁ ps₁ r) e told =
        let small = few_made five ns₁ es₁ ps₁ r told in
        let one = makes_one ns₁ es₁ ps₁ r z who (limit - 1) ns es ps (counters_at ws) s small e in
        one_turn (told ∙ ap (after_steps ws out who) one)

  -- ---- the call
  steps_decoded : length out ≡ 5 → (d : Result Session Malformed) → decode (record_at ws who) ≡ d
      → Stays (on_decoded d (steps_record z ns es ws ps out who limit) (stands_still ns es ws ps out 8))
  unfolding steps_record
  steps_decoded five (Ok s) read =
      steps_by s read five (several_of z ns es ps (counters_at ws) who s limit) refl
  steps_decoded five (Err _) read = same _ 8

  steps_five : length out ≡ 5 → Stays (steps_call z ns es ws ps out who limit)
  unfolding steps_call steps_session
  steps_five five =
      checked_by Stays (strode ns es ws ps out 7) (stands_still ns es ws ps out)
      (steps_session z ns es ws ps out who limit)
      (eqb (length out) 5) (lengths_fit z ns es ws) (ltb who 16) (same out 7) (λ m. same _ m)
      (steps_decoded five (decode (record_at ws who)) refl)

  pub refused_steps : Stays (steps_call z ns es ws ps out who limit)
  refused_steps told = elim (ℕ_discrete (length out) 5) [
    | yes five ↦ steps_five five told
    | no other ↦ same out 7 (told ∙ sym (strides_silent z ns es ws ps out who limit other))
  ]
