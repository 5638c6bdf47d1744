-- Several steps of the library in one call are steps of document 01 in a row.
-- In order: one step, its key handed out; the last one; one more before; the steps; the library's call.
-- Not here: one step alone (Calls). Assumes nothing.
use Prim.Native.Nat.{ℕ, zero, suc, ◌+◌, ◌-◌, ◌<◌}
use mathlib.Core.Path.{◌≡◌, refl, sym, ◌∙◌, ap, subst}
use mathlib.Core.Logic.{◌⊎◌, inl, inr, ◌≢◌}
use mathlib.Core.Bool.{Bool, true, false, cond}
use mathlib.Core.List.{List, [], ◌∷◌, ◌++◌}
use native.Mathlib.Omega.{arith}
use lib.ListN.{length}
use borrow.Author.Tests.{eq-eqb, lt-ltb}
use Rattle.terms.specs.Terms.{small}
use Rattle.terms.specs.declared.Answer.{Answer}
use Rattle.steps.specs.declared.Stepped.{Stepped}
use Rattle.steps.specs.Steps.{Done, done}
use Rattle.register.specs.Register.{fits, step_of}
use Rattle.sixteen.specs.declared.Call.{Call}
use Rattle.sixteen.specs.Sixteen.{after_step as served_step}
use Rattle.demands.specs.Demands.{returned}
use Rattle.fairness.specs.Calls.{after}
use Rattle.reached.specs.Reached.{State, record_of, state_in, answer_in, go, answer}
use Rattle.loaded.specs.Calls.{answers}
use Rattle.several.specs.declared.Turn.{Turn}
use Rattle.several.specs.declared.Went.{Went}
use Rattle.several.specs.Several.{Handed, handed, hand_out, goes_on, Turned, turned, turn_with, turn_by}
use Rattle.several.specs.Several.{turn_of}
use Rattle.several.specs.Several.{Gone, gone, next_or, stops, go_on, several_of}
use Rattle.calling.specs.Calling.{lengths_fit, kept, strode, after_steps, steps_record, steps_session}
use Rattle.ffi.specs.Ffi.{steps_call}
use Rattle.driven.specs.Driven.{Holds, Onward, AllOnward, hand_all, in_a_row, Row, Strides, StepsIs}
use Rattle.driven.proofs.Holding.{decoded, kept_holds}
use Rattle.driven.proofs.Calls.{own_behind, others_behind, as_many_behind, own_tables}

-- ---- one step of session who, its key handed out
module _ (σ : State) (who : ℕ) (ps : List ℕ) (n : ℕ) (ns' es' ps' : List ℕ) (t : Turn) where
  record TurnBy (d : Done) : Type 0 where
    nodes : ns' ≡ (state_in (served_step σ.register who d)).nodes
    entries : es' ≡ (state_in (served_step σ.register who d)).entries
    counters : t.counters ≡ (state_in (served_step σ.register who d)).register.counters
    session : t.session ≡ (returned d).session
    answer : t.answer ≡ answer_in (served_step σ.register who d)
    hands : hand_out ps n (answer_in (served_step σ.register who d)) ≡ handed ps' t.count
    on : t.on ≡ goes_on ps' t.count (answer_in (served_step σ.register who d))

  turn_handed : (ns es : List ℕ) (r : Stepped) (h : Handed) → hand_out ps n r.answer ≡ h
      → turned ns' es' ps' t ≡ turn_with ns es r h → TurnBy (done ns es r)
  turn_handed ns es r (handed ps₁ m) e call = record {
    nodes = cc;
    entries = cc;
    counters = cc;
    session = cc;
    answer = cc;
    hands = let a : ps₁ ≡ ps' = cc in let b : m ≡ t.count = cc in e ∙ rw (a, b);
    on = let a : ps₁ ≡ ps' = cc in let b : m ≡ t.count = cc in rw (← a, ← b) (cc);
  }

  turn_by_lem : (d : Done) → turned ns' es' ps' t ≡ turn_by ps n d → TurnBy d
  turn_by_lem (done ns es r) call = turn_handed ns es r (hand_out ps n r.answer) refl call

  abbrev d : Done
  d = step_of small σ.nodes σ.entries σ.register.counters who (record_of σ who)

  turn_facts : turned ns' es' ps' t
      ≡ turn_of small σ.nodes σ.entries ps n σ.register.counters who (record_of σ who) → TurnBy d
  unfolding turn_of
  turn_facts call = turn_by_lem d call

-- ---- the call goes on after working, and after a key behind which another finds room
no : {A : Type 0} → false ≡ true → A
no e = let z : ◌≡◌ {A = ℕ} 0 1 = cc in absurd (omega (arith, z))

module _ (ps : List ℕ) (n : ℕ) where
  onward_answer : (a : Answer) → goes_on ps n a ≡ true → Onward a (handed ps n)
  onward_answer Answer.Started e = no e
  onward_answer Answer.Working e = inl refl
  onward_answer Answer.Waiting e = no e
  onward_answer (Answer.Key k v) e = inr (k, v, refl, e)
  onward_answer (Answer.Inserted m) e = no e
  onward_answer (Answer.Removed m) e = no e
  onward_answer Answer.Present e = no e
  onward_answer Answer.Absent e = no e
  onward_answer (Answer.End t m) e = no e
  onward_answer (Answer.Refused why) e = no e

  goes_onward : (a : Answer) → Onward a (handed ps n) → goes_on ps n a ≡ true
  goes_onward a (inl e) = rw e
  goes_onward a (inr (k, v, e, room)) = rw e room

abbrev on_of : Turned → Bool
on_of (turned ns es ps t) = t.on

-- ---- the steps from σ to what the call leaves
module _ (who : ℕ) (known : who < 16) where
  abbrev behind : State → ℕ → State
  behind σ k = after (go small) σ (in_a_row k who)

  pub record Way (σ : State) (more : ℕ) (ps : List ℕ) (n made : ℕ) (ns' es' ps' : List ℕ) (r : Went) : Type 0 where
    pub steps : ℕ
    pub row : Row σ who more ps n ps' r.last.count steps r.last.answer
    pub total : r.made ≡ made + steps
    pub nodes : ns' ≡ (behind σ steps).nodes
    pub entries : es' ≡ (behind σ steps).entries
    pub counters : r.last.counters ≡ (behind σ steps).register.counters
    pub session : record_of (behind σ steps) who ≡ r.last.session
    pub others : (w : ℕ) → w ≢ who → record_of (behind σ steps) w ≡ record_of σ w
    pub sixteen : length (behind σ steps).register.sessions ≡ 16

  module _ (σ : State) (sixteen : length σ.register.sessions ≡ 16) (ps : List ℕ) (n made : ℕ)
      (ns₁ es₁ ps₁ : List ℕ) (t : Turn) (T : TurnBy σ who ps n ns₁ es₁ ps₁ t (d σ who ps n ns₁ es₁ ps₁ t)) where
    abbrev step : Call
    step = Call.Step who

    own : record_of (go small σ step) who ≡ t.session
    own = own_behind σ step sixteen known ∙ sym T.session

    -- ---- the last one
    way_last : (more : ℕ) → (1 ≡ more + 1) ⊎ (t.on ≡ false)
        → Way σ more ps n made ns₁ es₁ ps₁ (record { last = t; made = made + 1 })
    unfolding answers
    way_last more stop = record {
      steps = 1;
      row = record {
        before = [];
        one = omega arith;
        few = omega arith;
        say = rw T.answer;
        onward = tt;
        pairs = rw T.answer T.hands;
        stops = elim stop [
          | inl e ↦ inl e
          | inr off ↦ inr (λ o. no (sym off ∙ T.on ∙ ap (λ a. goes_on ps₁ t.count a) (sym T.answer)
              ∙ goes_onward ps₁ t.count t.answer o))
        ];
      };
      total = refl;
      nodes = T.nodes;
      entries = T.entries;
      counters = T.counters;
      session = own;
      others = others_behind σ step sixteen;
      sixteen = as_many_behind σ step sixteen;
    }

    -- ---- one more before
    way_on : (more : ℕ) (ns' es' ps' : List ℕ) (r : Went) → t.on ≡ true
        → Way (go small σ step) more ps₁ t.count (made + 1) ns' es' ps' r → Way σ (suc more) ps n made ns' es' ps' r
    unfolding answers
    way_on more ns' es' ps' r on W = record {
      steps = suc W.steps;
      row = record {
        before = answer small σ step ∷ W.row.before;
        one = omega arith;
        few = omega (arith, W.row.few);
        say = ap (λ l. answer small σ step ∷ l) W.row.say;
        onward = subst (λ h. Onward (answer small σ step) h × AllOnward h W.row.before) (sym T.hands)
            (onward_answer ps₁ t.count (answer small σ step) (sym T.on ∙ on), W.row.onward);
        pairs = ap (λ h. hand_all h (W.row.before ++ (r.last.answer ∷ []))) T.hands ∙ W.row.pairs;
        stops = elim W.row.stops [
          | inl e ↦ inl (omega (arith, e))
          | inr off ↦ inr off
        ];
      };
      total = omega (arith, W.total);
      nodes = W.nodes;
      entries = W.entries;
      counters = W.counters;
      session = W.session;
      others = λ w apart. W.others w apart ∙ others_behind σ step sixteen w apart;
      sixteen = W.sixteen;
    }

  -- ---- the steps
  module _ (σ : State) (sixteen : length σ.register.sessions ≡ 16) (ps : List ℕ) (n made : ℕ)
      (ns' es' ps' : List ℕ) (r : Went) where
    abbrev first : Turned
    first = turn_of small σ.nodes σ.entries ps n σ.register.counters who (record_of σ who)

    ends_here : (more : ℕ) (u : Turned) → u ≡ first → (1 ≡ more + 1) ⊎ (on_of u ≡ false)
        → gone ns' es' ps' r ≡ stops (made + 1) u → Way σ more ps n made ns' es' ps' r
    ends_here more (turned ns₁ es₁ ps₁ t) e stop call =
        let W = way_last σ sixteen ps n made ns₁ es₁ ps₁ t (turn_facts σ who ps n ns₁ es₁ ps₁ t e) more stop in
        let a : ns' ≡ ns₁ = cc in
        let b : es' ≡ es₁ = cc in
        let c : ps' ≡ ps₁ = cc in
        let f : r ≡ record { last = t; made = made + 1 } = cc in
        rw (a, b, c, f) W

  -- what the steps after the first make of the state that it leaves
  abbrev Then : ℕ → State → List ℕ → ℕ → ℕ → (ns' es' ps' : List ℕ) → Went → Type 0
  Then more σ ps n made ns' es' ps' r =
      gone ns' es' ps' r ≡ go_on more small who made σ.nodes σ.entries ps n σ.register.counters
      (record_of σ who) → Way σ more ps n made ns' es' ps' r

  module _ (σ : State) (sixteen : length σ.register.sessions ≡ 16) (ps : List ℕ) (n made : ℕ)
      (ns' es' ps' : List ℕ) (r : Went) (more : ℕ)
      (rest : (ps₁ : List ℕ) (m : ℕ) → Then more (go small σ (Call.Step who)) ps₁ m (made + 1) ns' es' ps' r) where
    abbrev turn_first : Turned
    turn_first = first σ sixteen ps n made ns' es' ps' r

    way_by : (b : Bool) (ns₁ es₁ ps₁ : List ℕ) (t : Turn) → b ≡ t.on → turned ns₁ es₁ ps₁ t ≡ turn_first
        → gone ns' es' ps' r ≡ cond b (go_on more small who (made + 1) ns₁ es₁ ps₁ t.count t.counters
        t.session) (stops (made + 1) (turned ns₁ es₁ ps₁ t)) → Way σ (suc more) ps n made ns' es' ps' r
    way_by true ns₁ es₁ ps₁ t on e h =
        let T = turn_facts σ who ps n ns₁ es₁ ps₁ t e in
        way_on σ sixteen ps n made ns₁ es₁ ps₁ t T more ns' es' ps' r (sym on)
        (rest ps₁ t.count
        (h ∙ rw (T.nodes, T.entries, T.counters, ← own σ sixteen ps n made ns₁ es₁ ps₁ t T)))
    way_by false ns₁ es₁ ps₁ t off e h =
        ends_here σ sixteen ps n made ns' es' ps' r (suc more) (turned ns₁ es₁ ps₁ t) e (inr (sym off)) h

    way_more : (u : Turned) → u ≡ turn_first
        → gone ns' es' ps' r ≡ next_or (go_on more small who (made + 1)) (made + 1) u
        → Way σ (suc more) ps n made ns' es' ps' r
    way_more (turned ns₁ es₁ ps₁ t) e h = way_by t.on ns₁ es₁ ps₁ t refl e h

  pub way : (more : ℕ) (σ : State) → length σ.register.sessions ≡ 16 → (ps : List ℕ) (n made : ℕ)
      (ns' es' ps' : List ℕ) (r : Went) → Then more σ ps n made ns' es' ps' r
  unfolding go_on
  way zero σ sixteen ps n made ns' es' ps' r call =
      ends_here σ sixteen ps n made ns' es' ps' r 0 (first σ sixteen ps n made ns' es' ps' r) refl (inl refl) call
  way (suc more) σ sixteen ps n made ns' es' ps' r call =
      way_more σ sixteen ps n made ns' es' ps' r more
      (λ ps₁ m. way more (go small σ (Call.Step who)) (as_many_behind σ (Call.Step who) sixteen) ps₁ m (made + 1)
      ns' es' ps' r) (first σ sixteen ps n made ns' es' ps' r) refl call

-- ---- the library's call
module _ (σ : State) (ws ps out : List ℕ) (who limit : ℕ) (H : Holds σ.nodes σ.entries ws σ)
    (fit : fits small σ.nodes σ.entries ≡ true) (known : who < 16) (five : length out ≡ 5) where
  abbrev went : Gone
  went = several_of small σ.nodes σ.entries ps σ.register.counters who (record_of σ who) limit

  steps_of_record : steps_call small σ.nodes σ.entries ws ps out who limit ≡ after_steps ws out who went
  unfolding steps_call steps_session steps_record lengths_fit
  steps_of_record =
      rw (
        eq-eqb _ _ five,
        fit,
        eq-eqb _ _ H.long,
        lt-ltb _ _ known,
        decoded σ.nodes σ.entries ws σ H who,
        H.counters,
      )

  module _ (ns' es' ws' ps' out' : List ℕ) (n : ℕ) where
    strides_way : (ns₁ es₁ ps₁ : List ℕ) (r : Went) → Way who known σ (limit - 1) ps 0 0 ns₁ es₁ ps₁ r
        → strode ns' es' ws' ps' out' n ≡ after_steps ws out who (gone ns₁ es₁ ps₁ r)
        → Strides σ who limit ps out ns' es' ws' ps' out' n
    strides_way ns₁ es₁ ps₁ r W told =
        let pairs : ps' ≡ ps₁ = cc in
        let nodes : ns' ≡ ns₁ = cc in
        let entries : es' ≡ es₁ = cc in
        let words : ws' ≡ kept ws who r.last.counters r.last.session = cc in
        let total : r.made ≡ W.steps = omega (arith, W.total) in
        record {
          made = W.steps;
          count = r.last.count;
          last = r.last.answer;
          row = rw pairs W.row;
          holds = rw (nodes, W.nodes, entries, W.entries, words, W.counters)
              (kept_holds σ.nodes σ.entries ws σ H who r.last.session
              (after (go small) σ (in_a_row W.steps who)) (λ _. W.session) W.others W.sixteen);
          answered = rw (← total) (cc);
          number = cc;
        }

    strides_by : (u : Gone) → u ≡ went → strode ns' es' ws' ps' out' n ≡ after_steps ws out who u
        → Strides σ who limit ps out ns' es' ws' ps' out' n
    strides_by (gone ns₁ es₁ ps₁ r) e told =
        strides_way ns₁ es₁ ps₁ r (way who known (limit - 1) σ H.sixteen ps 0 0 ns₁ es₁ ps₁ r e) told

pub steps_is : StepsIs
steps_is σ ns es ws ps out ns' es' ws' ps' out' who limit n H fit known five call =
    let own = own_tables ns es ws σ H in
    let fit' : fits small σ.nodes σ.entries ≡ true = rw (← H.nodes, ← H.entries) fit in
    let same : steps_call small ns es ws ps out who limit
    ≡ steps_call small σ.nodes σ.entries ws ps out who limit = rw (H.nodes, H.entries) in
    strides_by σ ws ps out who limit own fit' known five ns' es' ws' ps' out' n
    (went σ ws ps out who limit own fit' known five) refl
    (call ∙ same ∙ steps_of_record σ ws ps out who limit own fit' known five)
