-- What fresh, start and step of the library make of a held register: what document 01's calls do.
-- In order: what a call leaves of the sixteen records, and slices that hold it; a step; a start; fresh.
-- Not here: several steps (Strides), reading (Read). Assumes nothing.
use Rattle.std.specs.Prelude.{Ok, Err}
use Prim.Native.Nat.{ℕ, ◌<◌}
use mathlib.Core.Path.{◌≡◌, refl, sym, ◌∙◌, ap}
use mathlib.Core.Logic.{◌≢◌}
use mathlib.Core.Bool.{Bool, true, false, cond}
use mathlib.Core.List.{List}
use native.Mathlib.Omega.{arith}
use lib.ListN.{length, replicate, length-replicate}
use lib.Dec.{eqb}
use borrow.Author.Tests.{eqb-true}
use Rattle.terms.specs.Terms.{small}
use Rattle.terms.specs.declared.Counters.{Counters}
use Rattle.terms.specs.declared.Refusal.{Refusal}
use Rattle.steps.specs.declared.Session.{Session}
use Rattle.steps.specs.Steps.{Done, done, idle}
use Rattle.register.specs.Register.{fits, opened, fresh_nodes, fresh_entries, fresh_counters, fresh_of, step_of}
use Rattle.sixteen.specs.declared.Call.{Call}
use Rattle.sixteen.specs.Sixteen.{Left, served}
use Rattle.sixteen.specs.Sixteen.{after_step as served_step}
use Rattle.demands.specs.Demands.{returned, sessions_of, who_of, own_record, ServeDemand}
use Rattle.demands.proofs.Demand1.{demand_1_small}
use Rattle.reached.specs.Reached.{State, record_of, state_in, answer_in, called, go, no_past, Reached}
use Rattle.reached.specs.Reached.{fresh as reached_fresh}
use Rattle.reached.proofs.History.{get_d_default}
use Rattle.encoding.specs.Encoding.{encode, op_from}
use Rattle.packing.specs.Packing.{reply_of, number_of, put_reply, put_record, fresh_words}
use Rattle.packing.proofs.Same.{counters_same}
use Rattle.exchange.specs.Exchange.{left}
use Rattle.calling.specs.Calling.{kept}
use Rattle.stepping.specs.Stepping.{heard}
use Rattle.ffi.specs.Ffi.{cleared, after_fresh, fresh_call, start_record, start_call}
use Rattle.stepping.specs.Stepping.{after_step, step_record, step_call}
use Rattle.driven.specs.Driven.{Holds, Did, all_idle, FreshIs, StartIs, StepIs}
use Rattle.driven.proofs.Words.{counters_length, counters_put, fresh_blank}
use Rattle.driven.proofs.Holding.{decoded, kept_holds, step_of_record, start_of_record}

-- ---- the sixteen records behind a call: its own session's, and the others
sessions_in : (l : Left) → (state_in l).register.sessions ≡ sessions_of l
sessions_in (served ns es r) = refl

module _ (σ : State) (call : Call) (sixteen : length σ.register.sessions ≡ 16) where
  D : ServeDemand small σ.nodes σ.entries σ.register call
  D = demand_1_small.serve σ.nodes σ.entries σ.register call

  pub own_behind : who_of call < 16
      → record_of (go small σ call) (who_of call) ≡ own_record small σ.nodes σ.entries σ.register call
  own_behind known = rw (sessions_in (called small σ call)) (D.own (omega (arith, known, sixteen)))

  pub others_behind : (w : ℕ) → w ≢ who_of call → record_of (go small σ call) w ≡ record_of σ w
  others_behind w apart = rw (sessions_in (called small σ call)) (D.others w apart)

  pub as_many_behind : length (go small σ call).register.sessions ≡ 16
  as_many_behind = rw (sessions_in (called small σ call)) (D.as_many ∙ sixteen)

-- ---- slices that hold what a call leaves, from those that held σ in its own tables
module _ (σ : State) (ws : List ℕ) (H : Holds σ.nodes σ.entries ws σ) where
  abbrev own : Call → Session
  own call = own_record small σ.nodes σ.entries σ.register call

  call_holds : (call : Call) → Holds (go small σ call).nodes (go small σ call).entries
      (kept ws (who_of call) (go small σ call).register.counters (own call)) (go small σ call)
  call_holds call =
      kept_holds σ.nodes σ.entries ws σ H (who_of call) (own call) (go small σ call)
      (own_behind σ call H.sixteen) (others_behind σ call H.sixteen) (as_many_behind σ call H.sixteen)

  -- a start leaves the counters: its own record alone is put
  start_words : (who : ℕ) (s : Session) → put_record ws who (encode s) ≡ kept ws who σ.register.counters s
  start_words who s = ap (λ v. put_record v who (encode s)) (sym (counters_same ws)) ∙ rw H.counters

-- ---- what the library's step leaves, of what the register's leaves
module _ (σ : State) (ws out : List ℕ) (who : ℕ) where
  record Stepped (d : Done) (ns' es' ws' out' : List ℕ) (n : ℕ) : Type 0 where
    nodes : ns' ≡ (state_in (served_step σ.register who d)).nodes
    entries : es' ≡ (state_in (served_step σ.register who d)).entries
    words : ws' ≡ kept ws who (state_in (served_step σ.register who d)).register.counters (returned d).session
    answered : out' ≡ put_reply out (reply_of (answer_in (served_step σ.register who d)))
    number : n ≡ number_of (reply_of (answer_in (served_step σ.register who d)))

  stepped : (d : Done) (ns' es' ws' out' : List ℕ) (n : ℕ) → left ns' es' ws' out' n ≡ after_step ws out who d
      → Stepped d ns' es' ws' out' n
  stepped (done ns es r) ns' es' ws' out' n told =
      record { nodes = cc; entries = cc; words = cc; answered = cc; number = cc }

  module _ (H : Holds σ.nodes σ.entries ws σ) (three : length out ≡ 3) where
    -- ---- a step
    abbrev d : Done
    d = step_of small σ.nodes σ.entries σ.register.counters who (record_of σ who)

    step_is_served : step_call small σ.nodes σ.entries ws out who ≡ after_step ws out who d
    unfolding step_record
    step_is_served =
        step_of_record σ.nodes σ.entries ws out who (record_of σ who) three H.long
        (decoded σ.nodes σ.entries ws σ H who) ∙ rw H.counters

    step_did : (ns' es' ws' out' : List ℕ) (n : ℕ)
        → left ns' es' ws' out' n ≡ step_call small σ.nodes σ.entries ws out who
        → Did σ (Call.Step who) ns' es' ws' out out' n
    step_did ns' es' ws' out' n told =
        let S = stepped d ns' es' ws' out' n (told ∙ step_is_served) in
        record {
          holds = rw (S.nodes, S.entries, S.words) (call_holds σ ws H (Call.Step who));
          answered = S.answered;
          number = S.number;
        }

    -- ---- a start
    start_did : (kind first second : ℕ) (ws' out' : List ℕ) (n : ℕ)
        → heard ws' out' n ≡ start_call small σ.nodes σ.entries ws out who kind first second
        → Did σ (Call.Start who (op_from kind first second)) σ.nodes σ.entries ws' out out' n
    unfolding start_record
    start_did kind first second ws' out' n told =
        let c = Call.Start who (op_from kind first second) in
        let e = told ∙ start_of_record σ.nodes σ.entries ws out who (record_of σ who) three H.long
        (decoded σ.nodes σ.entries ws σ H who) kind first second in
        let words : ws' ≡ put_record ws who (encode (own σ ws H c)) = cc in
        record {
          holds = rw (words, start_words σ ws H who (own σ ws H c)) (call_holds σ ws H c);
          answered = cc;
          number = cc;
        }

-- ---- from slices that hold σ
pub own_tables : (ns es ws : List ℕ) (σ : State) → Holds ns es ws σ → Holds σ.nodes σ.entries ws σ
own_tables ns es ws σ H = record {
  nodes = refl;
  entries = refl;
  long = H.long;
  counters = H.counters;
  sixteen = H.sixteen;
  records = H.records;
}

pub step_is : StepIs
step_is σ ns es ws out ns' es' ws' out' who n H three call =
    step_did σ ws out who (own_tables ns es ws σ H) three ns' es' ws' out' n (call ∙ rw (H.nodes, H.entries))

pub start_is : StartIs
start_is σ ns es ws out ws' out' who kind first second n H three call =
    rw (H.nodes, H.entries)
    (start_did σ ws out who (own_tables ns es ws σ H) three kind first second ws' out' n
    (call ∙ rw (H.nodes, H.entries)))

-- ---- fresh
pub idle_holds : (ns es ws : List ℕ) (c : Counters) → length ws ≡ 147
    → Holds ns es (fresh_words ws c) (all_idle ns es c)
idle_holds ns es ws c long =
    let blank : length (replicate {A = ℕ} (length ws) 0) ≡ length ws = length-replicate (length ws) 0 in
    record {
      nodes = refl;
      entries = refl;
      long = counters_length (replicate (length ws) 0) c ∙ blank ∙ long;
      counters = counters_put (replicate (length ws) 0) c (omega (arith, blank, long));
      sixteen = length-replicate 16 idle;
      records = λ who _. fresh_blank ws c who ∙ ap encode (sym (get_d_default 16 who idle));
    }

module _ (ns es ws ns' es' ws' : List ℕ) where
  fresh_tables : fits small ns es ≡ true
      → fresh_of small ns es ≡ opened (fresh_nodes ns) (fresh_entries es) (Ok fresh_counters)
  unfolding fresh_of
  fresh_tables fit = rw fit

  fresh_here : length ws ≡ 147 → fits small ns es ≡ true
      → cleared ns' es' ws' 0 ≡ cleared (fresh_nodes ns) (fresh_entries es) (fresh_words ws fresh_counters) 0
      → Holds ns' es' ws' (all_idle ns' es' fresh_counters) × Reached small (all_idle ns' es' fresh_counters) no_past
  fresh_here long fit call =
      let a : ns' ≡ fresh_nodes ns = cc in
      let b : es' ≡ fresh_entries es = cc in
      let c : ws' ≡ fresh_words ws fresh_counters = cc in (
        rw c (idle_holds ns' es' ws fresh_counters long),
        rw (a, b)
            (reached_fresh ns es (fresh_nodes ns) (fresh_entries es) fresh_counters (fresh_tables fit)),
      )

  fresh_by : (b t : Bool) → eqb (length ws) 147 ≡ b → fits small ns es ≡ t
      → cleared ns' es' ws' 0 ≡ cond b (after_fresh ws (cond t
      (opened (fresh_nodes ns) (fresh_entries es) (Ok fresh_counters))
      (opened ns es (Err Refusal.BadTable)))) (cleared ns es ws 7)
      → Holds ns' es' ws' (all_idle ns' es' fresh_counters) × Reached small (all_idle ns' es' fresh_counters) no_past
  fresh_by true true long fit call = fresh_here (eqb-true (length ws) 147 long) fit call
  fresh_by true false long fit call = let z : ◌≡◌ {A = ℕ} 0 7 = cc in absurd (omega (arith, z))
  fresh_by false t long fit call = let z : ◌≡◌ {A = ℕ} 0 7 = cc in absurd (omega (arith, z))

pub fresh_is : FreshIs
unfolding fresh_call fresh_of
fresh_is ns es ws ns' es' ws' call =
    fresh_by ns es ws ns' es' ws' (eqb (length ws) 147) (fits small ns es) refl refl call
