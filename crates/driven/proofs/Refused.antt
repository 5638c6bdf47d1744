-- A refusal by the library changes neither tables nor words, whatever they hold: what it refuses itself it refuses
-- before it writes, and what the register refuses changes nothing (demand 1), so that the words put back are those
-- that were there.
-- In order: start; step; fresh; reading; the theorem.
-- Not here: several steps (Halted). Assumes nothing.
use Rattle.std.specs.Prelude.{Ok, Err}
use Prim.Native.Nat.{ℕ}
use mathlib.Core.Path.{◌≡◌, refl, ◌∙◌, ap}
use mathlib.Core.Logic.{◌≢◌}
use mathlib.Core.Bool.{Bool, true, false, cond}
use mathlib.Core.List.{List}
use lib.ListN.{length}
use lib.Dec.{ltb, eqb}
use Rattle.terms.specs.Terms.{Refuses}
use Rattle.terms.specs.declared.Size.{Size}
use Rattle.terms.specs.declared.Op.{Op}
use Rattle.terms.specs.declared.Refusal.{Refusal}
use Rattle.steps.specs.declared.Session.{Session}
use Rattle.steps.specs.Steps.{Done, done, Tables, tables}
use Rattle.register.specs.Register.{fits, opened, fresh_nodes, fresh_entries, fresh_counters, fresh_of, start_of}
use Rattle.register.specs.Register.{step_of}
use Rattle.demands.specs.Demands.{answer_of, Kept}
use Rattle.demands.proofs.Demand1.{demand_1}
use Rattle.scanning.specs.declared.Whole.{Whole}
use Rattle.scanning.specs.declared.Unread.{Unread}
use Rattle.scanning.specs.Reading.{check_of}
use Rattle.loading.specs.Filing.{used}
use Rattle.loading.specs.Loading.{loaded_tables, on_reading, load_of}
use Rattle.loading.specs.Loading.{done as loads}
use Rattle.loading.specs.declared.Unloaded.{Unloaded}
use Rattle.std.specs.Prelude.{Result, Ok, Err}
use Rattle.encoding.specs.declared.Malformed.{Malformed}
use Rattle.encoding.specs.Encoding.{encode, op_from, decode}
use Rattle.packing.specs.Packing.{counters_at, record_at, put_record, reply_of, number_of}
use Rattle.exchange.specs.Exchange.{Left, left, stays, after_read, read_loaded, read_call}
use Rattle.calling.specs.Calling.{on_decoded}
use Rattle.stepping.specs.Stepping.{Heard, heard}
use Rattle.ffi.specs.Ffi.{cleared, after_fresh, fresh_call, deaf}
use Rattle.ffi.specs.Ffi.{start_record, start_session, start_call}
use Rattle.calling.specs.Calling.{lengths_fit}
use Rattle.stepping.specs.Stepping.{after_step, step_record, step_session, step_call}
use Rattle.ffi.proofs.Kept.{record_kept}
use Rattle.driven.specs.Always.{Unchanged, RefusedKeeps}
use Rattle.driven.proofs.Checked.{refuses_number, kept_unchanged, checked_by}
use Rattle.driven.proofs.Halted.{refused_steps}

module _ (z : Size) (ns es ws out : List ℕ) (who n : ℕ) (some : n ≢ 0) where
  -- ---- start
  module _ (ws' out' : List ℕ) (op : Op) where
    abbrev Leaves : Heard → Type 0
    Leaves r = heard ws' out' n ≡ r → ws' ≡ ws

    start_record_lem : (s : Session) → decode (record_at ws who) ≡ Ok s
        → Leaves (start_record z ns es ws out who op s)
    unfolding start_record
    start_record_lem s read told =
        let r = start_of z ns es who s op in
        let number : n ≡ number_of (reply_of r.answer) = cc in
        let words : ws' ≡ put_record ws who (encode r.session) = cc in
        let refused = refuses_number r.answer n some number in
        let same = ((demand_1 z).start_leaves ns es who s op).refused_keeps n refused in
        words ∙ ap (λ x. put_record ws who (encode x)) same ∙ record_kept ws who s read

    start_decoded : (d : Result Session Malformed) → decode (record_at ws who) ≡ d
        → Leaves (on_decoded d (start_record z ns es ws out who op) (deaf ws out 8))
    start_decoded (Ok s) read told = start_record_lem s read told
    start_decoded (Err _) read told = cc

  refused_start : (ws' out' : List ℕ) (kind first second : ℕ)
      → heard ws' out' n ≡ start_call z ns es ws out who kind first second → ws' ≡ ws
  unfolding start_call start_session
  refused_start ws' out' kind first second =
      let op = op_from kind first second in
      checked_by (Leaves ws' out' op) (heard ws out 7) (deaf ws out)
      (start_session z ns es ws out who op) (eqb (length out) 3) (lengths_fit z ns es ws) (ltb who 16) (λ e. cc)
      (λ m e. cc) (start_decoded ws' out' op (decode (record_at ws who)) refl)

  -- ---- step
  module _ (not_full : n ≢ 6) (ns' es' ws' out' : List ℕ) where
    abbrev Stays : Left → Type 0
    Stays r = left ns' es' ws' out' n ≡ r → Unchanged ns es ws ns' es' ws'

    step_done : (s : Session) → decode (record_at ws who) ≡ Ok s → (d : Done)
        → (Refuses n (answer_of d) → Kept ns es (counters_at ws) s d) → Stays (after_step ws out who d)
    step_done s read (done ns₁ es₁ r) keeps told =
        let number : n ≡ number_of (reply_of r.answer) = cc in
        let K = keeps (refuses_number r.answer n some number) in
        kept_unchanged ws who s read ns es ns₁ es₁ ns' es' ws' r K (cc) (cc) (cc)

    step_record_lem : (s : Session) → decode (record_at ws who) ≡ Ok s
        → Stays (step_record z ns es ws out who s)
    unfolding step_record
    step_record_lem s read =
        step_done s read (step_of z ns es (counters_at ws) who s)
        (((demand_1 z).step_leaves ns es (counters_at ws) who s).refused_keeps n not_full)

    same : (out₁ : List ℕ) (m : ℕ) → Stays (left ns es ws out₁ m)
    same out₁ m told = record { nodes = cc; entries = cc; words = cc }

    step_decoded : (d : Result Session Malformed) → decode (record_at ws who) ≡ d
        → Stays (on_decoded d (step_record z ns es ws out who) (stays ns es ws out 8))
    step_decoded (Ok s) read = step_record_lem s read
    step_decoded (Err _) read = same _ 8

    refused_step : Stays (step_call z ns es ws out who)
    unfolding step_call step_session
    refused_step =
        checked_by Stays (left ns es ws out 7) (stays ns es ws out) (step_session z ns es ws out who)
        (eqb (length out) 3) (lengths_fit z ns es ws) (ltb who 16) (same out 7) (λ m. same _ m)
        (step_decoded (decode (record_at ws who)) refl)

-- ---- fresh and reading
module _ (z : Size) (ns es ws : List ℕ) (n : ℕ) (some : n ≢ 0) (ns' es' ws' : List ℕ) where
  fresh_by : (b t : Bool) → cleared ns' es' ws' n ≡ cond b (after_fresh ws (cond t
      (opened (fresh_nodes ns) (fresh_entries es) (Ok fresh_counters))
      (opened ns es (Err Refusal.BadTable)))) (cleared ns es ws 7) → Unchanged ns es ws ns' es' ws'
  fresh_by true true told = let z : n ≡ 0 = cc in absurd (some z)
  fresh_by true false told = record { nodes = cc; entries = cc; words = cc }
  fresh_by false t told = record { nodes = cc; entries = cc; words = cc }

  refused_fresh : cleared ns' es' ws' n ≡ fresh_call z ns es ws → Unchanged ns es ws ns' es' ws'
  unfolding fresh_call fresh_of
  refused_fresh told = fresh_by (eqb (length ws) 147) (fits z ns es) told

  module _ (input out out' : List ℕ) where
    loaded_by : (r : Result Whole Unread) (t : Bool) → left ns' es' ws' out' n ≡ after_read ws out (cond t
        (on_reading input ns es r) (loads (tables ns es) (Err Unloaded.BadTable))) → Unchanged ns es ws ns' es' ws'
    unfolding number_of
    loaded_by (Ok w) true told = whole (loaded_tables input ns es) told
      where
        whole : (t : Tables) → left ns' es' ws' out' n ≡ after_read ws out (loads t (Ok (used w.count)))
            → Unchanged ns es ws ns' es' ws'
        whole (tables ns₁ es₁) told = let z : n ≡ 0 = cc in absurd (some z)
    loaded_by (Err (Unread.BadListing offset)) true told = record { nodes = cc; entries = cc; words = cc }
    loaded_by (Err Unread.TooMany) true told = record { nodes = cc; entries = cc; words = cc }
    loaded_by r false told = record { nodes = cc; entries = cc; words = cc }

    read_by : (a b : Bool) → left ns' es' ws' out' n ≡ cond a
        (cond b (read_loaded z input ns es ws out) (stays ns es ws out 7)) (left ns es ws out 7)
        → Unchanged ns es ws ns' es' ws'
    unfolding read_loaded load_of
    read_by true true told = loaded_by (check_of z.keys input) (fits z ns es) told
    read_by true false told = record { nodes = cc; entries = cc; words = cc }
    read_by false b told = record { nodes = cc; entries = cc; words = cc }

    refused_read : left ns' es' ws' out' n ≡ read_call z input ns es ws out → Unchanged ns es ws ns' es' ws'
    unfolding read_call
    refused_read told = read_by (eqb (length out) 3) (eqb (length ws) 147) told

-- ---- THE THEOREM
pub refused_keeps : (z : Size) (ns es ws : List ℕ) → RefusedKeeps z ns es ws
refused_keeps z ns es ws = record {
  fresh = λ ns' es' ws' n some. refused_fresh z ns es ws n some ns' es' ws';
  start = λ out ws' out' who kind first second n some.
      refused_start z ns es ws out who n some ws' out' kind first second;
  step = λ out ns' es' ws' out' who n some not_full.
      refused_step z ns es ws out who n some not_full ns' es' ws' out';
  steps = λ ps out ns' es' ws' ps' out' who limit n some not_full few.
      refused_steps z ns es ws ps out who limit n some not_full ns' es' ws' ps' out' few;
  read = λ input out ns' es' ws' out' n some. refused_read z ns es ws n some ns' es' ws' input out out';
}
