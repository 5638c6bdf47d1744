-- Slices that go on holding a register: whoever puts the counters and one session's record of another register, all
-- other records being the same, holds that one.
-- In order: a record out of its words; the slices with another record; the library's step and start as a step and a
-- start of that record, whatever they refuse.
-- Not here: which register a call leaves (Calls). Assumes nothing.
use Prim.Native.Nat.{ℕ, ◌<◌}
use mathlib.Core.Path.{◌≡◌, refl, sym, ◌∙◌, ap}
use mathlib.Core.Logic.{◌≢◌}
use mathlib.Core.Bool.{Bool, true, false}
use mathlib.Core.List.{List}
use native.Mathlib.Omega.{arith}
use native.Mathlib.Decide.{ℕ_discrete, dec_lt}
use lib.ListN.{length, get_or-eq_default}
use lib.Dec.{ltb}
use borrow.Author.Tests.{eq-eqb}
use Rattle.terms.specs.Terms.{small}
use Rattle.terms.specs.declared.Op.{Op}
use Rattle.terms.specs.declared.Refusal.{Refusal}
use Rattle.steps.specs.declared.Session.{Session}
use Rattle.steps.specs.Steps.{done, idle, refuses}
use Rattle.register.specs.Register.{fits, keeps, start_of, step_of}
use Rattle.reached.specs.Reached.{State, record_of}
use Rattle.std.specs.Prelude.{Ok}
use Rattle.encoding.specs.Encoding.{encode, op_from, decode}
use Rattle.encoding.proofs.Trip.{decode_encode}
use Rattle.packing.specs.Packing.{counters_at, put_counters, record_at}
use Rattle.calling.specs.Calling.{lengths_fit, kept}
use Rattle.stepping.specs.Stepping.{step_record, step_session, step_call}
use Rattle.ffi.specs.Ffi.{start_record, start_session, start_call}
use Rattle.ffi.proofs.Kept.{refused_start_keeps, refused_step_keeps}
use Rattle.driven.specs.Driven.{Holds}
use Rattle.driven.proofs.Words.{counters_length, counters_put, record_beside, record_length, counters_beside}
use Rattle.driven.proofs.Words.{record_other, record_put, record_past}

module _ (ns es ws : List ℕ) (σ : State) (H : Holds ns es ws σ) where
  -- ---- a record out of its words: a session past the sixteenth counts as idle, and its words as 0
  held : (who : ℕ) → record_at ws who ≡ encode (record_of σ who)
  held who = elim (dec_lt who 16) [
    | yes known ↦ H.records who known
    | no past ↦ record_past ws who H.long (omega arith)
        ∙ ap encode (sym (get_or-eq_default σ.register.sessions idle {n = who} (omega (arith, H.sixteen))))
  ]

  pub decoded : (who : ℕ) → decode (record_at ws who) ≡ Ok (record_of σ who)
  decoded who = ap decode (held who) ∙ decode_encode (record_of σ who)

  -- ---- the slices with another record
  module _ (who : ℕ) (s : Session) (σ' : State) (own : who < 16 → record_of σ' who ≡ s)
      (others : (w : ℕ) → w ≢ who → record_of σ' w ≡ record_of σ w) where
    abbrev ws' : List ℕ
    ws' = kept ws who σ'.register.counters s

    abbrev mid : List ℕ
    mid = put_counters ws σ'.register.counters

    own_record : (w : ℕ) → w < 16 → w ≡ who → record_at ws' w ≡ encode (record_of σ' w)
    own_record w known e =
        let long = counters_length ws σ'.register.counters in
        ap (record_at ws') e ∙ record_put mid who (encode s) (omega (arith, known, e, long, H.long))
        ∙ ap encode (sym (own (omega (arith, known, e))) ∙ ap (record_of σ') (sym e))

    other_record : (w : ℕ) → w < 16 → w ≢ who → record_at ws' w ≡ encode (record_of σ' w)
    other_record w known apart =
        record_other mid who (encode s) w apart ∙ record_beside ws σ'.register.counters w ∙ H.records w known
        ∙ ap encode (sym (others w apart))

    pub kept_holds : length σ'.register.sessions ≡ 16 → Holds σ'.nodes σ'.entries ws' σ'
    kept_holds sixteen = record {
      nodes = refl;
      entries = refl;
      long = record_length mid who (encode s) ∙ counters_length ws σ'.register.counters ∙ H.long;
      counters = counters_beside mid who (encode s)
          ∙ counters_put ws σ'.register.counters (omega (arith, H.long));
      sixteen = sixteen;
      records = λ w known. elim (ℕ_discrete w who) [
        | yes e ↦ own_record w known e
        | no apart ↦ other_record w known apart
      ];
    }

-- ---- the library's step and start: what is refused before the record is read, the register would refuse as well
module _ (ns es ws out : List ℕ) (who : ℕ) (s : Session) (three : length out ≡ 3) (long : length ws ≡ 147)
    (read : decode (record_at ws who) ≡ Ok s) where
  module _ (op : Op) where
    start_table : fits small ns es ≡ false → start_of small ns es who s op ≡ keeps s Refusal.BadTable
    unfolding start_of
    start_table f = rw f

    start_past : fits small ns es ≡ true → ltb who 16 ≡ false → start_of small ns es who s op
        ≡ keeps s Refusal.BadSession
    unfolding start_of
    start_past f t = rw (f, t)

  step_table : fits small ns es ≡ false → step_of small ns es (counters_at ws) who s
      ≡ done ns es (refuses (counters_at ws) s.op s.phase Refusal.BadTable)
  unfolding step_of
  step_table f = rw f

  step_past : fits small ns es ≡ true → ltb who 16 ≡ false → step_of small ns es (counters_at ws) who s
      ≡ done ns es (refuses (counters_at ws) s.op s.phase Refusal.BadSession)
  unfolding step_of
  step_past f t = rw (f, t)

  pub step_of_record : step_call small ns es ws out who ≡ step_record small ns es ws out who s
  unfolding step_call step_session lengths_fit
  step_of_record = by (fits small ns es) (ltb who 16) refl refl
    where
      by : (b t : Bool) → fits small ns es ≡ b → ltb who 16 ≡ t
          → step_call small ns es ws out who ≡ step_record small ns es ws out who s
      by true true f t = rw (eq-eqb _ _ three, f, eq-eqb _ _ long, t, read)
      by true false f t =
          rw (eq-eqb _ _ three, f, eq-eqb _ _ long, t)
          (sym (refused_step_keeps ws who s read small ns es out Refusal.BadSession (step_past f t)))
      by false t f g =
          rw (eq-eqb _ _ three, f)
          (sym (refused_step_keeps ws who s read small ns es out Refusal.BadTable (step_table f)))

  pub start_of_record : (kind first second : ℕ) → start_call small ns es ws out who kind first second
      ≡ start_record small ns es ws out who (op_from kind first second) s
  unfolding start_call start_session lengths_fit
  start_of_record kind first second = by (fits small ns es) (ltb who 16) refl refl
    where
      op : Op
      op = op_from kind first second

      by : (b t : Bool) → fits small ns es ≡ b → ltb who 16 ≡ t
          → start_call small ns es ws out who kind first second ≡ start_record small ns es ws out who op s
      by true true f t = rw (eq-eqb _ _ three, f, eq-eqb _ _ long, t, read)
      by true false f t =
          rw (eq-eqb _ _ three, f, eq-eqb _ _ long, t)
          (sym (refused_start_keeps ws who s read small ns es out Refusal.BadSession op (start_past op f t)))
      by false t f g =
          rw (eq-eqb _ _ three, f)
          (sym (refused_start_keeps ws who s read small ns es out Refusal.BadTable op (start_table op f)))
