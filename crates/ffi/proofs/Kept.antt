-- A refusal by the register changes nothing but the answer: where start or step leaves its record (demand 1, refused
-- other than full), the words that are put back are those that were there.
-- In order: the words; start; step. Assumes nothing.
use Prim.Native.Nat.{ℕ}
use mathlib.Core.Path.{◌≡◌, ap, ◌∙◌}
use mathlib.Core.List.{List}
use Rattle.terms.specs.Terms.{refusal_number}
use Rattle.terms.specs.declared.Size.{Size}
use Rattle.terms.specs.declared.Op.{Op}
use Rattle.terms.specs.declared.Refusal.{Refusal}
use Rattle.steps.specs.declared.Session.{Session}
use Rattle.steps.specs.Steps.{done, refuses}
use Rattle.register.specs.Register.{keeps, start_of, step_of}
use Rattle.std.specs.Prelude.{Ok}
use Rattle.encoding.specs.Encoding.{encode, decode}
use Rattle.encoding.proofs.Trip.{encode_decode}
use Rattle.packing.specs.Packing.{counters_at, record_at, put_record, number_of}
use Rattle.packing.proofs.Same.{counters_same, record_same}
use Rattle.exchange.specs.Exchange.{stays}
use Rattle.calling.specs.Calling.{kept}
use Rattle.stepping.specs.Stepping.{step_record}
use Rattle.ffi.specs.Ffi.{deaf, start_record}

module _ (ws : List ℕ) (who : ℕ) (s : Session) (read : decode (record_at ws who) ≡ Ok s) where
  pub record_kept : put_record ws who (encode s) ≡ ws
  record_kept = ap (put_record ws who) (encode_decode (record_at ws who) s read) ∙ record_same ws who

  pub words_kept : kept ws who (counters_at ws) s ≡ ws
  words_kept = ap (λ v. put_record v who (encode s)) (counters_same ws) ∙ record_kept

  module _ (z : Size) (ns es out : List ℕ) (why : Refusal) where
    pub refused_start_keeps : (op : Op) → start_of z ns es who s op ≡ keeps s why
        → start_record z ns es ws out who op s ≡ deaf ws out (refusal_number why)
    unfolding start_record number_of
    refused_start_keeps op e = rw (e, record_kept)

    pub refused_step_keeps : step_of z ns es (counters_at ws) who s
        ≡ done ns es (refuses (counters_at ws) s.op s.phase why)
        → step_record z ns es ws out who s ≡ stays ns es ws out (refusal_number why)
    unfolding step_record number_of
    refused_step_keeps e = rw (e, words_kept)
