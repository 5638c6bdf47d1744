-- One step is the first of many: a call of one step, with an answer of three words, is the step.
-- In order: words past the answer's end are not written; one step of a record; the call. Assumes nothing.
use Prim.Native.Nat.{ℕ, ◌+◌, ◌*◌, ◌≤◌}
use mathlib.Core.Path.{◌≡◌, ◌∙◌, ap}
use mathlib.Core.List.{List}
use mathlib.Core.Bool.{Bool, true, false, cond}
use Rattle.std.specs.Prelude.{Result, Ok, Err}
use native.Mathlib.Omega.{arith}
use lib.ListN.{length}
use lib.Seq.{set_out}
use lib.Dec.{ltb}
use borrow.Author.Tests.{eq-eqb}
use Rattle.table.specs.Table.{store_of}
use Rattle.table.proofs.Laws.{store_length}
use Rattle.terms.specs.declared.Size.{Size}
use Rattle.steps.specs.declared.Session.{Session}
use Rattle.steps.specs.declared.Stepped.{Stepped}
use Rattle.steps.specs.Steps.{Done, done}
use Rattle.register.specs.Register.{step_of}
use Rattle.several.specs.Several.{Handed, handed, hand_out, turn_with, turn_by, turn_of, stops, go_on}
use Rattle.encoding.specs.declared.Malformed.{Malformed}
use Rattle.encoding.specs.Encoding.{decode}
use Rattle.packing.specs.declared.Reply.{Reply}
use Rattle.packing.specs.Packing.{counters_at, record_at, refused_by, put_reply}
use Rattle.exchange.specs.Exchange.{Left, left, stays}
use Rattle.calling.specs.Calling.{lengths_fit, on_decoded, Strode, strode, tally, stands_still, after_steps}
use Rattle.calling.specs.Calling.{steps_record, steps_session, many_call}
use Rattle.stepping.specs.Stepping.{after_step, step_record, step_session, step_call}

-- ---- words past the answer's end
module _ (out : List ℕ) (three : length out ≡ 3) where
  store_past : (k v : ℕ) → 3 ≤ k → store_of 5 out 0 k v ≡ out
  unfolding store_of
  store_past k v h = set_out out (0 * 5 + k) v (omega (arith, three, h))

  tally_past : (count made : ℕ) → tally out count made ≡ out
  tally_past count made =
      ap (λ o. store_of 5 o 0 4 made) (store_past 3 count (omega arith)) ∙ store_past 4 made (omega arith)

reply_length : (out : List ℕ) (r : Reply) → length (put_reply out r) ≡ length out
unfolding put_reply
reply_length out r = store_length 3 _ 0 2 _ ∙ store_length 3 _ 0 1 _ ∙ store_length 3 out 0 0 _

-- ---- what is left beside the pairs
abbrev left_of : Strode → Left
left_of (strode ns es ws ps out n) = left ns es ws out n

module _ (z : Size) (ns es ws ps out : List ℕ) (who : ℕ) (three : length out ≡ 3) where
  told_past : (r : Reply) (count made : ℕ) → tally (put_reply out r) count made ≡ put_reply out r
  told_past r = tally_past (put_reply out r) (reply_length out r ∙ three)

  still_past : (n : ℕ) → left_of (stands_still ns es ws ps out n) ≡ stays ns es ws out n
  still_past n = ap (λ o. left ns es ws o n) (told_past (refused_by n) 0 0)

  -- ---- one step of a record
  one_handed : (ns' es' : List ℕ) (r : Stepped) (h : Handed)
      → left_of (after_steps ws out who (stops 1 (turn_with ns' es' r h))) ≡ after_step ws out who (done ns' es' r)
  one_handed ns' es' r (handed qs n) = rw (told_past _ n 1)

  one_done : (d : Done) → left_of (after_steps ws out who (stops 1 (turn_by ps 0 d))) ≡ after_step ws out who d
  one_done (done ns' es' r) = one_handed ns' es' r (hand_out ps 0 r.answer)

  one_record : (s : Session) → left_of (steps_record z ns es ws ps out who 1 s) ≡ step_record z ns es ws out who s
  unfolding steps_record step_record go_on turn_of
  one_record s = one_done (step_of z ns es (counters_at ws) who s)

  -- ---- the call
  one_decoded : (d : Result Session Malformed)
      → left_of (on_decoded d (steps_record z ns es ws ps out who 1) (stands_still ns es ws ps out 8))
      ≡ on_decoded d (step_record z ns es ws out who) (stays ns es ws out 8)
  one_decoded (Ok s) = one_record s
  one_decoded (Err _) = still_past 8

  one_session : left_of (steps_session z ns es ws ps out who 1) ≡ step_session z ns es ws out who
  unfolding steps_session step_session
  one_session = one_decoded (decode (record_at ws who))

  one_known : (b : Bool) → left_of (cond b (steps_session z ns es ws ps out who 1) (stands_still ns es ws ps out 1))
      ≡ cond b (step_session z ns es ws out who) (stays ns es ws out 1)
  one_known true = one_session
  one_known false = still_past 1

  one_fitting : (b : Bool)
      → left_of (cond b (cond (ltb who 16) (steps_session z ns es ws ps out who 1) (stands_still ns es ws ps out 1))
      (stands_still ns es ws ps out 7))
      ≡ cond b (cond (ltb who 16) (step_session z ns es ws out who) (stays ns es ws out 1)) (stays ns es ws out 7)
  one_fitting true = one_known (ltb who 16)
  one_fitting false = still_past 7

  one_call : left_of (many_call z ns es ws ps out who 1) ≡ step_call z ns es ws out who
  unfolding many_call step_call
  one_call = rw (eq-eqb _ _ three) (one_fitting (lengths_fit z ns es ws))

  pub one_of_many : (ns' es' ws' ps' out' : List ℕ) (n : ℕ)
      → strode ns' es' ws' ps' out' n ≡ many_call z ns es ws ps out who 1
      → left ns' es' ws' out' n ≡ step_call z ns es ws out who
  one_of_many ns' es' ws' ps' out' n e = ap left_of e ∙ one_call
