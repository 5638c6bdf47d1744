-- A short way is the step: storing the words that change, and the reply, leaves what the step of the decoded record
-- leaves.
-- In order: the call's checks; the step; the words; each way out of the functions that take a short way: a range's, an
-- update's that changes the phase alone, an update's last. Assumes nothing.
use Prim.Native.Nat.{ℕ}
use mathlib.Core.Path.{◌≡◌, refl, ap, ◌∙◌}
use mathlib.Core.List.{List}
use mathlib.Core.Bool.{Bool, true, false}
use Rattle.std.specs.Prelude.{Option, Some, None}
use lib.ListN.{length}
use lib.Dec.{eqb}
use borrow.Author.Tests.{lt-ltb, eq-eqb}
use Rattle.terms.specs.declared.Size.{Size}
use Rattle.terms.specs.declared.Counters.{Counters}
use Rattle.terms.specs.declared.Answer.{Answer}
use Rattle.steps.specs.declared.Stepped.{Stepped}
use Rattle.steps.specs.Steps.{done, gives, finish_answer}
use Rattle.register.specs.Register.{fits, step_of}
use Rattle.encoding.specs.declared.OpWords.{OpWords}
use Rattle.encoding.specs.declared.PhaseWords.{PhaseWords}
use Rattle.encoding.specs.declared.Words.{Words}
use Rattle.encoding.specs.Encoding.{op_words, phase_with, session_from}
use Rattle.encoding.proofs.Trip.{and_first, encode_decode}
use Rattle.packing.specs.declared.Reply.{Reply}
use Rattle.packing.specs.Packing.{counters_at, op_at, phase_at, record_at, put_phase, reply_of, number_of, put_reply}
use Rattle.packing.proofs.Same.{counters_same, op_same, lead_put, hand_put}
use Rattle.exchange.specs.Exchange.{words_room, Left, left}
use Rattle.shortly.specs.declared.Ranged.{Ranged}
use Rattle.shortly.specs.Shortly.{range_shortly}
use Rattle.shortly.specs.Told.{named, Agrees, RangeTold}
use Rattle.shortly.proofs.Agrees.{range_is_step}
use Rattle.advancing.specs.Advancing.{advanced, removing, advance_of}
use Rattle.advancing.specs.Told.{AdvanceTold}
use Rattle.advancing.proofs.Agrees.{advance_is_step, advance_none}
use Rattle.closing.specs.Closing.{number_ahead, finished, finish_ahead}
use Rattle.closing.specs.Told.{Acts}
use Rattle.closing.proofs.Agrees.{number_is_step, finish_is_step, finish_none}
use Rattle.calling.specs.Calling.{lengths_fit, kept}
use Rattle.stepping.specs.Stepping.{IsAdmitted, heard, went, settled, ended, after_step, step_record, step_session}
use Rattle.stepping.specs.Stepping.{step_call}

no_refusal : (removes : Bool) (n : ℕ) → number_of (reply_of (finish_answer removes n)) ≡ 0
unfolding number_of
no_refusal true n = refl
no_refusal false n = refl

module _ (z : Size) (ns es ws out : List ℕ) (who : ℕ) (ready : IsAdmitted z ns es ws out who) where
  -- ---- the call's checks
  call_goes : step_call z ns es ws out who ≡ step_session z ns es ws out who
  unfolding step_call
  call_goes = rw (eq-eqb _ _ ready.0, ready.1, lt-ltb who 16 ready.2)

  tables_fit : fits z ns es ≡ true
  unfolding lengths_fit
  tables_fit = and_first (fits z ns es) (eqb (length ws) words_room) ready.1

  -- ---- the step, and the words
  module _ (ns' : List ℕ) (p : PhaseWords) (r : Reply) (g : Agrees z ns es who (record_at ws who) ns' p r) where
    steps_to : step_of z ns es (counters_at ws) who (session_from (record_at ws who))
        ≡ done ns' es (gives (counters_at ws) (named (record_at ws who)) g.phase g.answer)
    unfolding step_of
    steps_to = rw (tables_fit, lt-ltb who 16 ready.2, g.busy) (g.acts (counters_at ws))

    op_kept : op_words (named (record_at ws who)) ≡ op_at ws who
    op_kept = ap (λ v. v.op) (encode_decode (record_at ws who) (session_from (record_at ws who)) g.read)

    keeps_rest : kept ws who (counters_at ws) (record { op = named (record_at ws who); phase = g.phase })
        ≡ put_phase ws who p
    keeps_rest = rw (counters_same ws, op_kept, op_same ws who, g.words)

    pub short_steps : left ns' es (put_phase ws who p) (put_reply out r) 0 ≡ step_call z ns es ws out who
    unfolding step_session step_record
    short_steps = rw (call_goes, g.read, steps_to, keeps_rest, g.reply, g.number)

  -- ---- each way out
  module _ (w : Words) (r : Reply) (ws' out' : List ℕ) (n : ℕ) (words : w ≡ record_at ws who) where
    module _ (x : Option Ranged) (e : x ≡ range_shortly z ns es w) where
      pub leads_shortly : (f to : ℕ) → x ≡ Some (Ranged.Leads f to) → r ≡ reply_of Answer.Working
          → heard ws' out' n ≡ went ws out who 6 f 7 to r → left ns es ws' out' n ≡ step_call z ns es ws out who
      leads_shortly f to goes says puts =
          let told : range_shortly z ns es (record_at ws who) ≡ Some (Ranged.Leads f to) = rw (← words, ← e, goes) in
          let g : RangeTold z ns es who (record_at ws who) (Some (Ranged.Leads f to))
          = rw told at (range_is_step z ns es who (record_at ws who)) in
          cc (short_steps _ _ _ g, lead_put ws who f to)

      pub hands_shortly : (m k v : ℕ) → x ≡ Some (Ranged.Hands m k v) → r ≡ reply_of (Answer.Key k v)
          → heard ws' out' n ≡ went ws out who 6 11 9 m r → left ns es ws' out' n ≡ step_call z ns es ws out who
      hands_shortly m k v goes says puts =
          let told : range_shortly z ns es (record_at ws who) ≡ Some (Ranged.Hands m k v) = rw (← words, ← e, goes) in
          let g : RangeTold z ns es who (record_at ws who) (Some (Ranged.Hands m k v))
          = rw told at (range_is_step z ns es who (record_at ws who)) in
          cc (short_steps _ _ _ g, hand_put ws who 11 m)

-- ---- an update's step that changes the phase alone
module _ (z : Size) (ns es ws out : List ℕ) (who : ℕ) (o : OpWords) (p : PhaseWords) (ns' : List ℕ) (x : Option ℕ)
    (way : advanced ns' x ≡ advance_of z ns who o p) where
  pub advances_fully : (t : Left) → x ≡ None → t ≡ step_call z ns' es ws out who → t ≡ step_call z ns es ws out who
  advances_fully t none e = e ∙ ap (λ m. step_call z m es ws out who) (advance_none z ns who o p ns' x way none)

  pub advances_shortly : (f : ℕ) (r : Reply) (ws' out' : List ℕ) (n : ℕ) → IsAdmitted z ns es ws out who
      → o ≡ op_at ws who → p ≡ phase_at ws who → x ≡ Some f → r ≡ reply_of Answer.Working
      → heard ws' out' n ≡ went ws out who 6 f 7 p.a r → left ns' es ws' out' n ≡ step_call z ns es ws out who
  advances_shortly f r ws' out' n ready op phase some says puts =
      let told : advance_of z ns who (op_at ws who) (phase_at ws who) ≡ advanced ns' (Some f)
      = rw (← op, ← phase, ← way, some) in
      let g : AdvanceTold z ns es who (record_at ws who) (advanced ns' (Some f))
      = rw told at (advance_is_step z ns es who (record_at ws who)) in
      cc (short_steps z ns es ws out who ready _ _ _ g, lead_put ws who f (phase_at ws who).a)

-- ---- an update's last steps
module _ (z : Size) (ns es ws out : List ℕ) (who : ℕ) (ready : IsAdmitted z ns es ws out who) where
  acts_left : (ns' es' : List ℕ) (r : Stepped) → Acts z ns es (counters_at ws) who (record_at ws who) ns' es' r
      → after_step ws out who (done ns' es' r) ≡ step_call z ns es ws out who
  unfolding step_session step_record step_of
  acts_left ns' es' r g =
      rw (call_goes z ns es ws out who ready, g.read, tables_fit z ns es ws out who ready, lt-ltb who 16 ready.2)
      (rw (g.busy, g.acts))

  module _ (o : OpWords) (p : PhaseWords) (op : o ≡ op_at ws who) (phase : p ≡ phase_at ws who)
      (ws' out' : List ℕ) (m : ℕ) where
    pub numbers_shortly : (r : Reply) (c : Counters) (x : Option ℕ) (n : ℕ) → c ≡ counters_at ws
        → x ≡ number_ahead z c.stamp o p → x ≡ Some n → r ≡ reply_of Answer.Working
        → heard ws' out' m ≡ settled ws out who (record { nodes = c.nodes; entries = c.entries; stamp = n })
        (record { op = o; phase = phase_with 7 p.a p.b p.c p.d n }) r
        → left ns es ws' out' m ≡ step_call z ns es ws out who
    unfolding number_of
    numbers_shortly r c x n counters way some says puts =
        let told : Some n ≡ number_ahead z (counters_at ws).stamp (op_at ws who) (phase_at ws who) = cc in
        let g = number_is_step z ns es (counters_at ws) who (record_at ws who) n told in
        let kept : op_words (named (record_at ws who)) ≡ op_at ws who
        = ap (λ v. v.op) (encode_decode (record_at ws who) (session_from (record_at ws who)) g.1.read) in
        cc (acts_left ns es _ g.1, g.0, kept)

    pub finishes_shortly : (ns' es' : List ℕ) (t b : Bool) → finished ns' es' t ≡ finish_ahead z ns es o p → t ≡ true
        → b ≡ removing o → heard ws' out' m ≡ ended ws out who b p.e
        → left ns' es' ws' out' m ≡ step_call z ns es ws out who
    finishes_shortly ns' es' t b way ends kind puts =
        let told : finished ns' es' t ≡ finish_ahead z ns es (op_at ws who) (phase_at ws who) = cc in
        let g = finish_is_step z ns es (counters_at ws) who (record_at ws who) ns' es' t told ends in
        cc (acts_left ns' es' _ g, no_refusal (removing (op_at ws who)) (phase_at ws who).e)

  pub finishes_fully : (o : OpWords) (p : PhaseWords) (ns' es' : List ℕ) (t : Bool) (x : Left)
      → finished ns' es' t ≡ finish_ahead z ns es o p → t ≡ false → x ≡ step_call z ns' es' ws out who
      → x ≡ step_call z ns es ws out who
  finishes_fully o p ns' es' t x way none e =
      let k = finish_none z ns es o p ns' es' t way none in e ∙ rw (k.0, k.1)
