-- What a short way tells is the outcome of the step of the record that the words stand for.
-- In order: the phase that the words say; Walk; Follow; Hand; the two calls.
-- Not here: that storing the words that change stores the record (crate stepping). Assumes nothing.
use Prim.Native.Nat.{ℕ, ◌+◌, ◌≤◌, ◌<◌}
use mathlib.Core.Path.{◌≡◌, refl, sym, ap, ◌∙◌}
use mathlib.Core.List.{List}
use mathlib.Core.Bool.{Bool, true, cond}
use Rattle.std.specs.Prelude.{Option, None, Result, Ok, Err}
use native.Mathlib.Omega.{arith}
use borrow.Author.Tests.{le-leb, ltb-true, leb-true, eqb-true}
use Rattle.order.proofs.Tests.{cond_cases, ltb_cases, eqb_cases}
use Rattle.bundle.specs.Bundle.{at_of}
use Rattle.bundle.specs.declared.Held.{Held}
use Rattle.nodes.specs.Nodes.{key_at, value_at, next_at, newest_at}
use Rattle.terms.specs.Terms.{sought_of, high_of, names_of}
use Rattle.terms.specs.declared.Size.{Size}
use Rattle.terms.specs.declared.Counters.{Counters}
use Rattle.terms.specs.declared.Op.{Op}
use Rattle.terms.specs.declared.Answer.{Answer}
use Rattle.steps.specs.declared.Phase.{Phase}
use Rattle.steps.specs.Steps.{done, under_way, gives, works, moves_on, range_sees, act_step}
use Rattle.reading.proofs.Ways.{walk_on, range_on, range_in, follow_leads, hands}
use Rattle.encoding.specs.declared.PhaseWords.{PhaseWords}
use Rattle.encoding.specs.declared.Words.{Words}
use Rattle.encoding.specs.Encoding.{op_words, phase_words, phase_from, session_from, op_right, decode}
use Rattle.encoding.proofs.Ways.{is_walk, is_follow, is_hand, is_walking, is_reading, is_range, right_range}
use Rattle.encoding.proofs.Ways.{front_all, front_last, back_walks, back_last}
use Rattle.encoding.proofs.Trip.{three_same, right_decodes}
use Rattle.packing.specs.Packing.{reply_with, reply_of, number_of}
use Rattle.shortly.specs.declared.Ranged.{Ranged}
use Rattle.shortly.specs.Shortly.{seeks_of, walk_zeros, walk_shortly, sees_shortly, on_taken}
use Rattle.shortly.specs.Shortly.{follow_shortly, hand_shortly, range_zeros, range_shortly}
use Rattle.shortly.specs.Told.{named, Agrees, moved_to, led_to, handed_out, WalkTold, RangeTold}

-- ---- the operation that the words say
pub op_sought : (op : Op) → sought_of op ≡ (op_words op).first
op_sought Op.None = refl
op_sought (Op.Insert key value) = refl
op_sought (Op.Remove key) = refl
op_sought (Op.Has key) = refl
op_sought (Op.Range low high) = refl

op_named : (op : Op) → ((op_words op).kind ≡ 0 → ⊥) → names_of op ≡ true
op_named Op.None h = absurd (h refl)
op_named (Op.Insert key value) h = refl
op_named (Op.Remove key) h = refl
op_named (Op.Has key) h = refl
op_named (Op.Range low high) h = refl

-- ---- the phase that the words say
module _ (w : PhaseWords) where
  pub walk_phase : w.phase ≡ 1 → Phase.Walk w.a w.b ≡ phase_from w
  walk_phase one = is_walking w _ (omega arith) (omega arith) (is_walk _ _ _ one)

  follow_phase : w.phase ≡ 11 → Phase.Follow w.a w.b w.c ≡ phase_from w
  follow_phase h = is_reading w _ (omega arith) (omega arith) (omega arith) (is_follow _ _ _ _ h)

  hand_phase : w.phase ≡ 12 → Phase.Hand w.a w.b w.c ≡ phase_from w
  hand_phase h =
      is_reading w _ (omega arith) (omega arith) (omega arith)
      (is_hand w.phase w.a w.b w.c (omega arith) (omega arith) (omega arith))

module _ (z : Size) (ns es : List ℕ) (who : ℕ) (w : Words) where
  -- from the phase that the words say, the phase after it with its words, and the answer
  pub agrees : (ns' : List ℕ) (here phase : Phase) (a : Answer) (p : PhaseWords)
      → decode w ≡ Ok (session_from w)
      → here ≡ phase_from w.phase → names_of (named w) ≡ true → under_way here ≡ true → phase_words phase ≡ p
      → number_of (reply_of a) ≡ 0
      → ((c : Counters) → act_step z ns es c who (named w) here ≡ done ns' es (gives c (named w) phase a))
      → Agrees z ns es who w ns' p (reply_of a)
  agrees ns' here phase a p read at names way words number acts =
      record {
        phase = phase;
        answer = a;
        read = read;
        busy = rw (← at, names, way);
        acts = λ c. rw (← at) (acts c);
        words = words;
        reply = refl;
        number = number;
      }

  -- ---- Walk
  module _ (some : w.op.kind ≡ 0 → ⊥) (right : op_right w.op ≡ true) where
    walk_sought : sought_of (named w) ≡ w.op.first
    unfolding op_right
    walk_sought = op_sought (named w) ∙ sym (three_same _ _ _ _ _ _ right).1

    walk_named : names_of (named w) ≡ true
    unfolding op_right
    walk_named = op_named (named w) (λ h. some ((three_same _ _ _ _ _ _ right).0 ∙ h))

    module _ (one : w.phase.phase ≡ 1) (unused : walk_zeros w.phase ≡ true) where
      walk_read : decode w ≡ Ok (session_from w)
      walk_read =
          right_decodes w right (sym (front_all w.phase (omega arith) (omega arith)))
          (sym (back_walks w.phase true (omega arith) (sym unused)))

      walk_words : (n : ℕ) → phase_words (Phase.Walk w.phase.b n) ≡ moved_to w.phase n
      walk_words n = let zeros = three_same _ _ _ _ _ _ unused in cc

      walk_agrees : w.phase.b < z.nodes → key_at ns w.phase.b < w.op.first
          → Agrees z ns es who w ns (moved_to w.phase (next_at ns w.phase.b)) (reply_with 2 0 0)
      unfolding number_of
      walk_agrees in_table below =
          agrees ns (Phase.Walk w.phase.a w.phase.b) (Phase.Walk w.phase.b (next_at ns w.phase.b))
          Answer.Working _ walk_read (walk_phase w.phase one) walk_named refl (walk_words _) refl
          (λ c. ap (done ns es)
          (sym (walk_on _ _ _ _ _ _ _ _ _ _ in_table refl (sym walk_sought) below refl refl)))

  -- ---- Follow and Hand
  module _ (four : w.op.kind ≡ 4) (unused : range_zeros w ≡ true) where
    range_read : 10 < w.phase.phase → w.phase.phase ≤ 12 → decode w ≡ Ok (session_from w)
    range_read h i =
        right_decodes w (sym (right_range w.op four)) (sym (front_last w.phase h) ∙ le-leb _ _ i)
        (sym (back_last w.phase true h (sym unused)))

    range_named : Op.Range w.op.first w.op.second ≡ named w
    range_named = is_range _ _ _ four

    module _ (to : ℕ) (follows : w.phase.phase ≡ 11) (in_table : w.phase.a < z.nodes)
        (link : Ok to ≡ at_of z.entries es (newest_at ns w.phase.a) w.phase.b) (known : to < z.nodes)
      where
        leads_agrees : (then : Phase) (p : PhaseWords) → phase_words then ≡ p
            → ((c : Counters)
            → works c (named w) then ≡ range_sees z ns c (named w) w.phase.a w.phase.b w.phase.c to)
            → Agrees z ns es who w ns p (reply_with 2 0 0)
        unfolding number_of
        leads_agrees then p words sees =
            agrees ns (Phase.Follow w.phase.a w.phase.b w.phase.c) then Answer.Working p
            (range_read (omega arith) (omega arith)) (follow_phase w.phase follows) (rw (← range_named)) refl words
            refl
            (λ c. ap (done ns es)
            (sym (follow_leads _ _ _ _ _ _ _ _ _ _ _ in_table refl link to refl (sees c))))

        on_agrees : key_at ns to < w.op.first → Agrees z ns es who w ns (led_to w.phase 11 to) (reply_with 2 0 0)
        on_agrees below =
            let zeros = three_same _ _ _ _ _ _ unused in
            leads_agrees (Phase.Follow to w.phase.b w.phase.c) _ (cc)
            (λ c. range_on _ _ _ _ _ _ _ _ _ _ _ known refl (ap sought_of range_named) below refl)

        key_agrees : w.op.first ≤ key_at ns to → key_at ns to ≤ w.op.second
            → Agrees z ns es who w ns (led_to w.phase 12 to) (reply_with 2 0 0)
        key_agrees reached within =
            let zeros = three_same _ _ _ _ _ _ unused in
            leads_agrees (Phase.Hand to w.phase.b w.phase.c) _ (cc)
            (λ c. range_in _ _ _ _ _ _ _ _ _ _ _ known refl (ap sought_of range_named) _ reached
            (ap high_of range_named) within refl)

    hand_agrees : w.phase.phase ≡ 12 → w.phase.a < z.nodes → w.phase.c < z.keys
        → Agrees z ns es who w ns (handed_out w.phase (w.phase.c + 1))
        (reply_with 4 (key_at ns w.phase.a) (value_at ns w.phase.a))
    unfolding number_of
    hand_agrees h in_table few =
        let zeros = three_same _ _ _ _ _ _ unused in
        agrees ns (Phase.Hand w.phase.a w.phase.b w.phase.c)
        (Phase.Follow w.phase.a w.phase.b (w.phase.c + 1))
        (Answer.Key (key_at ns w.phase.a) (value_at ns w.phase.a)) _ (range_read (omega arith) (omega arith))
        (hand_phase w.phase h) (rw (← range_named)) refl (cc) refl
        (λ c. ap (done ns es) (sym (hands _ _ _ _ _ _ _ _ _ _ in_table few refl refl refl)))

  -- ---- the two calls: every way out is None, or agrees
  abbrev Walks : Option ℕ → Type 0
  Walks = WalkTold z ns es who w

  walk_held : (t : Bool) (x : Option ℕ) → (t ≡ true → Walks x) → Walks (cond t x None)
  walk_held t x f = cond_cases Walks t x None f (λ _. tt)

  walk_told : (w.op.kind ≡ 0 → ⊥) → op_right w.op ≡ true
      → WalkTold z ns es who w (walk_shortly z ns w.op.first w.phase)
  unfolding walk_shortly moves_on
  walk_told some right =
      walk_held _ _ (λ one. walk_held _ _ (λ unused. walk_held _ _ (λ known. walk_held _ _ (λ below.
      walk_agrees some right (eqb-true _ _ one) unused (ltb-true _ _ known) (ltb-true _ _ below)))))

  pub walk_is_step : seeks_of w.op ≡ true → WalkTold z ns es who w (walk_shortly z ns w.op.first w.phase)
  unfolding seeks_of
  walk_is_step =
      eqb_cases (λ b. b ≡ true → WalkTold z ns es who w (walk_shortly z ns w.op.first w.phase))
      w.op.kind 0 _ _
      (λ _ no. let z : ◌≡◌ {A = ℕ} 0 1 = cc in absurd (omega (arith, z))) walk_told

  abbrev Ranges : Option Ranged → Type 0
  Ranges = RangeTold z ns es who w

  range_held : (t : Bool) (x : Option Ranged) → (t ≡ true → Ranges x) → Ranges (cond t x None)
  range_held t x f = cond_cases Ranges t x None f (λ _. tt)

  module _ (four : w.op.kind ≡ 4) (unused : range_zeros w ≡ true) where
    module _ (follows : w.phase.phase ≡ 11) (in_table : w.phase.a < z.nodes) where
      sees_told : (to : ℕ) → at_of z.entries es (newest_at ns w.phase.a) w.phase.b ≡ Ok to
          → Ranges (sees_shortly z ns w.op.first w.op.second to)
      unfolding sees_shortly
      sees_told to link =
          range_held _ _ (λ known.
          ltb_cases Ranges (key_at ns to) w.op.first _ _
          (on_agrees four unused to follows in_table (sym link) (ltb-true _ _ known))
          (λ reached. range_held _ _ (λ within.
          key_agrees four unused to follows in_table (sym link) (ltb-true _ _ known) reached
          (leb-true _ _ within))))

      read_told : (o : Result ℕ Held) → at_of z.entries es (newest_at ns w.phase.a) w.phase.b ≡ o
          → Ranges (on_taken o (sees_shortly z ns w.op.first w.op.second))
      read_told (Ok to) link = sees_told to link
      read_told (Err _) link = tt

    follow_told : w.phase.phase ≡ 11
        → Ranges (follow_shortly z ns es w.op.first w.op.second w.phase.a w.phase.b)
    unfolding follow_shortly
    follow_told follows = range_held _ _ (λ in_table. read_told follows (ltb-true _ _ in_table) _ refl)

    hand_told : w.phase.phase ≡ 12 → Ranges (hand_shortly z ns w.phase.a w.phase.c)
    unfolding hand_shortly
    hand_told hands =
        range_held _ _ (λ in_table. range_held _ _ (λ few.
        hand_agrees four unused hands (ltb-true _ _ in_table) (ltb-true _ _ few)))

  pub range_is_step : RangeTold z ns es who w (range_shortly z ns es w)
  unfolding range_shortly
  range_is_step =
      range_held _ _ (λ four. range_held _ _ (λ unused.
      eqb_cases Ranges w.phase.phase 11 _ _ (follow_told (eqb-true _ _ four) unused)
      (λ _. range_held _ _ (λ hands. hand_told (eqb-true _ _ four) unused (eqb-true _ _ hands)))))
