-- The round trip: a record's words decode to that record, decoded words encode back to themselves, and malformed words
-- are no record's.
-- In order: words that test as the same are the same; right words are those of what they stand for; the record that a
-- record's words stand for; the three laws. Assumes nothing.
use Prim.Native.Nat.{ℕ}
use mathlib.Core.Path.{◌≡◌, refl, sym, ap, ◌∙◌}
use mathlib.Core.Bool.{Bool, true, false, cond, ◌&&◌}
use Rattle.std.specs.Prelude.{Ok}
use lib.Dec.{eqb}
use native.Mathlib.Omega.{arith}
use borrow.Author.Tests.{eqb-true}
use Rattle.terms.specs.declared.Op.{Op}
use Rattle.steps.specs.declared.Phase.{Phase}
use Rattle.steps.specs.declared.Session.{Session}
use Rattle.encoding.specs.declared.OpWords.{OpWords}
use Rattle.encoding.specs.declared.PhaseWords.{PhaseWords}
use Rattle.encoding.specs.declared.Words.{Words}
use Rattle.encoding.specs.Encoding.{kind_with, phase_with, op_words, phase_words, encode, op_from}
use Rattle.encoding.specs.Encoding.{phase_from, session_from, same_three, op_right}
use Rattle.encoding.specs.Encoding.{front_right, back_right, malformed, decode}
use Rattle.encoding.proofs.Ways.{three_self}

-- ---- words that test as the same are the same
pub and_first : (p q : Bool) → (p && q) ≡ true → p ≡ true
and_first true q h = refl
and_first false q h = h

pub and_second : (p q : Bool) → (p && q) ≡ true → q ≡ true
and_second true q h = h
and_second false q h = cc

pub three_same : (a b c x y z : ℕ) → same_three a b c x y z ≡ true → (a ≡ x) × (b ≡ y) × (c ≡ z)
unfolding same_three
three_same a b c x y z h =
    let rest = and_second (eqb a x) (eqb b y && eqb c z) h in (
      eqb-true a x (and_first (eqb a x) (eqb b y && eqb c z) h),
      eqb-true b y (and_first (eqb b y) (eqb c z) rest),
      eqb-true c z (and_second (eqb b y) (eqb c z) rest),
    )

-- ---- right words are those of what they stand for
abbrev spread : PhaseWords → PhaseWords
spread w = phase_with w.phase w.a w.b w.c w.d w.e

pub op_right_lem : (w : OpWords) → op_right w ≡ true → op_words (op_from w.kind w.first w.second) ≡ w
unfolding op_right
op_right_lem w h =
    let o = three_same _ _ _ _ _ _ h in
    let v = op_words (op_from w.kind w.first w.second) in
    let e : kind_with v.kind v.first v.second ≡ kind_with w.kind w.first w.second = cc in e

pub phase_right : (w : PhaseWords) → front_right w ≡ true → back_right w ≡ true → phase_words (phase_from w) ≡ w
unfolding front_right back_right
phase_right w h i =
    let p = three_same _ _ _ _ _ _ h in
    let q = three_same _ _ _ _ _ _ i in
    let e : spread (phase_words (phase_from w)) ≡ spread w = cc in e

-- ---- the record that a record's words stand for
pub op_back : (op : Op) → op_from (op_words op).kind (op_words op).first (op_words op).second ≡ op
unfolding op_from
op_back Op.None = refl
op_back (Op.Insert key value) = refl
op_back (Op.Remove key) = refl
op_back (Op.Has key) = refl
op_back (Op.Range low high) = refl

pub phase_back : (p : Phase) → phase_from (phase_words p) ≡ p
unfolding phase_from
phase_back Phase.Idle = refl
phase_back (Phase.Walk pred curr) = refl
phase_back (Phase.Lock pred curr) = refl
phase_back (Phase.LockCurr pred curr) = refl
phase_back (Phase.Check pred curr) = refl
phase_back (Phase.Prepare pred curr) = refl
phase_back (Phase.Number pred node lower upper) = refl
phase_back (Phase.Link pred node lower upper number) = refl
phase_back (Phase.Finish pred node lower upper number) = refl
phase_back (Phase.Newest at) = refl
phase_back (Phase.Fix pred) = refl
phase_back (Phase.Follow at snapshot handed) = refl
phase_back (Phase.Hand at snapshot handed) = refl

pub session_back : (s : Session) → session_from (encode s) ≡ s
session_back s = rw (op_back s.op, phase_back s.phase)

-- ---- the three laws
op_self : (op : Op) → op_right (op_words op) ≡ true
unfolding op_right
op_self op = rw (op_back op) (three_self _ _ _)

front_self : (p : Phase) → front_right (phase_words p) ≡ true
unfolding front_right
front_self p = rw (phase_back p) (three_self _ _ _)

back_self : (p : Phase) → back_right (phase_words p) ≡ true
unfolding back_right
back_self p = rw (phase_back p) (three_self _ _ _)

pub decode_encode : (s : Session) → decode (encode s) ≡ Ok s
unfolding decode
decode_encode s =
    rw (op_self s.op, front_self s.phase, back_self s.phase) (ap Ok (session_back s))

-- right words decode to what they stand for, and that encodes to them
module _ (w : Words) (op : op_right w.op ≡ true) (front : front_right w.phase ≡ true)
    (back : back_right w.phase ≡ true) where
  pub right_decodes : decode w ≡ Ok (session_from w)
  unfolding decode
  right_decodes = rw (op, front, back)

  pub right_encodes : encode (session_from w) ≡ w
  right_encodes = rw (op_right_lem w.op op, phase_right w.phase front back)

tested : (p q r : Bool) (w : Words) (x s : Session) → (p ≡ true → q ≡ true → r ≡ true → encode x ≡ w)
    → cond (p && (q && r)) (Ok x) malformed ≡ Ok s → encode s ≡ w
tested true true true w x s h e = let z : s ≡ x = cc in ap encode z ∙ h refl refl refl
tested true true false w x s h e = cc
tested true false r w x s h e = cc
tested false q r w x s h e = cc

pub encode_decode : (w : Words) (s : Session) → decode w ≡ Ok s → encode s ≡ w
unfolding decode
encode_decode w s e =
    tested (op_right w.op) (front_right w.phase) (back_right w.phase) w (session_from w) s (right_encodes w) e

pub malformed_is_no_record : (w : Words) (s : Session) → decode w ≡ malformed → encode s ≡ w → ⊥
malformed_is_no_record w s e h =
    let r : decode w ≡ Ok s = ap decode (sym h) ∙ decode_encode s in
    let z : ◌≡◌ {A = ℕ} 0 1 = cc in omega arith
