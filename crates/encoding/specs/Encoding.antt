-- A session's record as nine words: which operation (kind and two numbers), which phase, and that phase's own
-- numbers.
-- In order: the words of a record; the record that words would stand for; are they right; decoding. Kinds: 0 none,
-- 1 insert, 2 remove, 3 has, 4 range. Phases, in the order of document 01's Steps: 0 idle, 1 Walk, 2 Lock, 3 Lock
-- curr, 4 Check, 5 Prepare, 6 Number, 7 Link, 8 Finish, 9 has's Follow, 10 Fix, 11 Follow, 12 Hand. Unused words are
-- 0.
-- Not here: where the words lie (crate packing). Assumes nothing.
use Rattle.std.specs.Prelude.{ℕ, Bool, cond, ◌&&◌, eqb, leb, Result, Ok, Err}
use Rattle.terms.specs.declared.Op.{Op}
use Rattle.steps.specs.declared.Phase.{Phase}
use Rattle.steps.specs.declared.Session.{Session}
use Rattle.encoding.specs.declared.OpWords.{OpWords}
use Rattle.encoding.specs.declared.PhaseWords.{PhaseWords}
use Rattle.encoding.specs.declared.Words.{Words}
use Rattle.encoding.specs.declared.Malformed.{Malformed}

-- ---- the words of a record
abbrev pub kind_with : ℕ → ℕ → ℕ → OpWords
kind_with kind first second = record { kind = kind; first = first; second = second }

abbrev pub op_words : Op → OpWords
op_words Op.None = kind_with 0 0 0
op_words (Op.Insert key value) = kind_with 1 key value
op_words (Op.Remove key) = kind_with 2 key 0
op_words (Op.Has key) = kind_with 3 key 0
op_words (Op.Range low high) = kind_with 4 low high

abbrev pub phase_with : ℕ → ℕ → ℕ → ℕ → ℕ → ℕ → PhaseWords
phase_with phase a b c d e = record { phase = phase; a = a; b = b; c = c; d = d; e = e }

abbrev pub phase_words : Phase → PhaseWords
phase_words Phase.Idle = phase_with 0 0 0 0 0 0
phase_words (Phase.Walk pred curr) = phase_with 1 pred curr 0 0 0
phase_words (Phase.Lock pred curr) = phase_with 2 pred curr 0 0 0
phase_words (Phase.LockCurr pred curr) = phase_with 3 pred curr 0 0 0
phase_words (Phase.Check pred curr) = phase_with 4 pred curr 0 0 0
phase_words (Phase.Prepare pred curr) = phase_with 5 pred curr 0 0 0
phase_words (Phase.Number pred node lower upper) = phase_with 6 pred node lower upper 0
phase_words (Phase.Link pred node lower upper number) = phase_with 7 pred node lower upper number
phase_words (Phase.Finish pred node lower upper number) = phase_with 8 pred node lower upper number
phase_words (Phase.Newest at) = phase_with 9 at 0 0 0 0
phase_words (Phase.Fix pred) = phase_with 10 pred 0 0 0 0
phase_words (Phase.Follow at snapshot handed) = phase_with 11 at snapshot handed 0 0
phase_words (Phase.Hand at snapshot handed) = phase_with 12 at snapshot handed 0 0

abbrev pub encode : Session → Words
encode s = record { op = op_words s.op; phase = phase_words s.phase }

-- ---- the record that words would stand for, if any does
unfoldable pub op_from : ℕ → ℕ → ℕ → Op
op_from kind first second =
    cond (eqb kind 1) (Op.Insert first second)
    (cond (eqb kind 2) (Op.Remove first)
    (cond (eqb kind 3) (Op.Has first)
    (cond (eqb kind 4) (Op.Range first second) Op.None)))

abbrev pub walking_from : ℕ → ℕ → ℕ → Phase
walking_from phase pred curr =
    cond (eqb phase 1) (Phase.Walk pred curr)
    (cond (eqb phase 2) (Phase.Lock pred curr)
    (cond (eqb phase 3) (Phase.LockCurr pred curr)
    (cond (eqb phase 4) (Phase.Check pred curr) (Phase.Prepare pred curr))))

abbrev pub updating_from : ℕ → ℕ → ℕ → ℕ → ℕ → ℕ → Phase
updating_from phase pred node lower upper number =
    cond (eqb phase 6) (Phase.Number pred node lower upper)
    (cond (eqb phase 7)
    (Phase.Link pred node lower upper number)
    (Phase.Finish pred node lower upper number))

abbrev pub reading_from : ℕ → ℕ → ℕ → ℕ → Phase
reading_from phase at snapshot handed =
    cond (eqb phase 9) (Phase.Newest at)
    (cond (eqb phase 10) (Phase.Fix at)
    (cond (eqb phase 11) (Phase.Follow at snapshot handed) (Phase.Hand at snapshot handed)))

unfoldable pub phase_from : PhaseWords → Phase
phase_from w =
    cond (eqb w.phase 0) Phase.Idle
    (cond (leb w.phase 5) (walking_from w.phase w.a w.b)
    (cond (leb w.phase 8) (updating_from w.phase w.a w.b w.c w.d w.e)
    (reading_from w.phase w.a w.b w.c)))

abbrev pub session_from : Words → Session
session_from w =
    record { op = op_from w.op.kind w.op.first w.op.second; phase = phase_from w.phase }

-- ---- are the words of an operation and of a phase right: those that what they would stand for has
unfoldable pub same_three : ℕ → ℕ → ℕ → ℕ → ℕ → ℕ → Bool
same_three a b c x y z = eqb a x && (eqb b y && eqb c z)

abbrev pub same_op : OpWords → OpWords → Bool
same_op v w = same_three v.kind v.first v.second w.kind w.first w.second

abbrev pub same_front : PhaseWords → PhaseWords → Bool
same_front v w = same_three v.phase v.a v.b w.phase w.a w.b

abbrev pub same_back : PhaseWords → PhaseWords → Bool
same_back v w = same_three v.c v.d v.e w.c w.d w.e

unfoldable pub op_right : OpWords → Bool
op_right w = same_op w (op_words (op_from w.kind w.first w.second))

unfoldable pub front_right : PhaseWords → Bool
front_right w = same_front w (phase_words (phase_from w))

unfoldable pub back_right : PhaseWords → Bool
back_right w = same_back w (phase_words (phase_from w))

-- ---- decoding: the record that encodes to these words; words that none encodes to are malformed
abbrev pub malformed : Result Session Malformed
malformed = Err (record {})

unfoldable pub decode : Words → Result Session Malformed
decode w =
    cond (op_right w.op && (front_right w.phase && back_right w.phase))
    (Ok (session_from w))
    malformed
