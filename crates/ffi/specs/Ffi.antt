-- The calls for other programs: what each leaves in the lent slices, and the number that it returns.
-- In order: what a walk needs; wrong lengths; fresh (7); start (7, 1, 8, then 2, 3, 4 by the register); several steps
-- (7, 1, 8, then 5 and 8 by the register). `z` is the size, `ns` and `es` are the tables, `ws` the counters' and
-- records' words, `ps` the lent pairs, `out` the answer's words. A refusal changes nothing but the answer
-- (proofs/Kept.antt); an answer of another length than 3, or 5 for several steps, stays.
-- Not here: the checks and one step (crate stepping), answers and several steps (crate calling), listings (crate
-- exchange), the register's calls (crate register), where words lie (crate packing). Assumes nothing.
use Rattle.std.specs.Prelude.{Ok, Err}
use Rattle.std.specs.Prelude.{ℕ, ◌≡◌, List, true, cond, length, eqb}
use Rattle.terms.specs.Terms.{refusal_number}
use Rattle.terms.specs.declared.Size.{Size}
use Rattle.terms.specs.declared.Op.{Op}
use Rattle.steps.specs.declared.Session.{Session}
use Rattle.register.specs.declared.Started.{Started}
use Rattle.register.specs.Register.{Fresh, opened, fresh_of, start_of}
use Rattle.encoding.specs.Encoding.{encode, op_from, decode}
use Rattle.packing.specs.Packing.{op_at, record_at, put_record, fresh_words, refused_by, reply_of, number_of}
use Rattle.packing.specs.Packing.{put_reply}
use Rattle.exchange.specs.Exchange.{words_room, Told, told}
use Rattle.shortly.specs.Shortly.{seeks_of}
use Rattle.calling.specs.Calling.{refusal, on_decoded, Strode, strode, stands_still, steps_session}
use Rattle.stepping.specs.Stepping.{checked, IsAdmitted, Heard, heard}

-- what has passed the checks, with words of an operation that seeks this key
abbrev pub IsWalker : Size → List ℕ → List ℕ → List ℕ → List ℕ → ℕ → ℕ → Type 0
IsWalker z ns es ws out who sought =
    IsAdmitted z ns es ws out who × (seeks_of (op_at ws who) ≡ true) × (sought ≡ (op_at ws who).first)

-- what is left of an answer where the nodes have another length
abbrev pub unfit : List ℕ → Told
unfit out = cond (eqb (length out) 3) (refusal out 7) (told out 7)

-- ---- fresh
pub data Cleared : Type 0 where
  cleared : List ℕ → List ℕ → List ℕ → ℕ → Cleared

abbrev pub after_fresh : List ℕ → Fresh → Cleared
after_fresh ws (opened ns es (Ok c)) = cleared ns es (fresh_words ws c) 0
after_fresh ws (opened ns es (Err why)) = cleared ns es ws (refusal_number why)

unfoldable pub fresh_call : Size → List ℕ → List ℕ → List ℕ → Cleared
fresh_call z ns es ws = cond (eqb (length ws) words_room) (after_fresh ws (fresh_of z ns es)) (cleared ns es ws 7)

-- ---- start; the tables are only read
abbrev pub deaf : List ℕ → List ℕ → ℕ → Heard
deaf ws out number = heard ws (put_reply out (refused_by number)) number

abbrev pub after_start : List ℕ → List ℕ → ℕ → Started → Heard
after_start ws out who r =
    heard (put_record ws who (encode r.session)) (put_reply out (reply_of r.answer))
    (number_of (reply_of r.answer))

unfoldable pub start_record : Size → List ℕ → List ℕ → List ℕ → List ℕ → ℕ → Op → Session → Heard
start_record z ns es ws out who op s = after_start ws out who (start_of z ns es who s op)

unfoldable pub start_session : Size → List ℕ → List ℕ → List ℕ → List ℕ → ℕ → Op → Heard
start_session z ns es ws out who op =
    on_decoded (decode (record_at ws who)) (start_record z ns es ws out who op) (deaf ws out 8)

-- the operation by its kind (crate encoding); another kind names no key, which the register refuses 3
unfoldable pub start_call : Size → List ℕ → List ℕ → List ℕ → List ℕ → ℕ → ℕ → ℕ → ℕ → Heard
start_call z ns es ws out who kind first second =
    checked 3 z ns es ws out who (heard ws out 7) (deaf ws out)
    (start_session z ns es ws out who (op_from kind first second))

-- ---- several steps (crate calling), where the answer has five words
unfoldable pub steps_call : Size → List ℕ → List ℕ → List ℕ → List ℕ → List ℕ → ℕ → ℕ → Strode
steps_call z ns es ws ps out who limit =
    checked 5 z ns es ws out who (strode ns es ws ps out 7) (stands_still ns es ws ps out)
    (steps_session z ns es ws ps out who limit)
