-- The whole run (document 01, "The runner"): the lines one after the other from a fresh register.
-- In order: a line; the lines; the output; the run and its refusals.
-- `z` is the size, `ns` and `es` are the tables, `g` is the register beside them.
-- Not here: what a line says and how an answer is printed (crate lines), what a call does (crate sixteen).
-- Assumes nothing.
use Rattle.std.specs.Prelude.{ℕ, ◌+◌, ◌*◌, List, [], ◌++◌, cond, length, ltb, leb, Result, Ok, Err}
use Rattle.std.proofs.lemmas.List.Edits.{sets}
use Rattle.text.specs.Text.{Lines, over, torn, line, lines_of}
use Rattle.terms.specs.declared.Size.{Size}
use Rattle.register.specs.Register.{Fresh, opened, fresh_of}
use Rattle.sixteen.specs.declared.Call.{Call}
use Rattle.sixteen.specs.declared.Register.{Register}
use Rattle.sixteen.specs.Sixteen.{Left, served, serve_of, fresh_register}
use Rattle.std.specs.Prelude.{Option, Some, None}
use Rattle.lines.specs.Lines.{line_in, answer_line, refused_line, bad_line, too_long}
use Rattle.running.specs.declared.Unrun.{Unrun}

-- ---- a line

abbrev pub caller_of : Call → ℕ
caller_of (Call.Start who op) = who
caller_of (Call.Step who) = who

-- what is left of both tables, and all that is printed
pub data Ran : Type 0 where
  ran : List ℕ → List ℕ → List ℕ → Ran

abbrev pub first : List ℕ → Ran → Ran
first bytes (ran ns es rest) = ran ns es (bytes ++ rest)

abbrev pub printed : Ran → List ℕ
printed (ran ns es bytes) = bytes

-- an answer, and what comes after it
abbrev pub answered : ℕ → Left → (List ℕ → List ℕ → Register → Ran) → Ran
answered who (served ns es r) next = first (answer_line who r.answer) (next ns es r.register)

-- a bad line changes nothing, and the run goes on
abbrev pub on_line : Option Call → Size → List ℕ → List ℕ → Register → (List ℕ → List ℕ → Register → Ran) → Ran
on_line (Some call) z ns es g next = answered (caller_of call) (serve_of z ns es g call) next
on_line None z ns es g next = first (refused_line bad_line) (next ns es g)

-- ---- the lines; a last line without byte 10 is bad

unfoldable pub lines_run : Lines → Size → List ℕ → List ℕ → Register → Ran
lines_run over z ns es g = ran ns es []
lines_run torn z ns es g = ran ns es (refused_line bad_line)
lines_run (line l rest) z ns es g = on_line (line_in l) z ns es g (lines_run rest z)

-- ---- the output, from a place on: both tables, the output and the place after it

pub data Wrote : Type 0 where
  wrote : List ℕ → List ℕ → List ℕ → ℕ → Wrote

unfoldable pub write_at : List ℕ → ℕ → Ran → Wrote
write_at out place (ran ns es bytes) = wrote ns es (sets out place bytes) (place + length bytes)

-- ---- the run

abbrev pub longest : ℕ
longest = 16384

-- the bytes of output that n bytes of input ask for
unfoldable pub room_for : ℕ → ℕ
room_for n = cond (leb n longest) (11 * n) 11

-- both tables, the output and the answer
pub data Outcome : Type 0 where
  outcome : List ℕ → List ℕ → List ℕ → Result ℕ Unrun → Outcome

abbrev pub end_of : Outcome → Result ℕ Unrun
end_of (outcome ns es out end) = end

abbrev pub out_of : Outcome → List ℕ
out_of (outcome ns es out end) = out

abbrev pub finished : Wrote → Outcome
finished (wrote ns es out length) = outcome ns es out (Ok length)

abbrev pub from_fresh : Size → List ℕ → List ℕ → Fresh → Outcome
from_fresh z input out (opened ns es (Ok c)) =
    finished (write_at out 0 (lines_run (lines_of input) z ns es (fresh_register c)))
from_fresh z input out (opened ns es (Err why)) = outcome ns es out (Err Unrun.BadTable)

-- in this order: no room, too long, a table of another length
unfoldable pub run_of : Size → List ℕ → List ℕ → List ℕ → List ℕ → Outcome
run_of z input ns es out =
    cond (ltb (length out) (room_for (length input)))
    (outcome ns es out (Err Unrun.NoRoom))
    (cond (ltb longest (length input))
    (finished (write_at out 0 (ran ns es (refused_line too_long))))
    (from_fresh z input out (fresh_of z ns es)))
