-- One line as the input is cut: with its byte 10, but maybe for the last.
-- That the run over all lines begins with it is a law (proofs/OneLine.antt). Assumes nothing.
use Rattle.std.specs.Prelude.{ℕ, ◌-◌, List, [], ◌∷◌, cond, length, take, drop, eqb, Option, None}
use Rattle.std.specs.Cmp.Lexicographic.{pointwise}
use Rattle.sixteen.specs.declared.Call.{Call}
use Rattle.lines.specs.Lines.{line_in}

-- what stands before byte 10 is the line; without byte 10 it is bad, whatever it says
unfoldable pub call_in : List ℕ → Option Call
call_in x =
    cond (pointwise eqb (drop (length x - 1) x) (10 ∷ [])) (line_in (take (length x - 1) x)) None
