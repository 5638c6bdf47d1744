-- Document 01's whole case: 19 lines in, 19 lines out.
-- In order: lines as they are written; the input; the output.
-- Not here: that the run makes the one of the other (proofs/Cases.antt). Assumes nothing.
use Rattle.std.specs.Prelude.{ℕ, List, [], ◌∷◌, ◌++◌}
use Rattle.terms.specs.declared.Op.{Op}
use Rattle.terms.specs.declared.Answer.{Answer}
use Rattle.sixteen.specs.declared.Call.{Call}
use Rattle.lines.specs.Lines.{call_line, line_end, answer_line}

abbrev pub insert_line : ℕ → ℕ → ℕ → List ℕ
insert_line s k v = call_line (Call.Start s (Op.Insert k v)) ++ line_end

abbrev pub range_line : ℕ → ℕ → ℕ → List ℕ
range_line s low high = call_line (Call.Start s (Op.Range low high)) ++ line_end

abbrev pub step_line : ℕ → List ℕ
step_line s = call_line (Call.Step s) ++ line_end

-- lines one after the other
unfoldable pub joined : List (List ℕ) → List ℕ
joined [] = []
joined (l ∷ r) = l ++ joined r

unfoldable pub whole_in : List ℕ
whole_in =
    joined (insert_line 0 20 7 ∷ step_line 0 ∷ step_line 0 ∷ step_line 0 ∷ step_line 0
    ∷ range_line 1 1 100 ∷ step_line 1 ∷ step_line 1 ∷ step_line 1 ∷ step_line 0
    ∷ range_line 1 1 100 ∷ step_line 1 ∷ step_line 1 ∷ step_line 1 ∷ step_line 0 ∷ step_line 0
    ∷ step_line 1 ∷ step_line 1 ∷ step_line 1 ∷ [])

unfoldable pub whole_out : List ℕ
whole_out =
    joined (answer_line 0 Answer.Started ∷ answer_line 0 Answer.Working ∷ answer_line 0 Answer.Working
    ∷ answer_line 0 Answer.Working ∷ answer_line 0 Answer.Working
    ∷ answer_line 1 Answer.Started ∷ answer_line 1 Answer.Working ∷ answer_line 1 Answer.Working
    ∷ answer_line 1 (Answer.End 0 0) ∷ answer_line 0 Answer.Working
    ∷ answer_line 1 Answer.Started ∷ answer_line 1 Answer.Working ∷ answer_line 1 Answer.Working
    ∷ answer_line 1 Answer.Waiting ∷ answer_line 0 Answer.Working ∷ answer_line 0 (Answer.Inserted 1)
    ∷ answer_line 1 Answer.Working ∷ answer_line 1 (Answer.Key 20 7) ∷ answer_line 1 (Answer.End 1 1) ∷ [])
