-- What serving answers to an input: what a run makes of its bytes, over tables and an output of the runner's lengths.
-- In order: the bytes that are read; the bytes that a run answers; the answers to an input.
-- Not here: the run (crate running). Assumes nothing.
use Rattle.std.specs.Prelude.{◌≡◌, ℕ, List, [], length, take, Ok, Err}
use Rattle.terms.specs.Terms.{small}
use Rattle.running.specs.Running.{Outcome, outcome, run_of}

-- one byte more than a run may have, so that an input that is too long is seen to be
abbrev pub read_of : List ℕ → List ℕ
read_of input = take 16385 input

-- as many bytes of the output as the run says
abbrev pub answers_of : Outcome → List ℕ
answers_of (outcome ns es out (Ok k)) = take k out
answers_of (outcome ns es out (Err why)) = []

-- the bytes are the answers to the input; what the tables and the output held before is left open
pub record Answers (input bytes : List ℕ) : Type 0 where
  pub nodes : List ℕ
  pub entries : List ℕ
  pub out : List ℕ
  pub nodes_fit : length nodes ≡ 3072
  pub entries_fit : length entries ≡ 8192
  pub out_fits : length out ≡ 180224
  pub run : bytes ≡ answers_of (run_of small (read_of input) nodes entries out)
