-- A table of `width` words a row: word k of row i, and the table with another word there.
-- Past the table's end a word is 0 and a store changes nothing. Assumes nothing.
use Rattle.std.specs.Prelude.{ℕ, ◌+◌, ◌*◌, List, get_or, set, length, replicate}

unfoldable pub word_of : ℕ → List ℕ → ℕ → ℕ → ℕ
word_of width t i k = get_or t (i * width + k) 0

unfoldable pub store_of : ℕ → List ℕ → ℕ → ℕ → ℕ → List ℕ
store_of width t i k v = set t (i * width + k) v

-- every word 0
abbrev pub clear_of : List ℕ → List ℕ
clear_of t = replicate (length t) 0
