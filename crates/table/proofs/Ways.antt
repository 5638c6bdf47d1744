-- A word past the table's end, over plain numbers. Assumes nothing.
use Prim.Native.Nat.{ℕ, ◌+◌, ◌*◌, ◌≤◌}
use mathlib.Core.Path.{◌≡◌, sym}
use mathlib.Core.List.{List}
use lib.ListN.{length, get_or-eq_default}
use Rattle.table.specs.Table.{word_of}

pub word_past : (w : ℕ) (t : List ℕ) (i k : ℕ) → length t ≤ i * w + k → 0 ≡ word_of w t i k
unfolding word_of
word_past w t i k past = sym (get_or-eq_default t 0 past)
