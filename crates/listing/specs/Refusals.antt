-- Document 01's numbers for the answers of writing, and what the refusal table says of 12.
-- In order: numbers and values; the pairs that are not refused.
-- Not here: the order of refusals (Listing, `write_of`). Assumes nothing.
use Rattle.std.specs.Prelude.{ℕ, ◌+◌, ◌≤◌, ◌<◌, ◌≡◌, List, [], ◌∷◌, length, get_or, Result, Ok, Err}
use Rattle.text.specs.Text.{largest}
use Rattle.listing.specs.declared.Unwritten.{Unwritten}

-- a refusal's number
abbrev pub unwritten_number : Unwritten → ℕ
unwritten_number Unwritten.NoRoom = 11
unwritten_number Unwritten.BadPairs = 12

-- the refusal number, and 0 for what is no refusal
abbrev pub number_of : Result ℕ Unwritten → ℕ
number_of (Ok n) = 0
number_of (Err why) = unwritten_number why

-- the numbers that the answer gives
abbrev pub values_of : Result ℕ Unwritten → List ℕ
values_of (Ok n) = n ∷ []
values_of (Err Unwritten.NoRoom) = []
values_of (Err Unwritten.BadPairs) = []

-- as many keys as values, not more than `most`, each in bounds, strictly rising
pub record Good (most : ℕ) (ks vs : List ℕ) : Type 0 where
  pub same : length ks ≡ length vs
  pub few : length ks ≤ most
  pub bound : (i : ℕ) → i < length ks → (0 < get_or ks i 0) × (get_or ks i 0 < largest)
  pub rise : (i : ℕ) → i + 1 < length ks → get_or ks i 0 < get_or ks (i + 1) 0

-- every number of a list is one of 32 bits
abbrev pub Fit : List ℕ → Type 0
Fit l = (i : ℕ) → get_or l i 0 ≤ largest
