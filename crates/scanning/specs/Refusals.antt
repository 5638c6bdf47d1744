-- Document 01's numbers for the answers of reading, and what its table says of 9 and 10, on bytes alone.
-- In order: numbers and values; a line that is allowed; lines up to an offset; 9; 10; a whole listing.
-- Not here: how reading finds them (Reading). Assumes nothing.
use Rattle.std.specs.Prelude.{ℕ, ◌+◌, ◌≤◌, ◌<◌, ◌≡◌, List, [], ◌∷◌, ◌++◌, length, drop, Result, Ok, Err}
use Rattle.text.specs.Text.{largest, digits}
use Rattle.listing.specs.Listing.{edition_name, stamp_name, key_name, value_name, count_name, listing_of}
use Rattle.listing.specs.Refusals.{Good, Fit}
use Rattle.scanning.specs.declared.State.{State}
use Rattle.scanning.specs.declared.Whole.{Whole}
use Rattle.scanning.specs.declared.Unread.{Unread}

-- the refusal number, and 0 for what is no refusal
abbrev pub number_of : Result Whole Unread → ℕ
number_of (Ok w) = 0
number_of (Err (Unread.BadListing p)) = 9
number_of (Err Unread.TooMany) = 10

-- the numbers that the answer gives
abbrev pub values_of : Result Whole Unread → List ℕ
values_of (Ok w) = w.stamp ∷ w.count ∷ []
values_of (Err (Unread.BadListing p)) = p ∷ []
values_of (Err Unread.TooMany) = []

-- ---- a line (without its byte 10) that is allowed where `st` is to come, and what is to come after it

pub data Allowed (st : State) (l : List ℕ) (t : State) : Type 0 where
  edition_line : st ≡ State.Edition → l ≡ edition_name ++ digits 1 → t ≡ State.Stamp → Allowed st l t
  stamp_line : (n : ℕ) → n ≤ largest → st ≡ State.Stamp → l ≡ stamp_name ++ digits n → t ≡ State.Key n 0 0 →
      Allowed st l t
  key_line : (stamp count last k : ℕ) → last < k → k < largest → st ≡ State.Key stamp count last →
      l ≡ key_name ++ digits k → t ≡ State.Value stamp (count + 1) k → Allowed st l t
  value_line : (stamp count last v : ℕ) → v ≤ largest → st ≡ State.Value stamp count last →
      l ≡ value_name ++ digits v → t ≡ State.Key stamp count last → Allowed st l t
  count_line : (stamp count last : ℕ) → count ≤ largest → st ≡ State.Key stamp count last →
      l ≡ count_name ++ digits count → t ≡ State.Whole stamp count → Allowed st l t

-- how many keys there are so far
abbrev pub keys_in : State → ℕ
keys_in State.Edition = 0
keys_in State.Stamp = 0
keys_in (State.Key stamp count last) = count
keys_in (State.Value stamp count last) = count
keys_in (State.Whole stamp count) = count

-- ---- all lines before offset p are allowed, with at most `most` keys, and `st` is to come at p

pub data Upto (most : ℕ) (s : List ℕ) : ℕ → State → Type 0 where
  start : Upto most s 0 State.Edition
  next : {p : ℕ} {st : State} (l rest : List ℕ) (t : State) → Upto most s p st → drop p s ≡ l ++ (10 ∷ rest) →
      Allowed st l t → keys_in t ≤ most → Upto most s (p + length l + 1) t

-- what stands at p is allowed there: a line with its byte 10, or after the count line the end
pub data Stands (s : List ℕ) (p : ℕ) (st : State) : Type 0 where
  a_line : (l rest : List ℕ) (t : State) → drop p s ≡ l ++ (10 ∷ rest) → Allowed st l t → Stands s p st
  the_end : (stamp count : ℕ) → drop p s ≡ [] → st ≡ State.Whole stamp count → Stands s p st

-- 9: p is the offset of the first line that is not allowed there, the input's length where it ends too early
pub record FirstBad (most : ℕ) (s : List ℕ) (p : ℕ) : Type 0 where
  pub due : State
  pub before : Upto most s p due
  pub not_allowed : Stands s p due → ⊥
  pub within : p ≤ length s

-- 10: after `most` keys there is one more line that is an allowed key line otherwise
pub record OneMore (most : ℕ) (s : List ℕ) : Type 0 where
  pub place : ℕ
  pub due : State
  pub after : State
  pub key : List ℕ
  pub rest : List ℕ
  pub before : Upto most s place due
  pub stands : drop place s ≡ key ++ (10 ∷ rest)
  pub allowed : Allowed due key after
  pub more : most < keys_in after

-- neither: the bytes are the listing of some keys and values
pub record IsListing (most : ℕ) (s : List ℕ) (stamp count : ℕ) : Type 0 where
  pub ks : List ℕ
  pub vs : List ℕ
  pub bytes : s ≡ listing_of stamp ks vs
  pub good : Good most ks vs
  pub counted : count ≡ length ks
  pub stamp_fits : stamp ≤ largest
  pub values_fit : Fit vs
