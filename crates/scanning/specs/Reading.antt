-- Reading a listing (document 01): the order of lines, and what reading answers.
-- In order: one line, by what is to come; all lines; numbers by name; reading.
-- Not here: what the lines are made of (the listing's), what 9 and 10 mean in document 01's words (Refusals).
-- Assumes nothing.
use Rattle.std.specs.Prelude.{ℕ, ◌+◌, List, [], ◌∷◌, ◌++◌, cond, length, leb, eqb, Result, Ok, Err}
use Rattle.std.proofs.lemmas.List.Edits.{sets}
use Rattle.text.specs.Text.{largest, Lines, over, torn, line, lines_of, field_in}
use Rattle.std.specs.Prelude.{Option, Some, None}
use Rattle.listing.specs.Listing.{edition_name, stamp_name, key_name, value_name, count_name}
use Rattle.scanning.specs.declared.State.{State}
use Rattle.scanning.specs.declared.Fault.{Fault}
use Rattle.scanning.specs.declared.Whole.{Whole}
use Rattle.scanning.specs.declared.Unread.{Unread}

-- ---- one line: the edition, the stamp, keys each with its value, the count

abbrev pub on_is : {A : Type 0} → Option ℕ → (ℕ → A) → A → A
on_is (Some n) f a = f n
on_is None f a = a

unfoldable pub edition_of : List ℕ → Result State Fault
edition_of l = on_is (field_in edition_name l) (λ n. cond (eqb n 1) (Ok State.Stamp) (Err Fault.Bad)) (Err Fault.Bad)

unfoldable pub stamp_of : List ℕ → Result State Fault
stamp_of l = on_is (field_in stamp_name l) (λ n. Ok (State.Key n 0 0)) (Err Fault.Bad)

unfoldable pub value_of : ℕ → ℕ → ℕ → List ℕ → Result State Fault
value_of stamp count last l = on_is (field_in value_name l) (λ n. Ok (State.Key stamp count last)) (Err Fault.Bad)

unfoldable pub count_of : ℕ → ℕ → List ℕ → Result State Fault
count_of stamp count l =
    on_is (field_in count_name l) (λ n. cond (eqb n count) (Ok (State.Whole stamp count)) (Err Fault.Bad))
    (Err Fault.Bad)

-- a key in bounds and above the last: one more, unless there are `most` already
unfoldable pub keyed : ℕ → ℕ → ℕ → ℕ → ℕ → Result State Fault
keyed most stamp count last k =
    cond (leb k last) (Err Fault.Bad)
    (cond (leb largest k) (Err Fault.Bad)
    (cond (leb most count) (Err Fault.Many) (Ok (State.Value stamp (count + 1) k))))

unfoldable pub key_of : ℕ → ℕ → ℕ → ℕ → List ℕ → Result State Fault
key_of most stamp count last l =
    on_is (field_in key_name l) (λ k. keyed most stamp count last k) (count_of stamp count l)

abbrev pub step_of : ℕ → State → List ℕ → Result State Fault
step_of most State.Edition l = edition_of l
step_of most State.Stamp l = stamp_of l
step_of most (State.Key stamp count last) l = key_of most stamp count last l
step_of most (State.Value stamp count last) l = value_of stamp count last l
step_of most (State.Whole stamp count) l = Err Fault.Bad

-- ---- all lines

-- the listing is whole
abbrev pub whole : ℕ → ℕ → Result Whole Unread
whole stamp count = Ok (record { stamp = stamp; count = count })

-- the input ends here
abbrev pub ended_of : ℕ → State → Result Whole Unread
ended_of p State.Edition = Err (Unread.BadListing p)
ended_of p State.Stamp = Err (Unread.BadListing p)
ended_of p (State.Key stamp count last) = Err (Unread.BadListing p)
ended_of p (State.Value stamp count last) = Err (Unread.BadListing p)
ended_of p (State.Whole stamp count) = whole stamp count

-- what a line at offset p is refused for
abbrev pub refused_at : ℕ → Fault → Unread
refused_at p Fault.Bad = Unread.BadListing p
refused_at p Fault.Many = Unread.TooMany

abbrev pub line_at : ℕ → Result State Fault → Result State Unread
line_at p (Ok t) = Ok t
line_at p (Err e) = Err (refused_at p e)

abbrev pub on_next : ℕ → Result State Fault → (State → Result Whole Unread) → Result Whole Unread
on_next p (Ok t) f = f t
on_next p (Err e) f = Err (refused_at p e)

-- lines that begin at offset p
unfoldable pub scan_of : ℕ → ℕ → State → Lines → Result Whole Unread
scan_of most p st over = ended_of p st
scan_of most p st torn = Err (Unread.BadListing p)
scan_of most p st (line l r) = on_next p (step_of most st l) (λ t. scan_of most (p + length l + 1) t r)

unfoldable pub check_of : ℕ → List ℕ → Result Whole Unread
check_of most s = scan_of most 0 State.Edition (lines_of s)

-- ---- the numbers of the lines with a name, in order

abbrev pub one : Option ℕ → List ℕ
one (Some n) = n ∷ []
one None = []

unfoldable pub numbers_in : List ℕ → Lines → List ℕ
numbers_in name over = []
numbers_in name torn = []
numbers_in name (line l r) = one (field_in name l) ++ numbers_in name r

-- ---- reading into keys and values: all of it is checked first

-- keys and values afterwards, and the answer
pub data Done : Type 0 where
  done : List ℕ → List ℕ → Result Whole Unread → Done

abbrev pub on_reading : List ℕ → List ℕ → List ℕ → Result Whole Unread → Done
on_reading s ks vs (Ok w) =
    done (sets ks 0 (numbers_in key_name (lines_of s))) (sets vs 0 (numbers_in value_name (lines_of s))) (Ok w)
on_reading s ks vs (Err e) = done ks vs (Err e)

unfoldable pub read_of : ℕ → List ℕ → List ℕ → List ℕ → Done
read_of most s ks vs = on_reading s ks vs (check_of most s)
