-- Document 01's sentences about listings, by computation; other cases are run by a program.
-- In order: lines; what is read; what is refused, with its offset; what is written. Assumes nothing.
use Prim.Native.Nat.{ℕ}
use mathlib.Core.Path.{◌≡◌, refl}
use mathlib.Core.List.{List, [], ◌∷◌, ◌++◌}
use Rattle.std.specs.Prelude.{Err}
use Rattle.text.specs.Text.{class_of, with_digit, grow, grows, number_in, digits_in, digits}
use Rattle.text.specs.Text.{ends, lines_of, starts_with, field_in}
use Rattle.listing.specs.Listing.{edition_name, stamp_name, key_name, value_name, count_name, key_room}
use Rattle.listing.specs.Listing.{field_of, pairs, head_of, body_of, listing_of}
use Rattle.scanning.specs.Reading.{whole, edition_of, stamp_of, count_of, keyed, key_of, scan_of, check_of}
use Rattle.scanning.specs.declared.Unread.{Unread}

-- ---- lines, digit by digit

abbrev edition_1 : List ℕ
edition_1 = edition_name ++ (49 ∷ 10 ∷ [])

abbrev edition_2 : List ℕ
edition_2 = edition_name ++ (50 ∷ 10 ∷ [])

abbrev stamp_0 : List ℕ
stamp_0 = stamp_name ++ (48 ∷ 10 ∷ [])

abbrev stamp_00 : List ℕ
stamp_00 = stamp_name ++ (48 ∷ 48 ∷ 10 ∷ [])

abbrev stamp_largest : List ℕ
stamp_largest = stamp_name ++ (52 ∷ 50 ∷ 57 ∷ 52 ∷ 57 ∷ 54 ∷ 55 ∷ 50 ∷ 57 ∷ 53 ∷ 10 ∷ [])

abbrev stamp_larger : List ℕ
stamp_larger = stamp_name ++ (52 ∷ 50 ∷ 57 ∷ 52 ∷ 57 ∷ 54 ∷ 55 ∷ 50 ∷ 57 ∷ 54 ∷ 10 ∷ [])

abbrev key_0 : List ℕ
key_0 = key_name ++ (48 ∷ 10 ∷ [])

abbrev value_0 : List ℕ
value_0 = value_name ++ (48 ∷ 10 ∷ [])

abbrev count_0 : List ℕ
count_0 = count_name ++ (48 ∷ 10 ∷ [])

abbrev count_1 : List ℕ
count_1 = count_name ++ (49 ∷ 10 ∷ [])

-- ---- what is read

-- P12
pub empty_read : check_of key_room (edition_1 ++ (stamp_0 ++ count_0)) ≡ whole 0 0
unfolding check_of scan_of edition_of stamp_of count_of key_of lines_of ends class_of field_in starts_with
    number_in grows grow with_digit
empty_read = refl

pub largest_read : check_of key_room (edition_1 ++ (stamp_largest ++ count_0)) ≡ whole 4294967295 0
unfolding check_of scan_of edition_of stamp_of count_of key_of lines_of ends class_of field_in starts_with
    number_in grows grow with_digit
largest_read = refl

-- ---- what is refused

pub empty_file : check_of key_room [] ≡ Err (Unread.BadListing 0)
unfolding check_of scan_of lines_of
empty_file = refl

pub other_edition : check_of key_room (edition_2 ++ (stamp_0 ++ count_0)) ≡ Err (Unread.BadListing 0)
unfolding check_of scan_of edition_of lines_of ends class_of field_in starts_with number_in grows grow with_digit
other_edition = refl

pub leading_zero : check_of key_room (edition_1 ++ (stamp_00 ++ count_0)) ≡ Err (Unread.BadListing 10)
unfolding check_of scan_of edition_of stamp_of lines_of ends class_of field_in starts_with number_in
    grows grow with_digit
leading_zero = refl

pub too_large : check_of key_room (edition_1 ++ (stamp_larger ++ count_0)) ≡ Err (Unread.BadListing 10)
unfolding check_of scan_of edition_of stamp_of lines_of ends class_of field_in starts_with number_in
    grows grow with_digit
too_large = refl

-- a last line without byte 10 is refused at its own start
pub unended : check_of key_room (edition_1 ++ (stamp_0 ++ (count_name ++ (48 ∷ [])))) ≡ Err (Unread.BadListing 18)
unfolding check_of scan_of edition_of stamp_of lines_of ends class_of field_in starts_with number_in
    grows grow with_digit
unended = refl

-- where the input ends too early the offset is its length
pub stops_early : check_of key_room (edition_1 ++ stamp_0) ≡ Err (Unread.BadListing 18)
unfolding check_of scan_of edition_of stamp_of lines_of ends class_of field_in starts_with number_in
    grows grow with_digit
stops_early = refl

-- nothing follows count
pub more_after : check_of key_room (edition_1 ++ (stamp_0 ++ (count_0 ++ (10 ∷ [])))) ≡ Err (Unread.BadListing 26)
unfolding check_of scan_of edition_of stamp_of count_of key_of lines_of ends class_of field_in starts_with
    number_in grows grow with_digit
more_after = refl

pub wrong_count : check_of key_room (edition_1 ++ (stamp_0 ++ count_1)) ≡ Err (Unread.BadListing 18)
unfolding check_of scan_of edition_of stamp_of count_of key_of lines_of ends class_of field_in starts_with
    number_in grows grow with_digit
wrong_count = refl

pub key_zero : check_of key_room (edition_1 ++ (stamp_0 ++ (key_0 ++ (value_0 ++ count_1)))) ≡
    Err (Unread.BadListing 18)
unfolding check_of scan_of edition_of stamp_of key_of keyed lines_of ends class_of field_in starts_with
    number_in grows grow with_digit
key_zero = refl

-- ---- what is written

pub empty_written : listing_of 0 [] [] ≡ edition_1 ++ (stamp_0 ++ count_0)
unfolding field_of pairs head_of body_of listing_of digits digits_in
empty_written = refl
