-- Bytes, decimal numbers and lines (document 01, "The listing"), on lists of bytes.
-- In order: a byte; reading a number; writing one; lines; a line's name and number.
-- Not here: which names there are and the order of lines (the listing's), commas (the runner's).
-- Assumes nothing.
use Rattle.std.specs.Prelude.{ℕ, zero, suc, ◌+◌, ◌-◌, ◌*◌, ◌/◌, ◌%◌, List, [], ◌∷◌, ◌++◌, length, drop}
use Rattle.std.specs.Prelude.{Bool, true, false, cond, ◌≡◌, ltb, leb, eqb, Option, Some, None}
use Rattle.std.specs.Option.{option_and_then}
use Rattle.std.proofs.lemmas.List.Edits.{sets}
use Rattle.text.specs.declared.Byte.{Byte}
use Rattle.text.specs.declared.Seen.{Seen}

-- bytes 48 to 57 are digits, 10 ends a line
unfoldable pub class_of : ℕ → Byte
class_of b =
    cond (leb 48 b) (cond (leb b 57) (Byte.Digit (b - 48)) Byte.Other) (cond (eqb b 10) Byte.LineEnd Byte.Other)

-- ---- reading a number: decimal, no leading zeros, at most 4,294,967,295

abbrev pub largest : ℕ
largest = 4294967295

-- one digit more, if that is a number; before the first digit there is none. Nothing may follow a first 0
unfoldable pub with_digit : Option ℕ → ℕ → Option ℕ
with_digit None d = Some d
with_digit (Some v) d = cond (eqb v 0) None (cond (leb (v * 10 + d) largest) (Some (v * 10 + d)) None)

abbrev pub with_byte : Option ℕ → Byte → Option ℕ
with_byte n (Byte.Digit d) = with_digit n d
with_byte n Byte.LineEnd = None
with_byte n Byte.Other = None

unfoldable pub grow : Option ℕ → ℕ → Option ℕ
grow n b = with_byte n (class_of b)

-- n with the bytes of a list, one after the other
unfoldable pub grows : Option ℕ → List ℕ → Option ℕ
grows n [] = n
grows n (b ∷ s) = option_and_then (λ v. grows (Some v) s) (grow n b)

-- what all the bytes are as one number
unfoldable pub number_in : List ℕ → Option ℕ
number_in s = grows None s

-- ---- writing one: 20 digits are enough for 64 bits

unfoldable pub digits_in : ℕ → ℕ → List ℕ
digits_in zero n = []
digits_in (suc f) n = cond (ltb n 10) ((48 + n % 10) ∷ []) (digits_in f (n / 10) ++ ((48 + n % 10) ∷ []))

unfoldable pub digits : ℕ → List ℕ
digits n = digits_in 20 n

-- bytes stored from a place on and no other byte changed; the next place is the one after them
abbrev pub Puts : List ℕ → List ℕ → ℕ → List ℕ → ℕ → Type 0
Puts before after place bytes next = (next ≡ place + length bytes) × (after ≡ sets before place bytes)

-- ---- lines: each ends with byte 10

abbrev pub ends_line : Byte → Bool
ends_line (Byte.Digit d) = false
ends_line Byte.LineEnd = true
ends_line Byte.Other = false

unfoldable pub ends : ℕ → Bool
ends b = ends_line (class_of b)

-- what a row of bytes is: nothing, a line that has no end, or a line (without its byte 10) and what follows
pub data Lines : Type 0 where
  over : Lines
  torn : Lines
  line : List ℕ → Lines → Lines

-- b, in front of the first line
abbrev pub joined : ℕ → Lines → Lines
joined b over = torn
joined b torn = torn
joined b (line l r) = line (b ∷ l) r

unfoldable pub lines_of : List ℕ → Lines
lines_of [] = over
lines_of (b ∷ s) = cond (ends b) (line [] (lines_of s)) (joined b (lines_of s))

-- what the lines from `place` on begin with; a line is told by the place of its byte 10
abbrev pub seen : ℕ → Lines → Seen
seen place over = Seen.End
seen place torn = Seen.Torn
seen place (line l r) = Seen.Line (place + length l)

-- how many bytes come before the first byte 10, or all
unfoldable pub line_length : List ℕ → ℕ
line_length [] = 0
line_length (b ∷ s) = cond (ends b) 0 (suc (line_length s))

-- ---- a line's name and number

unfoldable pub starts_with : List ℕ → List ℕ → Bool
starts_with [] s = true
starts_with (a ∷ n) [] = false
starts_with (a ∷ n) (b ∷ s) = cond (eqb b a) (starts_with n s) false

-- the number after the name, where the line begins with it
unfoldable pub field_in : List ℕ → List ℕ → Option ℕ
field_in n s = cond (starts_with n s) (number_in (drop (length n) s)) None
