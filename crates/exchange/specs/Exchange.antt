-- Listings for other programs: what writing and reading leave in the lent slices, and the number that each returns.
-- In order: the slices' lengths; an answer; writing (12, 11); reading (7, then 9 with the offset, or 10). `ws` are the
-- counters' and records' words, `out` (`answer` beside a listing's output) the answer's.
-- Not here: the bytes of a listing (crate listing), the loaded tables (crate loading). Assumes nothing.
use Rattle.std.specs.Prelude.{ℕ, ◌%◌, List, cond, length, eqb, Result, Ok, Err}
use Rattle.terms.specs.declared.Size.{Size}
use Rattle.steps.specs.Steps.{tables}
use Rattle.listing.specs.Listing.{Done as ListingDone, done as listed, write_of}
use Rattle.listing.specs.declared.Unwritten.{Unwritten}
use Rattle.loading.specs.Loading.{Done as LoadingDone, done as loads, load_of}
use Rattle.terms.specs.declared.Counters.{Counters}
use Rattle.loading.specs.declared.Unloaded.{Unloaded}
use Rattle.packing.specs.declared.Reply.{Reply}
use Rattle.packing.specs.Packing.{fresh_words, reply_with, refused_by, number_of, put_reply}

-- ---- three counters and sixteen records of nine words
abbrev pub words_room : ℕ
words_room = 147

-- ---- an answer, and the number returned
pub data Told : Type 0 where
  told : List ℕ → ℕ → Told

abbrev pub given : List ℕ → Reply → Told
given out r = told (put_reply out r) (number_of r)

-- ---- writing a listing (12, 11): the output, the answer (name 10 and the length) and the number returned
abbrev pub as_word : ℕ → ℕ
as_word n = n % 4294967296

abbrev pub written_reply : Result ℕ Unwritten → Reply
written_reply (Ok n) = reply_with 10 (as_word n) 0
written_reply (Err Unwritten.NoRoom) = refused_by 11
written_reply (Err Unwritten.BadPairs) = refused_by 12

pub data Wrote : Type 0 where
  wrote : List ℕ → List ℕ → ℕ → Wrote

abbrev pub after_write : List ℕ → ListingDone → Wrote
after_write answer (listed out w) = wrote out (put_reply answer (written_reply w)) (number_of (written_reply w))

unfoldable pub write_call : ℕ → ℕ → List ℕ → List ℕ → List ℕ → List ℕ → Wrote
write_call most stamp ks vs out answer =
    cond (eqb (length answer) 3) (after_write answer (write_of most stamp ks vs out)) (wrote out answer 7)

-- ---- reading a listing (7, then 9 with the offset, or 10): the loaded register's words, or all as it was; the
-- answer's name is 11, its value the stamp
pub data Left : Type 0 where
  left : List ℕ → List ℕ → List ℕ → List ℕ → ℕ → Left

abbrev pub stays : List ℕ → List ℕ → List ℕ → List ℕ → ℕ → Left
stays ns es ws out number = left ns es ws (put_reply out (refused_by number)) number

abbrev pub loaded_reply : Result Counters Unloaded → Reply
loaded_reply (Ok c) = reply_with 11 c.stamp 0
loaded_reply (Err Unloaded.BadTable) = refused_by 7
loaded_reply (Err (Unloaded.BadListing offset)) = reply_with 0 9 (as_word offset)
loaded_reply (Err Unloaded.TooMany) = refused_by 10

abbrev pub loaded_words : List ℕ → Result Counters Unloaded → List ℕ
loaded_words ws (Ok c) = fresh_words ws c
loaded_words ws (Err e) = ws

abbrev pub after_read : List ℕ → List ℕ → LoadingDone → Left
after_read ws out (loads (tables ns es) l) =
    left ns es (loaded_words ws l) (put_reply out (loaded_reply l)) (number_of (loaded_reply l))

unfoldable pub read_loaded : Size → List ℕ → List ℕ → List ℕ → List ℕ → List ℕ → Left
read_loaded z input ns es ws out = after_read ws out (load_of z input ns es)

unfoldable pub read_call : Size → List ℕ → List ℕ → List ℕ → List ℕ → List ℕ → Left
read_call z input ns es ws out =
    cond (eqb (length out) 3)
    (cond (eqb (length ws) words_room) (read_loaded z input ns es ws out) (stays ns es ws out 7))
    (left ns es ws out 7)
