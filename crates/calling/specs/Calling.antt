-- What the library's calls have in common, and many steps in one call.
-- In order: the slices' lengths; decoding; a refusal, an answer, what is put back; several steps (7, 1, 8, then as the
-- register answers). `z` is the size, `ns` and `es` are the tables, `ws` the counters' and records' words, `ps` the
-- lent pairs, `out` the answer's words.
-- Not here: the calls for C (crate ffi), when several steps end (crate several), where words lie (crate packing).
-- Assumes nothing.
use Rattle.std.specs.Prelude.{ℕ, List, Bool, cond, ◌&&◌, length, ltb, eqb, Result, Ok, Err}
use Rattle.terms.specs.declared.Size.{Size}
use Rattle.terms.specs.declared.Counters.{Counters}
use Rattle.terms.specs.declared.Answer.{Answer}
use Rattle.steps.specs.declared.Session.{Session}
use Rattle.table.specs.Table.{store_of}
use Rattle.several.specs.Several.{Gone, gone, several_of}
use Rattle.register.specs.Register.{fits}
use Rattle.encoding.specs.declared.Malformed.{Malformed}
use Rattle.encoding.specs.Encoding.{encode, decode}
use Rattle.packing.specs.Packing.{counters_at, put_counters, record_at, put_record, refused_by, reply_of}
use Rattle.exchange.specs.Exchange.{words_room, Told, told}
use Rattle.packing.specs.Packing.{number_of, put_reply}

-- ---- the slices' lengths: two tables of the size, three counters and sixteen records of nine words, three words of
-- answer
unfoldable pub lengths_fit : Size → List ℕ → List ℕ → List ℕ → Bool
lengths_fit z ns es ws = fits z ns es && eqb (length ws) words_room

-- then, words that are no record's
abbrev pub on_decoded : {A : Type 0} → Result Session Malformed → (Session → A) → A → A
on_decoded (Ok s) goes malformed = goes s
on_decoded (Err _) goes malformed = malformed

-- ---- a refusal: its number, in the answer and returned
abbrev pub refusal : List ℕ → ℕ → Told
refusal out number = told (put_reply out (refused_by number)) number

-- an answer, and the number that it has as a refusal
abbrev pub answered : List ℕ → Answer → Told
answered out a = told (put_reply out (reply_of a)) (number_of (reply_of a))

-- the words with other counters and another record of one session
abbrev pub kept : List ℕ → ℕ → Counters → Session → List ℕ
kept ws who c s = put_record (put_counters ws c) who (encode s)

-- ---- several steps: the tables, the words, the pairs, the answer and the number returned. The answer has two words
-- more: how many pairs are filled, and how many steps were made
pub data Strode : Type 0 where
  strode : List ℕ → List ℕ → List ℕ → List ℕ → List ℕ → ℕ → Strode

abbrev pub tally : List ℕ → ℕ → ℕ → List ℕ
tally out count made = store_of 5 (store_of 5 out 0 3 count) 0 4 made

abbrev pub stands_still : List ℕ → List ℕ → List ℕ → List ℕ → List ℕ → ℕ → Strode
stands_still ns es ws ps out number = strode ns es ws ps (tally (put_reply out (refused_by number)) 0 0) number

abbrev pub after_steps : List ℕ → List ℕ → ℕ → Gone → Strode
after_steps ws out who (gone ns es ps r) =
    strode ns es (kept ws who r.last.counters r.last.session) ps
    (tally (put_reply out (reply_of r.last.answer)) r.last.count r.made)
    (number_of (reply_of r.last.answer))

unfoldable pub steps_record : Size → List ℕ → List ℕ → List ℕ → List ℕ → List ℕ → ℕ → ℕ → Session → Strode
steps_record z ns es ws ps out who limit s =
    after_steps ws out who (several_of z ns es ps (counters_at ws) who s limit)

unfoldable pub steps_session : Size → List ℕ → List ℕ → List ℕ → List ℕ → List ℕ → ℕ → ℕ → Strode
steps_session z ns es ws ps out who limit =
    on_decoded (decode (record_at ws who)) (steps_record z ns es ws ps out who limit) (stands_still ns es ws ps out 8)

-- whatever the answer's length is: only the words that it has are written
unfoldable pub many_call : Size → List ℕ → List ℕ → List ℕ → List ℕ → List ℕ → ℕ → ℕ → Strode
many_call z ns es ws ps out who limit =
    cond (lengths_fit z ns es ws)
    (cond (ltb who 16) (steps_session z ns es ws ps out who limit) (stands_still ns es ws ps out 1))
    (stands_still ns es ws ps out 7)
