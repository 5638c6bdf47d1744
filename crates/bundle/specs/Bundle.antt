-- The entries table: its words, and the bundle rules over any content of it (document 01, B1 to B4).
-- In order: words; the entry of a link; one of a scan; rule B3; rule B4; is the newest pending; laying; finishing.
-- `size` is how many entries the table holds; `es` is the table; a link is 0 for none, else an entry's number and one
-- more.
-- Not here: rows as lists and what these definitions are of them (specs/Shows.antt). Assumes nothing.
use Rattle.std.specs.Prelude.{Option, Some, None, Result, Ok, Err}
use Rattle.std.specs.Prelude.{ℕ, zero, suc, ◌-◌, List, Bool, false, cond, ltb, leb, eqb}
use Rattle.table.specs.Table.{word_of, store_of}
use Rattle.bundle.specs.declared.Held.{Held}
use Rattle.bundle.specs.declared.Look.{Look}

-- ---- words: entry e has words 0 target, 1 stamp (carried or final), 2 pending (0 or not), 3 older
abbrev pub word_at : List ℕ → ℕ → ℕ → ℕ
word_at es e k = word_of 4 es e k

abbrev pub put_at : List ℕ → ℕ → ℕ → ℕ → List ℕ
put_at es e k v = store_of 4 es e k v

-- a link that names an entry of the table
abbrev pub names : ℕ → ℕ → Bool
names size link = cond (eqb link 0) false (leb link size)

-- the entry that it names
unfoldable pub entry_of : ℕ → ℕ → Option ℕ
entry_of size link = cond (names size link) (Some (link - 1)) None

-- ---- one entry of a scan at snapshot s: taken where it is final and not above s, else passed for the older one
unfoldable pub look_of : ℕ → List ℕ → ℕ → ℕ → Result Look Held
look_of size es link s =
    cond (names size link)
    (cond (eqb (word_at es (link - 1) 2) 0)
    (cond (leb (word_at es (link - 1) 1) s)
    (Ok (Look.Taken (word_at es (link - 1) 0)))
    (Ok (Look.Passed (word_at es (link - 1) 3))))
    (Ok (Look.Passed (word_at es (link - 1) 3))))
    (Err Held.Damaged)

abbrev pub go_on : Result Look Held → (ℕ → Result ℕ Held) → Result ℕ Held
go_on (Ok (Look.Taken t)) on = Ok t
go_on (Ok (Look.Passed older)) on = on older
go_on (Err why) on = Err why

-- a scan that passes at most so many entries
unfoldable pub scan_of : ℕ → ℕ → List ℕ → ℕ → ℕ → Result ℕ Held
scan_of zero size es link s = Err Held.Damaged
scan_of (suc left) size es link s = go_on (look_of size es link s) (λ older. scan_of left size es older s)

-- ---- rule B3: wait where the newest is pending and carries less than s, else the first final entry not above s
unfoldable pub holds_up : ℕ → List ℕ → ℕ → ℕ → Bool
holds_up size es newest s =
    cond (names size newest)
    (cond (eqb (word_at es (newest - 1) 2) 0) false (ltb (word_at es (newest - 1) 1) s))
    false

unfoldable pub at_of : ℕ → List ℕ → ℕ → ℕ → Result ℕ Held
at_of size es newest s = cond (holds_up size es newest s) (Err Held.Wait) (scan_of size size es newest s)

-- ---- rule B4: wait where the newest is pending, else take it
unfoldable pub newest_of : ℕ → List ℕ → ℕ → Result ℕ Held
newest_of size es newest =
    cond (names size newest)
    (cond (eqb (word_at es (newest - 1) 2) 0) (Ok (word_at es (newest - 1) 0)) (Err Held.Wait))
    (Err Held.Damaged)

-- ---- is the newest pending: an empty row's is not
unfoldable pub held_of : ℕ → List ℕ → ℕ → Result (Unit {0}) Held
held_of size es newest =
    cond (eqb newest 0) (Ok tt)
    (cond (leb newest size) (cond (eqb (word_at es (newest - 1) 2) 0) (Ok tt) (Err Held.Wait)) (Err Held.Damaged))

-- ---- laying: entry e, pending, carrying the stamp, in front of the row at `older`
unfoldable pub lay_of : List ℕ → ℕ → ℕ → ℕ → ℕ → List ℕ
lay_of es e target stamp older = put_at (put_at (put_at (put_at es e 0 target) e 1 stamp) e 2 1) e 3 older

-- ---- finishing: entry e bears its update's number and is final
unfoldable pub finish_of : List ℕ → ℕ → ℕ → List ℕ
finish_of es e number = put_at (put_at es e 1 number) e 2 0
