-- The runner's lines (document 01, "The runner"): `insert=S,K,V`, `remove=S,K`, `has=S,K`, `range=S,L,H`,
-- `step=S` in, and one line out for each.
-- In order: names; numbers divided by commas; a line in; a line out; a call's line; the runner's own
-- refusals.
-- Not here: what a call does, and the run over all lines (crate running); numbers and lines' ends (crate text).
-- Assumes nothing.
use Rattle.std.specs.Prelude.{ℕ, suc, ◌+◌, ◌≤◌, List, [], ◌∷◌, ◌++◌, cond, length, take, drop, ltb, eqb}
use Rattle.text.specs.Text.{largest, number_in, field_in, digits}
use Rattle.std.specs.Prelude.{Option, Some, None}
use Rattle.terms.specs.Terms.{Name, started, working, waiting, key, inserted, removed, present, absent, end, refused}
use Rattle.terms.specs.Terms.{name_of, values_of}
use Rattle.terms.specs.declared.Op.{Op}
use Rattle.terms.specs.declared.Answer.{Answer}
use Rattle.sixteen.specs.declared.Call.{Call}

-- ---- names, each with its `=`
abbrev pub insert_name : List ℕ
insert_name = 105 ∷ 110 ∷ 115 ∷ 101 ∷ 114 ∷ 116 ∷ 61 ∷ []

abbrev pub remove_name : List ℕ
remove_name = 114 ∷ 101 ∷ 109 ∷ 111 ∷ 118 ∷ 101 ∷ 61 ∷ []

abbrev pub has_name : List ℕ
has_name = 104 ∷ 97 ∷ 115 ∷ 61 ∷ []

abbrev pub range_name : List ℕ
range_name = 114 ∷ 97 ∷ 110 ∷ 103 ∷ 101 ∷ 61 ∷ []

abbrev pub step_name : List ℕ
step_name = 115 ∷ 116 ∷ 101 ∷ 112 ∷ 61 ∷ []

-- of each answer
abbrev pub name_bytes : Name → List ℕ
name_bytes started = 115 ∷ 116 ∷ 97 ∷ 114 ∷ 116 ∷ 101 ∷ 100 ∷ 61 ∷ []
name_bytes working = 119 ∷ 111 ∷ 114 ∷ 107 ∷ 105 ∷ 110 ∷ 103 ∷ 61 ∷ []
name_bytes waiting = 119 ∷ 97 ∷ 105 ∷ 116 ∷ 105 ∷ 110 ∷ 103 ∷ 61 ∷ []
name_bytes key = 107 ∷ 101 ∷ 121 ∷ 61 ∷ []
name_bytes inserted = 105 ∷ 110 ∷ 115 ∷ 101 ∷ 114 ∷ 116 ∷ 101 ∷ 100 ∷ 61 ∷ []
name_bytes removed = 114 ∷ 101 ∷ 109 ∷ 111 ∷ 118 ∷ 101 ∷ 100 ∷ 61 ∷ []
name_bytes present = 112 ∷ 114 ∷ 101 ∷ 115 ∷ 101 ∷ 110 ∷ 116 ∷ 61 ∷ []
name_bytes absent = 97 ∷ 98 ∷ 115 ∷ 101 ∷ 110 ∷ 116 ∷ 61 ∷ []
name_bytes end = 101 ∷ 110 ∷ 100 ∷ 61 ∷ []
name_bytes refused = 114 ∷ 101 ∷ 102 ∷ 117 ∷ 115 ∷ 101 ∷ 100 ∷ 61 ∷ []

-- ---- numbers divided by commas

-- how many bytes come before the first comma, or all
unfoldable pub comma_in : List ℕ → ℕ
comma_in [] = 0
comma_in (b ∷ s) = cond (eqb b 44) 0 (suc (comma_in s))

-- where the first comma stands, if there is one
unfoldable pub comma_at : List ℕ → Option ℕ
comma_at s = cond (ltb (comma_in s) (length s)) (Some (comma_in s)) None

abbrev pub both : Option ℕ → Option ℕ → Option (ℕ × ℕ)
both (Some a) (Some b) = Some (a, b)
both (Some a) None = None
both None n = None

unfoldable pub two_in : List ℕ → Option (ℕ × ℕ)
two_in s =
    cond (ltb (comma_in s) (length s)) (both (number_in (take (comma_in s) s)) (number_in (drop (comma_in s + 1) s)))
    None

-- ---- a line in, without its byte 10

abbrev pub or_one : Option ℕ → (ℕ → Option Call) → Option Call → Option Call
or_one (Some a) f other = f a
or_one None f other = other

abbrev pub or_two : Option (ℕ × ℕ) → (ℕ → ℕ → Option Call) → Option Call → Option Call
or_two (Some p) f other = f p.0 p.1
or_two None f other = other

-- `remove=S,K` and `has=S,K`: `head` is what comes before the first comma
unfoldable pub keyed : List ℕ → ℕ → Option Call
keyed head k =
    or_one (field_in remove_name head) (λ s. Some (Call.Start s (Op.Remove k)))
    (or_one (field_in has_name head) (λ s. Some (Call.Start s (Op.Has k))) None)

-- `insert=S,K,V` and `range=S,L,H`
unfoldable pub paired : List ℕ → ℕ → ℕ → Option Call
paired head a b =
    or_one (field_in insert_name head) (λ s. Some (Call.Start s (Op.Insert a b)))
    (or_one (field_in range_name head) (λ s. Some (Call.Start s (Op.Range a b))) None)

-- a line cut at its first comma
unfoldable pub start_in : List ℕ → List ℕ → Option Call
start_in head tail = or_one (number_in tail) (keyed head) (or_two (two_in tail) (paired head) None)

-- `step=S` has no comma
unfoldable pub line_in : List ℕ → Option Call
line_in l =
    cond (ltb (comma_in l) (length l))
    (start_in (take (comma_in l) l) (drop (comma_in l + 1) l))
    (or_one (field_in step_name l) (λ s. Some (Call.Step s)) None)

-- ---- a line out

abbrev pub comma : List ℕ
comma = 44 ∷ []

abbrev pub line_end : List ℕ
line_end = 10 ∷ []

-- a name, or a comma, and a number
unfoldable pub one_of : List ℕ → ℕ → List ℕ
one_of name a = name ++ digits a

-- a name and numbers with commas between them
unfoldable pub more : List ℕ → ℕ → List ℕ → List ℕ
more name a [] = one_of name a
more name a (b ∷ r) = one_of name a ++ more comma b r

abbrev pub listed : List ℕ → List ℕ → List ℕ
listed name [] = name
listed name (a ∷ r) = more name a r

-- the session comes first; a refusal tells its number alone
abbrev pub numbers_for : Name → ℕ → List ℕ → List ℕ
numbers_for started who values = who ∷ values
numbers_for working who values = who ∷ values
numbers_for waiting who values = who ∷ values
numbers_for key who values = who ∷ values
numbers_for inserted who values = who ∷ values
numbers_for removed who values = who ∷ values
numbers_for present who values = who ∷ values
numbers_for absent who values = who ∷ values
numbers_for end who values = who ∷ values
numbers_for refused who values = values

-- the answer's name and numbers
unfoldable pub words_of : ℕ → Answer → List ℕ
words_of who a = listed (name_bytes (name_of a)) (numbers_for (name_of a) who (values_of a))

unfoldable pub answer_line : ℕ → Answer → List ℕ
answer_line who a = words_of who a ++ line_end

-- ---- a call's line, as it is written; none says an operation that is none

abbrev pub call_line : Call → List ℕ
call_line (Call.Start s Op.None) = []
call_line (Call.Start s (Op.Insert k v)) = more insert_name s (k ∷ v ∷ [])
call_line (Call.Start s (Op.Remove k)) = more remove_name s (k ∷ [])
call_line (Call.Start s (Op.Has k)) = more has_name s (k ∷ [])
call_line (Call.Start s (Op.Range low high)) = more range_name s (low ∷ high ∷ [])
call_line (Call.Step s) = more step_name s []

-- the calls whose numbers can be written
abbrev pub Written : Call → Type 0
Written (Call.Start s Op.None) = ⊥
Written (Call.Start s (Op.Insert k v)) = (s ≤ largest) × (k ≤ largest) × (v ≤ largest)
Written (Call.Start s (Op.Remove k)) = (s ≤ largest) × (k ≤ largest)
Written (Call.Start s (Op.Has k)) = (s ≤ largest) × (k ≤ largest)
Written (Call.Start s (Op.Range low high)) = (s ≤ largest) × (low ≤ largest) × (high ≤ largest)
Written (Call.Step s) = s ≤ largest

-- ---- the runner's own refusals

abbrev pub bad_line : ℕ
bad_line = 13

abbrev pub too_long : ℕ
too_long = 14

unfoldable pub refused_line : ℕ → List ℕ
refused_line number = one_of (name_bytes refused) number ++ line_end
