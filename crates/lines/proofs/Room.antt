-- How long lines are: a line that is a call has 6 bytes or more, an answer 67 or less, `refused=13` eleven.
-- In order: names and numbers read; lines read; lines printed; an answer beside its line.
-- So 11 bytes of output for each byte of input (the line's end included) are always enough. Assumes nothing.
use Prim.Native.Nat.{ℕ, ◌+◌, ◌*◌, ◌≤◌, ◌<◌}
use mathlib.Core.Path.{◌≡◌, refl, sym}
use mathlib.Core.List.{List, [], ◌∷◌}
use mathlib.Core.Bool.{Bool, true, false, cond}
use native.Mathlib.Omega.{arith}
use lib.ListN.{length, take, drop, length-append, length-drop}
use lib.Seq.{length-take-le}
use lib.Dec.{ltb}
use borrow.Author.Tests.{ltb-true}
use Rattle.text.specs.Text.{number_in, grows, starts_with, field_in, digits, digits_in}
use Rattle.std.specs.Prelude.{Option, Some, None}
use Rattle.text.proofs.Basics.{impossible}
use Rattle.text.proofs.Lines.{starts_length}
use Rattle.text.proofs.Write.{short}
use Rattle.terms.specs.Terms.{started, working, waiting, key, inserted, removed, present, absent, end, refused}
use Rattle.terms.specs.Terms.{refusal_number}
use Rattle.terms.specs.declared.Answer.{Answer}
use Rattle.sixteen.specs.declared.Call.{Call}
use Rattle.lines.specs.Lines.{insert_name, remove_name, has_name, range_name, step_name, name_bytes}
use Rattle.lines.specs.Lines.{comma_in, two_in, or_one, or_two, keyed, paired, start_in, line_in}
use Rattle.lines.specs.Lines.{comma, line_end, one_of, more, words_of, answer_line, bad_line, too_long, refused_line}

-- ---- names and numbers read

number_long : (s : List ℕ) (n : ℕ) → number_in s ≡ Some n → 1 ≤ length s
unfolding number_in grows
number_long [] n e = impossible (cc)
number_long (b ∷ s) n e = omega arith

field_long : (name s : List ℕ) (n : ℕ) → field_in name s ≡ Some n → length name + 1 ≤ length s
unfolding field_in
field_long name s n = by (starts_with name s) refl
  where
    by : (t : Bool) → starts_with name s ≡ t → cond t (number_in (drop (length name) s)) None ≡ Some n →
        length name + 1 ≤ length s
    by true e k =
        omega (arith, starts_length name s (sym e), number_long _ n k, length-drop (length name) s)
    by false e k = impossible (cc)

-- ---- lines read: a head of 5 bytes or more and a comma, or `step=` and a digit

either_long : (a b head : List ℕ) (f g : ℕ → Option Call) (call : Call) → 4 ≤ length a → 4 ≤ length b →
    or_one (field_in a head) f (or_one (field_in b head) g None) ≡ Some call → 5 ≤ length head
either_long a b head f g call la lb = by (field_in a head) (field_in b head) refl refl
  where
    by : (n m : Option ℕ) → field_in a head ≡ n → field_in b head ≡ m →
        or_one n f (or_one m g None) ≡ Some call → 5 ≤ length head
    by (Some s) m ea eb e = omega (arith, field_long a head s ea)
    by None (Some s) ea eb e = omega (arith, field_long b head s eb)
    by None None ea eb e = impossible (cc)

keyed_long : (head : List ℕ) (k : ℕ) (call : Call) → keyed head k ≡ Some call → 5 ≤ length head
unfolding keyed
keyed_long head k call e = either_long remove_name has_name head _ _ call (omega arith) (omega arith) e

paired_long : (head : List ℕ) (a b : ℕ) (call : Call) → paired head a b ≡ Some call → 5 ≤ length head
unfolding paired
paired_long head a b call e = either_long insert_name range_name head _ _ call (omega arith) (omega arith) e

start_long : (head tail : List ℕ) (call : Call) → start_in head tail ≡ Some call → 5 ≤ length head
unfolding start_in
start_long head tail call = by (number_in tail) (two_in tail)
  where
    by : (n : Option ℕ) (t : Option (ℕ × ℕ)) → or_one n (keyed head) (or_two t (paired head) None) ≡ Some call
        → 5 ≤ length head
    by (Some k) t e = keyed_long head k call e
    by None (Some (a, b)) e = paired_long head a b call e
    by None None e = impossible (cc)

step_long : (l : List ℕ) (call : Call) (n : Option ℕ) → field_in step_name l ≡ n →
    or_one n (λ s. Some (Call.Step s)) None ≡ Some call → 6 ≤ length l
step_long l call (Some s) f e = omega (arith, field_long step_name l s f)
step_long l call None f e = impossible (cc)

cut_long : (l : List ℕ) (c : ℕ) → c < length l → 5 ≤ length (take c l) → 6 ≤ length l
cut_long l c h k = omega (arith, length-take-le c l (omega arith))

pub call_long : (l : List ℕ) (call : Call) → line_in l ≡ Some call → 6 ≤ length l
unfolding line_in
call_long l call = by (ltb (comma_in l) (length l)) refl
  where
    by : (t : Bool) → ltb (comma_in l) (length l) ≡ t →
        cond t (start_in (take (comma_in l) l) (drop (comma_in l + 1) l))
        (or_one (field_in step_name l) (λ s. Some (Call.Step s)) None) ≡ Some call → 6 ≤ length l
    by true h e = cut_long l (comma_in l) (ltb-true _ _ h) (start_long _ _ call e)
    by false h e = step_long l call (field_in step_name l) refl e

-- ---- lines printed: a number has 20 digits at most

one_length : (name : List ℕ) (a : ℕ) → length (one_of name a) ≤ length name + 20
unfolding one_of
one_length name a = simp length-append (omega (arith, short a))

two_length : (name : List ℕ) (a b : ℕ) → length (more name a (b ∷ [])) ≤ length name + 41
unfolding more
two_length name a b = simp length-append (omega (arith, one_length name a, one_length comma b))

three_length : (name : List ℕ) (a b c : ℕ) → length (more name a (b ∷ c ∷ [])) ≤ length name + 62
unfolding more
three_length name a b c =
    simp length-append (omega (arith, one_length name a, one_length comma b, one_length comma c))

words_length : (who : ℕ) (a : Answer) → length (words_of who a) ≤ 66
unfolding words_of more
words_length who Answer.Started = omega (arith, one_length (name_bytes started) who)
words_length who Answer.Working = omega (arith, one_length (name_bytes working) who)
words_length who Answer.Waiting = omega (arith, one_length (name_bytes waiting) who)
words_length who (Answer.Key k v) = omega (arith, three_length (name_bytes key) who k v)
words_length who (Answer.Inserted n) = omega (arith, two_length (name_bytes inserted) who n)
words_length who (Answer.Removed n) = omega (arith, two_length (name_bytes removed) who n)
words_length who Answer.Present = omega (arith, one_length (name_bytes present) who)
words_length who Answer.Absent = omega (arith, one_length (name_bytes absent) who)
words_length who (Answer.End t c) = omega (arith, three_length (name_bytes end) who t c)
words_length who (Answer.Refused why) = omega (arith, one_length (name_bytes refused) (refusal_number why))

pub answer_length : (who : ℕ) (a : Answer) → length (answer_line who a) ≤ 67
unfolding answer_line
answer_length who a = omega (arith, length-append (words_of who a) line_end, words_length who a)

pub bad_line_length : length (refused_line bad_line) ≡ 11
unfolding refused_line one_of digits digits_in
bad_line_length = refl

pub too_long_length : length (refused_line too_long) ≡ 11
unfolding refused_line one_of digits digits_in
too_long_length = refl

-- ---- an answer beside its line

pub answer_room : (l : List ℕ) (call : Call) (who : ℕ) (a : Answer) → line_in l ≡ Some call →
    length (answer_line who a) ≤ 11 * (length l + 1)
answer_room l call who a e = omega (arith, call_long l call e, answer_length who a)
