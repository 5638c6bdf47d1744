-- The runner's own refusals are given exactly when document 01 says.
-- In order: no answer of the register reads as one of them; BadLine (13); TooLong (14).
-- A line is answered by 13 exactly when it is bad (which lines those are: Forms in crate lines), and so is a last
-- line
-- without byte 10. Input above 16,384 bytes is answered by 14 alone and changes no table; no other input prints that
-- line first. Assumes nothing.
use Prim.Native.Nat.{ℕ, ◌≤◌, ◌<◌}
use mathlib.Core.Path.{◌≡◌, refl, sym, ◌∙◌, ap}
use mathlib.Core.List.{List, [], ◌∷◌, ◌++◌}
use native.Mathlib.Omega.{arith}
use native.Mathlib.Nat.{zero-add}
use Rattle.std.specs.Prelude.{Ok}
use lib.ListN.{length, get_or}
use lib.Seq.{sets}
use borrow.Author.Tests.{lt-ltb, le-ltb, lt-leb}
use Rattle.text.specs.Text.{digits, digits_in, Lines, over, torn, line}
use Rattle.terms.specs.declared.Size.{Size}
use Rattle.terms.specs.declared.Answer.{Answer}
use Rattle.terms.specs.declared.Refusal.{Refusal}
use Rattle.sixteen.specs.declared.Register.{Register}
use Rattle.sixteen.specs.Sixteen.{Left, served, serve_of}
use Rattle.std.specs.Prelude.{Option, Some, None}
use Rattle.sixteen.specs.declared.Call.{Call}
use Rattle.lines.specs.Lines.{one_of, more, words_of, answer_line, refused_line, bad_line, too_long, line_in}
use Rattle.lines.proofs.Room.{too_long_length}
use Rattle.running.specs.Running.{caller_of, Ran, ran, first, printed, answered, on_line, lines_run}
use Rattle.running.specs.Running.{write_at, room_for, outcome, run_of}

-- ---- no answer of the register reads as one of them

-- lists that differ at a place
apart : (x y : List ℕ) (i : ℕ) → (get_or x i 0 ≡ get_or y i 0 → ⊥) → x ≡ y → ⊥
apart x y i d e = d (ap (λ (l : List ℕ). get_or l i 0) e)

-- `refused=1d`, with 1 and another digit: a register's refusal has one digit
refusal_not_own : (why : Refusal) (who d : ℕ) (rest tail : List ℕ) → 48 ≤ d
    → answer_line who (Answer.Refused why) ++ rest ≡
    114 ∷ 101 ∷ 102 ∷ 117 ∷ 115 ∷ 101 ∷ 100 ∷ 61 ∷ 49 ∷ d ∷ 10 ∷ tail → ⊥
unfolding answer_line words_of more one_of digits digits_in
refusal_not_own Refusal.BadSession who d rest t h = apart _ _ 9 (λ w. omega arith)
refusal_not_own Refusal.Busy who d rest t h = apart _ _ 8 (λ w. omega arith)
refusal_not_own Refusal.BadKey who d rest t h = apart _ _ 8 (λ w. omega arith)
refusal_not_own Refusal.BadRange who d rest t h = apart _ _ 8 (λ w. omega arith)
refusal_not_own Refusal.Idle who d rest t h = apart _ _ 8 (λ w. omega arith)
refusal_not_own Refusal.Full who d rest t h = apart _ _ 8 (λ w. omega arith)
refusal_not_own Refusal.BadTable who d rest t h = apart _ _ 8 (λ w. omega arith)
refusal_not_own Refusal.Damaged who d rest t h = apart _ _ 8 (λ w. omega arith)

pub not_own : (a : Answer) (who n d : ℕ) (rest tail : List ℕ) → digits n ≡ 49 ∷ d ∷ [] → 48 ≤ d →
    answer_line who a ++ rest ≡ refused_line n ++ tail → ⊥
unfolding answer_line words_of more refused_line one_of
not_own Answer.Started who n d rest t e h = apart _ _ 0 (λ w. omega arith)
not_own Answer.Working who n d rest t e h = apart _ _ 0 (λ w. omega arith)
not_own Answer.Waiting who n d rest t e h = apart _ _ 0 (λ w. omega arith)
not_own (Answer.Key k v) who n d rest t e h = apart _ _ 0 (λ w. omega arith)
not_own (Answer.Inserted m) who n d rest t e h = apart _ _ 0 (λ w. omega arith)
not_own (Answer.Removed m) who n d rest t e h = apart _ _ 2 (λ w. omega arith)
not_own Answer.Present who n d rest t e h = apart _ _ 0 (λ w. omega arith)
not_own Answer.Absent who n d rest t e h = apart _ _ 0 (λ w. omega arith)
not_own (Answer.End s c) who n d rest t e h = apart _ _ 0 (λ w. omega arith)
not_own (Answer.Refused why) who n d rest t e h = rw e (refusal_not_own why who d rest t h)

thirteen_digits : digits bad_line ≡ 49 ∷ 51 ∷ []
unfolding digits digits_in
thirteen_digits = refl

fourteen_digits : digits too_long ≡ 49 ∷ 52 ∷ []
unfolding digits digits_in
fourteen_digits = refl

-- bytes that begin with others
pub record Begins (x all : List ℕ) : Type 0 where
  pub rest : List ℕ
  pub is : all ≡ x ++ rest

begins_first : (x : List ℕ) (r : Ran) → Begins x (printed (first x r))
begins_first x (ran ns es rest) = record { rest = rest; is = refl }

-- ---- BadLine

-- what is printed for one line
abbrev pub answer_of : Left → Answer
answer_of (served ns es r) = r.answer

abbrev pub line_out : Option Call → Size → List ℕ → List ℕ → Register → List ℕ
line_out (Some call) z ns es g = answer_line (caller_of call) (answer_of (serve_of z ns es g call))
line_out None z ns es g = refused_line bad_line

-- it comes first, and something may come after it
pub line_first : (l : Option Call) (z : Size) (ns es : List ℕ) (g : Register)
    (next : List ℕ → List ℕ → Register → Ran) →
    Begins (line_out l z ns es g) (printed (on_line l z ns es g next))
line_first (Some call) z ns es g next = by (serve_of z ns es g call)
  where
    by : (d : Left) → Begins (answer_line (caller_of call) (answer_of d)) (printed (answered (caller_of call) d next))
    by (served ns' es' r) = begins_first _ (next ns' es' r.register)
line_first None z ns es g next = begins_first _ (next ns es g)

pub bad_only : (l : Option Call) (z : Size) (ns es : List ℕ) (g : Register) →
    line_out l z ns es g ≡ refused_line bad_line → l ≡ None
bad_only (Some call) z ns es g e =
    absurd (not_own _ (caller_of call) bad_line 51 [] [] thirteen_digits (omega arith)
    (ap (λ (x : List ℕ). x ++ []) e))
bad_only None z ns es g e = refl

pub bad_when : (z : Size) (ns es : List ℕ) (g : Register) → line_out None z ns es g ≡ refused_line bad_line
bad_when z ns es g = refl

pub torn_is_bad : (z : Size) (ns es : List ℕ) (g : Register)
    → lines_run torn z ns es g ≡ ran ns es (refused_line bad_line)
unfolding lines_run
torn_is_bad z ns es g = refl

-- ---- TooLong

thirteen_not_fourteen : (rest tail : List ℕ) → refused_line bad_line ++ rest ≡ refused_line too_long ++ tail → ⊥
unfolding refused_line one_of digits digits_in
thirteen_not_fourteen rest tail = apart _ _ 9 (λ w. omega arith)

torn_not_fourteen : (tail : List ℕ) → refused_line bad_line ≡ refused_line too_long ++ tail → ⊥
unfolding refused_line one_of digits digits_in
torn_not_fourteen tail = apart _ _ 9 (λ w. omega arith)

nothing_not_fourteen : (tail : List ℕ) → [] ≡ refused_line too_long ++ tail → ⊥
unfolding refused_line one_of
nothing_not_fourteen tail = apart _ _ 0 (λ w. omega arith)

pub too_long_when : (z : Size) (input ns es out : List ℕ) → 16384 < length input → 11 ≤ length out →
    run_of z input ns es out ≡ outcome ns es (sets out 0 (refused_line too_long)) (Ok 11)
unfolding run_of room_for write_at
too_long_when z input ns es out long room =
    rw (
      lt-leb (length input) 16384 long,
      le-ltb (length out) 11 room,
      lt-ltb 16384 (length input) long,
      zero-add,
      too_long_length,
    )

-- what the lines of an input print does not begin with that line
pub too_long_only : (ls : Lines) (z : Size) (ns es : List ℕ) (g : Register) (tail : List ℕ) →
    printed (lines_run ls z ns es g) ≡ refused_line too_long ++ tail → ⊥
unfolding lines_run
too_long_only over z ns es g tail = nothing_not_fourteen tail
too_long_only torn z ns es g tail = torn_not_fourteen tail
too_long_only (line l rest) z ns es g tail = by (line_in l)
  where
    by : (l : Option Call) → printed (on_line l z ns es g (lines_run rest z)) ≡ refused_line too_long ++ tail → ⊥
    by (Some call) e =
        let f = line_first (Some call) z ns es g (lines_run rest z) in
        not_own _ (caller_of call) too_long 52 f.rest tail fourteen_digits (omega arith) (sym f.is ∙ e)
    by None e =
        let f = line_first None z ns es g (lines_run rest z) in
        thirteen_not_fourteen f.rest tail (sym f.is ∙ e)
