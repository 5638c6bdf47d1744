-- The loop over lines: what is left answers as the whole, each way through a turn, and the room that a turn has.
-- In order: output in two parts; a turn; room; the first turn; the room that a run asks for.
-- `all` is what the whole run writes. Assumes nothing.
use Prim.Native.Nat.{ℕ, ◌+◌, ◌*◌, ◌≤◌, ◌<◌}
use mathlib.Core.Path.{◌≡◌, refl, sym, ◌∙◌}
use mathlib.Core.List.{List, ◌++◌}
use native.Mathlib.Omega.{arith}
use native.Mathlib.Nat.{add-zero}
use lib.ListN.{length, get_or, set, length-append, replicate}
use lib.Seq.{sets}
use borrow.Author.Tests.{le-leb, lt-leb}
use Rattle.std.proofs.lemmas.List.{nil_from_length}
use Rattle.text.specs.Text.{lines_of, Puts}
use Rattle.text.proofs.Write.{sets_append}
use Rattle.terms.specs.declared.Size.{Size}
use Rattle.terms.specs.declared.Counters.{Counters}
use Rattle.steps.specs.declared.Session.{Session}
use Rattle.steps.specs.Steps.{Done, done, idle}
use Rattle.sixteen.specs.declared.Call.{Call}
use Rattle.sixteen.specs.declared.Register.{Register}
use Rattle.sixteen.specs.Sixteen.{fresh_register}
use Rattle.std.specs.Prelude.{Option, Some, None}
use Rattle.lines.specs.Lines.{answer_line, refused_line, bad_line}
use Rattle.lines.proofs.Room.{bad_line_length, answer_length}
use Rattle.running.specs.Running.{caller_of, Ran, ran, first, on_line, lines_run, Wrote, wrote, write_at, room_for}
use Rattle.running.specs.OneRecord.{slot_of, call_of, turned, told, turn_of}
use Rattle.running.specs.OneLine.{call_in}
use Rattle.running.proofs.OneLine.{Begun}
use Rattle.running.proofs.Slots.{call_slot}

-- ---- output in two parts

write_first : (out bytes : List ℕ) (place : ℕ) (r : Ran) →
    write_at out place (first bytes r) ≡ write_at (sets out place bytes) (place + length bytes) r
unfolding write_at
write_first out bytes place (ran ns es rest) =
    let e : place + length (bytes ++ rest) ≡ place + length bytes + length rest =
    omega (arith, length-append bytes rest) in
    rw (sets_append bytes rest out place, e)

-- ---- a turn

-- the lines of s, served from here and printed from a on, write what the whole run writes
pub record Rest (all : Wrote) (z : Size) (s ns es out : List ℕ) (c : Counters) (ss : List Session) (a : ℕ) :
    Type 0 where
  pub same : all ≡ write_at out a (lines_run (lines_of s) z ns es (record { counters = c; sessions = ss }))

module _ (all : Wrote) (z : Size) (s ns es out : List ℕ) (c : Counters) (ss : List Session) (a : ℕ)
    (rest : Rest all z s ns es out c ss a) where
  pub run_all : length s ≡ 0 → wrote ns es out a ≡ all
  unfolding lines_of lines_run write_at
  run_all h = rw (rest.same, nil_from_length s h, add-zero)

  module _ (l t : List ℕ) (begins : Begun s l t) (o : Option Call) (read : o ≡ call_in l) where
    g : Register
    g = record { counters = c; sessions = ss }

    opened : all ≡ write_at out a (on_line o z ns es g (lines_run (lines_of t) z))
    unfolding g
    opened = rw (rest.same, read, begins.runs z ns es g)

    pub run_bad : (out' : List ℕ) (r : ℕ) → o ≡ None → Puts out out' a (refused_line bad_line) r →
        Rest all z t ns es out' c ss r
    unfolding g
    run_bad out' r bad puts =
        let after = lines_run (lines_of t) z ns es g in
        record { same = opened ∙ rw (bad, write_first out (refused_line bad_line) a after, ← puts.1, ← puts.0) }

    module _ (call : Call) (is : o ≡ Some call) (i : ℕ) (at_slot : i ≡ slot_of call) (x : Session)
        (taken : x ≡ get_or ss i idle) where
      -- by what the call leaves
      turn_on : (d : Done) → d ≡ call_of z ns es c call x →
          (ns' es' out' : List ℕ) (c' : Counters) (x' : Session) (r' : ℕ) →
          turned ns' es' out' c' x' r' ≡ told out a (caller_of call) d →
          Rest all z t ns' es' out' c' (set ss i x') r'
      unfolding g
      turn_on (done ns'' es'' r) did ns' es' out' c' x' r' told =
          let said = answer_line (caller_of call) r.answer in
          let w : turned ns' es' out' c' x' r' ≡
          turned ns'' es'' (sets out a said) r.counters r.session (a + length said) = told in
          let en : ns' ≡ ns'' = cc in
          let ee : es' ≡ es'' = cc in
          let eo : out' ≡ sets out a said = cc in
          let ec : c' ≡ r.counters = cc in
          let ex : x' ≡ r.session = cc in
          let er : r' ≡ a + length said = cc in
          let g' : Register = record { counters = r.counters; sessions = set ss i r.session } in
          let put = write_first out said a (lines_run (lines_of t) z ns'' es'' g') in
          let at = call_slot z ns es g call in
          record { same = opened ∙ rw (is, at, ← at_slot, ← taken, ← did, put, en, ee, eo, ec, ex, er) }

      pub run_call : (ns' es' out' : List ℕ) (c' : Counters) (x' : Session) (r' : ℕ) →
          turned ns' es' out' c' x' r' ≡ turn_of z ns es out a c call x →
          Rest all z t ns' es' out' c' (set ss i x') r'
      unfolding turn_of
      run_call ns' es' out' c' x' r' did = turn_on (call_of z ns es c call x) refl ns' es' out' c' x' r' did

pub ruleset running = (run_all, run_bad, run_call)

-- ---- room: 11 bytes for each byte that is left, and a call has 7 at least

module _ (s l t : List ℕ) (begins : Begun s l t) (n a m o : ℕ) (bound : a + 11 * length s ≤ 11 * n)
    (k : 11 * n ≤ m) (y : o ≡ m) where
  pub room_bad : a + length (refused_line bad_line) ≤ o
  room_bad = omega (arith, bad_line_length, begins.some, begins.parts)

  pub room_call : (call : Call) (r : Option Call) → r ≡ call_in l → r ≡ Some call → a + 67 ≤ o
  room_call call r read is = omega (arith, begins.long call (sym read ∙ is), begins.parts)

module _ (s l t : List ℕ) (begins : Begun s l t) (n a : ℕ) (bound : a + 11 * length s ≤ 11 * n) where
  pub next_bad : (r : ℕ) (out out' : List ℕ) → Puts out out' a (refused_line bad_line) r → r + 11 * length t ≤ 11 * n
  next_bad r out out' puts = omega (arith, puts.0, bad_line_length, begins.some, begins.parts)

  pub next_call : (call : Call) (r : Option Call) → r ≡ call_in l → r ≡ Some call →
      (y : Size) (ns es out ns' es' out' : List ℕ) (c c' : Counters) (x x' : Session) (r' : ℕ) →
      turned ns' es' out' c' x' r' ≡ turn_of y ns es out a c call x → r' + 11 * length t ≤ 11 * n
  unfolding turn_of
  next_call call r read is y ns es out ns' es' out' c c' x x' r' = by (call_of y ns es c call x)
    where
      by : (d : Done) → turned ns' es' out' c' x' r' ≡ told out a (caller_of call) d → r' + 11 * length t ≤ 11 * n
      by (done ns'' es'' d) h =
          let er : r' ≡ a + length (answer_line (caller_of call) d.answer) = cc in
          omega (
            arith,
            begins.long call (sym read ∙ is),
            begins.parts,
            er,
            answer_length (caller_of call) d.answer,
          )

pub ruleset rooms = (room_bad, room_call, next_bad, next_call)

-- ---- the first turn

pub rest_starts : (z : Size) (s ns es out : List ℕ) (c : Counters) (x : Session) → x ≡ idle →
    Rest (write_at out 0 (lines_run (lines_of s) z ns es (fresh_register c))) z s ns es out c (replicate 16 x) 0
rest_starts z s ns es out c x e = record { same = rw e }

-- ---- the room that a run asks for

pub room_read : (n : ℕ) → n ≤ 16384 → 11 * n ≡ room_for n
unfolding room_for
room_read n h = rw (le-leb n 16384 h)

pub room_long : (n : ℕ) → 16384 < n → 11 ≡ room_for n
unfolding room_for
room_long n h = rw (lt-leb n 16384 h)
