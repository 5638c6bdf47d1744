-- Room: 11 bytes of output for each byte of input are always enough, so 180,224 bytes are; and a run over tables and
-- an output of the runner's own lengths always answers a length.
-- In order: lines against bytes; what lines print; the run. Assumes nothing.
use Prim.Native.Nat.{ℕ, suc, ◌+◌, ◌*◌, ◌≤◌, ◌<◌}
use mathlib.Core.Path.{◌≡◌, refl}
use mathlib.Core.List.{List, [], ◌∷◌}
use mathlib.Core.Logic.{⊎_elim}
use mathlib.Core.Bool.{Bool, true, false, cond}
use native.Mathlib.Omega.{arith}
use Rattle.std.specs.Prelude.{Ok}
use lib.ListN.{length, length-append}
use lib.Dec.{ltb}
use borrow.Author.Tests.{lt-ltb, le-ltb, eq-eqb}
use Rattle.text.specs.Text.{Lines, over, torn, line, lines_of, joined, ends}
use Rattle.text.proofs.Basics.{split}
use Rattle.terms.specs.declared.Size.{Size}
use Rattle.terms.specs.Terms.{small}
use Rattle.register.specs.Register.{fits, opened, fresh_of, fresh_nodes, fresh_entries, fresh_counters}
use Rattle.sixteen.specs.declared.Register.{Register}
use Rattle.sixteen.specs.Sixteen.{Left, served, serve_of, fresh_register}
use Rattle.std.specs.Prelude.{Option, Some, None}
use Rattle.sixteen.specs.declared.Call.{Call}
use Rattle.lines.specs.Lines.{line_in, answer_line, refused_line, bad_line, too_long}
use Rattle.lines.proofs.Room.{bad_line_length, too_long_length, answer_room}
use Rattle.running.specs.Running.{caller_of, Ran, ran, first, printed, answered, on_line, lines_run}
use Rattle.running.specs.Running.{write_at, room_for, Outcome, end_of, finished, from_fresh, run_of}
use Rattle.running.proofs.Loop.{room_read, room_long}
use Rattle.running.proofs.Cases.{end_of_lem}

-- ---- lines against bytes

-- the bytes that lines have at least
span : Lines → ℕ
span over = 0
span torn = 1
span (line l r) = suc (length l) + span r

span_joined : (b : ℕ) (ls : Lines) → span (joined b ls) ≤ suc (span ls)
unfolding span
span_joined b over = omega arith
span_joined b torn = omega arith
span_joined b (line l r) = omega arith

span_empty : (ls : Lines) → span (line [] ls) ≡ suc (span ls)
unfolding span
span_empty ls = omega arith

span_le : (s : List ℕ) → span (lines_of s) ≤ length s
unfolding lines_of span
span_le [] = omega arith
span_le (b ∷ s) = by (ends b) (span_le s)
  where
    by : (t : Bool) → span (lines_of s) ≤ length s →
        span (cond t (line [] (lines_of s)) (joined b (lines_of s))) ≤ suc (length s)
    by true ih = omega (arith, span_empty (lines_of s))
    by false ih = omega (arith, span_joined b (lines_of s))

-- ---- what lines print

first_length : (x : List ℕ) (r : Ran) → length (printed (first x r)) ≡ length x + length (printed r)
first_length x (ran ns es y) = length-append x y

-- one line, by what comes after it
line_room : (l : List ℕ) (r : Option Call) → line_in l ≡ r → (z : Size) (ns es : List ℕ) (g : Register) (n : ℕ)
    (next : List ℕ → List ℕ → Register → Ran) →
    ((ns es : List ℕ) (g : Register) → length (printed (next ns es g)) ≤ n) →
    length (printed (on_line r z ns es g next)) ≤ 11 * (length l + 1) + n
line_room l (Some call) e z ns es g n next ih = by (serve_of z ns es g call)
  where
    by : (d : Left) → length (printed (answered (caller_of call) d next)) ≤ 11 * (length l + 1) + n
    by (served ns' es' r) =
        omega (
          arith,
          first_length (answer_line (caller_of call) r.answer) (next ns' es' r.register),
          answer_room l call (caller_of call) r.answer e,
          ih ns' es' r.register,
        )
line_room l None e z ns es g n next ih =
    omega (arith, first_length (refused_line bad_line) (next ns es g), bad_line_length, ih ns es g)

lines_room : (ls : Lines) (z : Size) (ns es : List ℕ) (g : Register) →
    length (printed (lines_run ls z ns es g)) ≤ 11 * span ls
unfolding lines_run span
lines_room over z ns es g = omega arith
lines_room torn z ns es g = omega (arith, bad_line_length)
lines_room (line l rest) z ns es g =
    omega (
      arith,
      line_room l (line_in l) refl z ns es g (11 * span rest) (lines_run rest z)
          (λ ns es g. lines_room rest z ns es g),
    )

pub output_room : (s : List ℕ) (z : Size) (ns es : List ℕ) (g : Register) →
    length (printed (lines_run (lines_of s) z ns es g)) ≤ 11 * length s
output_room s z ns es g = omega (arith, lines_room (lines_of s) z ns es g, span_le s)

-- ---- the run

room_always : (n : ℕ) → room_for n ≤ 180224
room_always n =
    ⊎_elim (λ h. omega (arith, room_long n h)) (λ h. omega (arith, room_read n h)) (split 16384 n)

-- a length that the output has, and not a refusal
pub record Runs (o : Outcome) : Type 0 where
  pub bytes : ℕ
  pub is : end_of o ≡ Ok bytes
  pub fits : bytes ≤ 180224

fresh_fits : (ns es : List ℕ) → length ns ≡ 3072 → length es ≡ 8192 →
    fresh_of small ns es ≡ opened (fresh_nodes ns) (fresh_entries es) (Ok fresh_counters)
unfolding fresh_of fits
fresh_fits ns es n e = rw (eq-eqb (length ns) 3072 n, eq-eqb (length es) 8192 e)

pub runs_always : (input ns es out : List ℕ) → length ns ≡ 3072 → length es ≡ 8192 → length out ≡ 180224 →
    Runs (run_of small input ns es out)
unfolding run_of
runs_always input ns es out n e o =
    let room : room_for (length input) ≤ length out = omega (arith, room_always (length input)) in
    rw (le-ltb (length out) (room_for (length input)) room, fresh_fits ns es n e)
    (⊎_elim long short (split 16384 (length input)))
  where
    whole : Outcome
    whole =
        cond (ltb 16384 (length input)) (finished (write_at out 0 (ran ns es (refused_line too_long))))
        (from_fresh small input out (opened (fresh_nodes ns) (fresh_entries es) (Ok fresh_counters)))

    long : 16384 < length input → Runs whole
    long h =
        rw (lt-ltb 16384 (length input) h)
        (record { bytes = _; is = end_of_lem out _; fits = omega (arith, too_long_length) })

    short : length input ≤ 16384 → Runs whole
    short h =
        let most = output_room input small (fresh_nodes ns) (fresh_entries es) (fresh_register fresh_counters) in
        rw (le-ltb 16384 (length input) h) (record { bytes = _; is = end_of_lem out _; fits = omega (arith, most) })
