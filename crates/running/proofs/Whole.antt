-- Each way out of the whole run, and what its parts ask for.
-- In order: room; the ways out. Assumes nothing.
use Rattle.std.specs.Prelude.{Result}
use Prim.Native.Nat.{ℕ, ◌+◌, ◌*◌, ◌≤◌, ◌<◌}
use mathlib.Core.Path.{◌≡◌}
use mathlib.Core.List.{List}
use mathlib.Core.Logic.{⊎_elim}
use native.Mathlib.Omega.{arith}
use Rattle.std.specs.Prelude.{Ok, Err}
use lib.ListN.{length}
use lib.Dec.{lit≤}
use borrow.Author.Tests.{lt-ltb, le-ltb}
use Rattle.text.specs.Text.{lines_of, Puts}
use Rattle.text.proofs.Basics.{split}
use Rattle.terms.specs.declared.Size.{Size}
use Rattle.terms.specs.declared.Counters.{Counters}
use Rattle.terms.specs.declared.Refusal.{Refusal}
use Rattle.register.specs.Register.{opened, fresh_of}
use Rattle.sixteen.specs.Sixteen.{fresh_register}
use Rattle.lines.specs.Lines.{refused_line, too_long}
use Rattle.lines.proofs.Room.{too_long_length}
use Rattle.running.specs.Running.{lines_run, wrote, write_at, room_for, outcome, run_of}
use Rattle.running.specs.declared.Unrun.{Unrun}
use Rattle.running.proofs.Loop.{room_read, room_long}

-- ---- room

module _ (n k m : ℕ) (asked : k ≡ room_for n) (room : k ≤ m) where
  pub room_for_lines : n ≤ 16384 → 11 * n ≤ m
  room_for_lines h = omega (arith, room_read n h)

  -- above any number: input of one byte has room for a line already
  pub room_for_one : (j : ℕ) → j < n → 0 + length (refused_line too_long) ≤ m
  room_for_one j h =
      ⊎_elim (λ l. omega (arith, room_long n l, too_long_length)) (λ l. omega (arith, room_read n l, too_long_length))
      (split 16384 n)

pub ruleset enough = (room_for_lines, room_for_one)

-- ---- the ways out

module _ (z : Size) (input ns es out : List ℕ) (k : ℕ) (asked : k ≡ room_for (length input)) where
  pub no_room : length out < k → outcome ns es out (Err Unrun.NoRoom) ≡ run_of z input ns es out
  unfolding run_of
  no_room h = rw (← asked, lt-ltb (length out) k h)

  module _ (room : k ≤ length out) where
    pub too_long_lem : (out' : List ℕ) (r j : ℕ) → j < length input → 16384 ≤ j →
        Puts out out' 0 (refused_line too_long) r → outcome ns es out' (Ok r) ≡ run_of z input ns es out
    unfolding run_of write_at
    too_long_lem out' r j h b puts =
        rw (← asked, le-ltb (length out) k room, lt-ltb 16384 (length input) (omega arith), puts.0, puts.1)

    module _ (within : length input ≤ 16384) (ns₁ es₁ : List ℕ) (o : Result Counters Refusal)
        (fresh : opened ns₁ es₁ o ≡ fresh_of z ns es) where
      pub ran_through : (c : Counters) (ns₂ es₂ out₂ : List ℕ) (r : ℕ) → o ≡ Ok c →
          wrote ns₂ es₂ out₂ r ≡ write_at out 0 (lines_run (lines_of input) z ns₁ es₁ (fresh_register c)) →
          outcome ns₂ es₂ out₂ (Ok r) ≡ run_of z input ns es out
      unfolding run_of
      ran_through c ns₂ es₂ out₂ r ready did =
          rw (← asked, le-ltb (length out) k room, le-ltb 16384 (length input) within, ← fresh, ready, ← did)

      pub bad_table : (why : Refusal) → o ≡ Err why →
          outcome ns₁ es₁ out (Err Unrun.BadTable) ≡ run_of z input ns es out
      unfolding run_of
      bad_table why refused =
          rw (← asked, le-ltb (length out) k room, le-ltb 16384 (length input) within, ← fresh, refused)

pub ruleset ways = (no_room, too_long_lem, ran_through, bad_table, lit≤)
