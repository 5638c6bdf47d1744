-- What a line is good for, as the input is cut after each byte 10: the run over what is left begins with it.
-- In order: the call by the last byte; the line and what comes after it.
-- Assumes nothing.
use Prim.Native.Nat.{ℕ, suc, ◌+◌, ◌-◌, ◌≤◌, ◌<◌, min}
use mathlib.Core.Path.{◌≡◌, refl, sym, ◌∙◌, ap}
use mathlib.Core.List.{List, [], ◌∷◌, ◌++◌, append-nil}
use mathlib.Core.Logic.{⊎_elim}
use mathlib.Core.Bool.{Bool, true, false, cond}
use native.Mathlib.Omega.{arith}
use lib.ListN.{length, get_or, take, drop, length-append, drop_of_length-le}
use lib.Seq.{take-suc, take-append_seam, drop-append_seam, length-take-le}
use lib.Dec.{eqb}
use Rattle.std.specs.Prelude.{Some, None, ◌&&◌}
use denote.Ref.{Bor}
use denote.Param.Members.{Mut}
use Rattle.std.specs.Fn.{Called, ComputesKey}
use Rattle.std.specs.List.{IsFirstMatchOrLen}
use Rattle.std.proofs.lemmas.Fn.{always_returns_same}
use Rattle.std.proofs.lemmas.List.{take_at, drop_at, get_or_past}
use Rattle.std.proofs.lemmas.List.Sums.{position_or_len_is}
use Rattle.text.specs.Text.{lines_of, line_length}
use Rattle.text.proofs.Basics.{impossible, split}
use Rattle.text.proofs.Lines.{line_length_is, lines_cut, lines_torn}
use Rattle.terms.specs.declared.Size.{Size}
use Rattle.sixteen.specs.declared.Call.{Call}
use Rattle.sixteen.specs.declared.Register.{Register}
use Rattle.lines.specs.Lines.{line_in}
use Rattle.lines.proofs.Room.{call_long}
use Rattle.running.specs.Running.{on_line, lines_run}
use Rattle.running.specs.OneLine.{call_in}

-- ---- the call by the last byte

call_last : (l : List ℕ) (b : ℕ) → call_in (l ++ (b ∷ [])) ≡ cond (eqb b 10) (line_in l) None
unfolding call_in
call_last l b =
    let n : length (l ++ (b ∷ [])) - 1 ≡ length l = omega (arith, length-append l (b ∷ [])) in
    rw (n, drop-append_seam l (b ∷ []), take-append_seam l (b ∷ [])) (by (eqb b 10))
  where
    by : (t : Bool) → cond (t && true) (line_in l) None ≡ cond t (line_in l) None
    by true = refl
    by false = refl

-- ---- the line and what comes after it; a call has 6 bytes and byte 10 at least

pub record Begun (s x t : List ℕ) : Type 1 where
  pub some : 0 < length x
  pub parts : length x + length t ≡ length s
  pub long : (call : Call) → call_in x ≡ Some call → 7 ≤ length x
  pub runs : (z : Size) (ns es : List ℕ) (g : Register) → lines_run (lines_of s) z ns es g ≡
      on_line (call_in x) z ns es g (lines_run (lines_of t) z)

-- x is what stands in s up to the first byte 10 and with it, or all of s
module _ (s x t : List ℕ) (i : ℕ) (inside : 0 < length s) (cut : s ≡ x ++ t)
    (upto : length x ≡ min (i + 1) (length s)) (first : IsFirstMatchOrLen (λ b. eqb b 10) s i) where
  parts : length x + length t ≡ length s
  parts = omega (arith, ap length cut, length-append x t)

  within : i ≤ length s
  within = ⊎_elim (λ h. impossible (past h)) (λ h. h) (split (length s) i)
    where
      past : length s < i → ◌≡◌ {A = ℕ} 0 1
      past h =
          let at : get_or s (length s) 10 ≡ 10 = get_or_past s (length s) 10 (omega arith) in
          let bad : eqb 10 10 ≡ false = rw at at (first.0 (length s) 10 (omega arith) h) in
          cc

  ends_at : line_length s ≡ i
  ends_at =
      line_length_is s ∙ position_or_len_is (λ b. eqb b 10) s i 0 within
      (λ k h. first.0 k 0 (omega arith) h) (λ h. first.1 h 0)

  -- the byte at its end
  last : (j : ℕ) → j < length s → length x ≡ suc j → x ≡ take j s ++ (get_or s j 0 ∷ [])
  last j h n = sym (take_at x t (suc j) n) ∙ ap (take (suc j)) (sym cut) ∙ take-suc s j 0 h

  rest : (j : ℕ) → length x ≡ j → drop j s ≡ t
  rest j n = ap (drop j) cut ∙ drop_at x t j n

  whole_begun : i < length s → Begun s x t
  unfolding lines_run
  whole_begun h =
      let n : length x ≡ suc i = omega (arith, upto) in
      let is : x ≡ take i s ++ (get_or s i 0 ∷ []) = last i h n in
      let call : call_in x ≡ line_in (take i s) =
      ap call_in is ∙ call_last (take i s) (get_or s i 0) ∙ rw (first.1 h 0) in
      let lines = lines_cut s (rw ends_at h) in
      record {
        some = omega arith;
        parts = parts;
        long = λ c e. omega (arith, call_long (take i s) c (sym call ∙ e), length-take-le i s within);
        runs = λ z ns es g. rw (lines, ends_at, rest (suc i) n, call);
      }

  torn_begun : length s ≤ i → Begun s x t
  unfolding lines_run lines_of
  torn_begun h =
      let n : length x ≡ length s = omega (arith, upto) in
      let j : ℕ = length s - 1 in
      let is : x ≡ take j s ++ (get_or s j 0 ∷ []) = last j (omega arith) (omega arith) in
      let other : eqb (get_or s j 0) 10 ≡ false = first.0 j 0 (omega arith) (omega arith) in
      let call : call_in x ≡ None = ap call_in is ∙ call_last (take j s) (get_or s j 0) ∙ rw other in
      let none : t ≡ [] = sym (rest (length s) n) ∙ drop_of_length-le s (omega arith) in
      record {
        some = omega arith;
        parts = parts;
        long = λ c e. impossible (cc);
        runs = λ z ns es g. rw (lines_torn s inside (rw ends_at h), call, none, append-nil);
      }

  begun : Begun s x t
  begun = ⊎_elim whole_begun torn_begun (split i (length s))

-- what a step of `split_inclusive` tells, where each call tests for byte 10
pub begun_by : {F : Type 0} {g : Mut F (Bor ℕ × Unit {0}) Bool} {f f' : F} (s x t : List ℕ) →
    (s ≡ x ++ t) × ((i : ℕ) × (length x ≡ min (i + 1) (length s))
    × ((p : ℕ → Bool) → ComputesKey g p f → ComputesKey g p f' × IsFirstMatchOrLen p s i))
    × (0 < length s) →
    ((a : Bor ℕ × Unit {0}) (r : Bool) (f' : F) → Called g f a r f' → (r ≡ eqb a.0.now 10) × (f' ≡ f)) →
    Begun s x t
begun_by {g = g} {f} s x t h tests =
    begun s x t h.1.0 h.2 h.0 h.1.1
    (h.1.2 (λ b. eqb b 10) (always_returns_same g (λ a r. r ≡ eqb a.0.now 10) f tests)).1
