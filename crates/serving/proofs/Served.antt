-- A whole input, and the answers to it.
-- In order: what is read of an input whose bytes are known; the answers; a run of the runner's lengths is not refused.
-- Assumes nothing.
use Rattle.std.proofs.Common.{◌≡◌, ℕ, suc, ◌<◌, ◌≤◌, List, [], ◌∷◌, ◌++◌, length, take}
use Rattle.std.proofs.Common.{refl, sym, ap, ◌∙◌, arith, length-take-le}
use Rattle.std.specs.Prelude.{Option, None, Some, IfSome, Result, Ok, IsOk}
use Rattle.std.proofs.lemmas.List.{append-nil, take_all, take-append-le}
use Rattle.std.specs.Io.KnownBytes.{Consumes, Appends, IsAtEnd}
use native.Mathlib.Decide.{dec_lt}
use Rattle.terms.specs.Terms.{small}
use Rattle.running.specs.declared.Unrun.{Unrun}
use Rattle.running.specs.Running.{outcome, run_of, end_of}
use Rattle.running.proofs.Enough.{Runs, runs_always}
use Rattle.serving.specs.Serving.{answers_of, Answers}

-- ---- what is read

first_of : (m : ℕ) (xs ys zs : List ℕ) → xs ≡ ys ++ zs → length ys ≤ m → (length ys < m → zs ≡ []) → take m xs ≡ ys
first_of m xs ys [] h le e = ap (take m) (h ∙ append-nil ys) ∙ take_all m ys le
first_of m xs ys (z ∷ zs) h le e = by (dec_lt (length ys) m)
  where
    by : Dec (length ys < m) → take m xs ≡ ys
    by (yes l) =
        let none : suc (length zs) ≡ 0 = ap length (e l) in
        absurd (omega arith)
    by (no l) = ap (take m) h ∙ take-append-le m ys (z ∷ zs) (omega arith) ∙ take_all m ys le

-- a buffer of m bytes whose first n were read, with less than m only at the end of the input
pub first_read : (m n : ℕ) (old new : Option (List ℕ)) (buf : List ℕ) → length buf ≡ m → n ≤ length buf →
    Consumes old new (take n buf) → (n < m → IsAtEnd new) → IfSome old (λ xs. take m xs ≡ take n buf)
first_read m n None new buf is le h e = tt
first_read m n (Some xs) None buf is le h e = absurd h
first_read m n (Some xs) (Some zs) buf is le h e =
    let long : length (take n buf) ≡ n = length-take-le n buf le in
    first_of m xs (take n buf) zs h (omega arith) (λ l. e (omega arith))

-- ---- the answers

pub answered : (known before after : Option (List ℕ)) (input ns es out ns' es' out' : List ℕ)
    (end : Result ℕ Unrun) (k : ℕ) →
    IfSome known (λ xs. take 16385 xs ≡ input) →
    length ns ≡ 3072 → length es ≡ 8192 → length out ≡ 180224 →
    outcome ns' es' out' end ≡ run_of small input ns es out → end ≡ Ok k →
    Appends before after (take k out') →
    IfSome known (λ xs. (bytes : List ℕ) × Answers xs bytes × Appends before after bytes)
answered None before after input ns es out ns' es' out' end k i n e o h is a = tt
answered (Some xs) before after input ns es out ns' es' out' end k i n e o h is a = (
  take k out',
  record {
    nodes = ns;
    entries = es;
    out = out;
    nodes_fit = n;
    entries_fit = e;
    out_fits = o;
    run = ap answers_of
        (ap (outcome ns' es' out') (sym is) ∙ h ∙ ap (λ s. run_of small s ns es out) (sym i));
  },
  a,
)

-- ---- a run of the runner's lengths is not refused, and what it answers fits

module _ (input ns es out ns' es' out' : List ℕ) (end : Result ℕ Unrun) (n : length ns ≡ 3072)
    (e : length es ≡ 8192) (o : length out ≡ 180224)
    (ran : outcome ns' es' out' end ≡ run_of small input ns es out) where
  always : Runs (run_of small input ns es out)
  always = runs_always input ns es out n e o

  ends : end ≡ Ok always.bytes
  ends = ap end_of ran ∙ always.is

  pub is_ok_run : IsOk end
  is_ok_run = rw ends refl

  pub fits_run : (k : ℕ) → end ≡ Ok k → k ≤ 180224
  fits_run k is =
      let both : Ok k ≡ Ok always.bytes = sym is ∙ ends in
      let same : k ≡ always.bytes = cc in
      omega (arith, same, always.fits)
