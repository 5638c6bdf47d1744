-- A listing read by the library: the slices hold the register that crate loaded proves reached.
-- In order: the one way out with 0; the call. Assumes nothing.
use Prim.Native.Nat.{ℕ}
use mathlib.Core.Path.{◌≡◌, refl, ◌∙◌}
use mathlib.Core.Bool.{Bool, true, false, cond}
use mathlib.Core.List.{List}
use native.Mathlib.Omega.{arith}
use lib.ListN.{length}
use lib.Dec.{eqb}
use borrow.Author.Tests.{eqb-true}
use Rattle.std.specs.Prelude.{Ok, Err}
use Rattle.terms.specs.Terms.{small}
use Rattle.terms.specs.declared.Counters.{Counters}
use Rattle.steps.specs.Steps.{tables}
use Rattle.loading.specs.Loading.{Done, done, load_of}
use Rattle.loading.specs.declared.Unloaded.{Unloaded}
use Rattle.loaded.proofs.Loaded.{loaded_reached}
use Rattle.packing.specs.Packing.{fresh_words, reply_with, number_of, put_reply}
use Rattle.exchange.specs.Exchange.{left, stays, after_read, read_loaded, read_call}
use Rattle.driven.specs.Driven.{Reads, ReadIs}
use Rattle.driven.proofs.Calls.{idle_holds}

module _ (input ns es ws out ns' es' ws' out' : List ℕ) where
  loaded_reads : (c : Counters) → length ws ≡ 147
      → load_of small input ns es ≡ done (tables ns' es') (Ok c) → ws' ≡ fresh_words ws c
      → out' ≡ put_reply out (reply_with 11 c.stamp 0) → Reads input ns es out ns' es' ws' out'
  loaded_reads c long e words answered =
      let r = loaded_reached input ns es ns' es' c e in
      record {
        counters = c;
        past = r.0;
        loads = e;
        holds = rw words (idle_holds ns' es' ws c long);
        reached = r.1;
        updates = r.2;
        under = r.3;
        answered = answered;
      }

  read_by : (l : Done) → load_of small input ns es ≡ l → length ws ≡ 147
      → left ns' es' ws' out' 0 ≡ after_read ws out l → Reads input ns es out ns' es' ws' out'
  unfolding number_of
  read_by (done (tables ns₁ es₁) (Ok c)) e long told =
      let a : ns₁ ≡ ns' = cc in
      let b : es₁ ≡ es' = cc in
      loaded_reads c long (e ∙ rw (a, b)) (cc) (cc)
  read_by (done (tables ns₁ es₁) (Err Unloaded.BadTable)) e long told =
      let z : ◌≡◌ {A = ℕ} 0 7 = cc in absurd (omega (arith, z))
  read_by (done (tables ns₁ es₁) (Err (Unloaded.BadListing offset))) e long told =
      let z : ◌≡◌ {A = ℕ} 0 9 = cc in absurd (omega (arith, z))
  read_by (done (tables ns₁ es₁) (Err Unloaded.TooMany)) e long told =
      let z : ◌≡◌ {A = ℕ} 0 10 = cc in absurd (omega (arith, z))

  lengths_by : (a b : Bool) → eqb (length ws) 147 ≡ b
      → left ns' es' ws' out' 0 ≡ cond a
      (cond b (after_read ws out (load_of small input ns es)) (stays ns es ws out 7)) (left ns es ws out 7)
      → Reads input ns es out ns' es' ws' out'
  lengths_by true true long told =
      read_by (load_of small input ns es) refl (eqb-true (length ws) 147 long) told
  lengths_by true false long told = let z : ◌≡◌ {A = ℕ} 0 7 = cc in absurd (omega (arith, z))
  lengths_by false b long told = let z : ◌≡◌ {A = ℕ} 0 7 = cc in absurd (omega (arith, z))

pub read_is : ReadIs
unfolding read_call read_loaded
read_is input ns es ws out ns' es' ws' out' told =
    lengths_by input ns es ws out ns' es' ws' out' (eqb (length out) 3) (eqb (length ws) 147) refl told
