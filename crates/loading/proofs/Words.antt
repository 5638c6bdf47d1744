-- Words into tables: each way through the writers of words, over plain values.
-- In order: one key more; all keys; the tables' lengths; fresh tables, then all keys. Assumes nothing.
use Rattle.std.specs.Prelude.{Result, Ok}
use Rattle.terms.specs.declared.Refusal.{Refusal}
use Prim.Native.Nat.{ℕ, ◌+◌, ◌*◌, ◌≤◌, ◌<◌}
use mathlib.Core.Path.{◌≡◌, refl, sym, ap, ◌∙◌}
use mathlib.Core.List.{List, [], ◌∷◌}
use mathlib.Core.Logic.{◌⊎◌, inl, inr}
use mathlib.Core.Bool.{Bool, true, false, cond}
use native.Mathlib.Omega.{arith}
use lib.ListN.{length}
use lib.Dec.{eqb}
use borrow.Author.Tests.{eq-eqb, ne_eqb}
use Rattle.terms.specs.declared.Size.{Size}
use Rattle.terms.specs.declared.Counters.{Counters}
use Rattle.steps.specs.Steps.{Tables, tables}
use Rattle.register.specs.Register.{fits, fresh_nodes, fresh_entries, fresh_counters, fresh_of, opened}
use Rattle.loading.specs.Filing.{pred_of}
use Rattle.loading.specs.Filing.{filed, filed_all, fresh_tables}

-- ---- one key more

pub pred_key : (i : ℕ) → (i ≡ 0 → ⊥) → i + 1 ≡ pred_of i
unfolding pred_of
pred_key i e = rw (ne_eqb i 0 e)

pub pred_below : (i : ℕ) → pred_of i ≤ i + 1
unfolding pred_of
pred_below i = by (eqb i 0)
  where
    by : (t : Bool) → cond t 0 (i + 1) ≤ i + 1
    by true = omega arith
    by false = omega arith

-- ---- all keys: those that are left, from the i-th on, make the whole

pub record Rest (ks vs : List ℕ) (t : Tables) (i : ℕ) (left left' : List ℕ) (u : Tables) : Type 0 where
  pub keys : i + length left ≡ length ks
  pub all : filed_all 0 ks vs t ≡ filed_all i left left' u

pub all_none : (ks vs : List ℕ) (t : Tables) → Rest ks vs t 0 ks vs t
all_none ks vs t = record { keys = omega arith; all = refl }

module _ (ks vs : List ℕ) (t : Tables) (i : ℕ) (left left' : List ℕ) (u : Tables)
    (rest : Rest ks vs t i left left' u) where
  module _ (k v : ℕ) (ks' vs' : List ℕ) (first : left ≡ k ∷ ks') (second : left' ≡ v ∷ vs') where
    pub all_on : (w : Tables) → w ≡ filed i k v u → Rest ks vs t (i + 1) ks' vs' w
    unfolding filed_all
    all_on w a =
        record { keys = omega (arith, rest.keys, ap length first); all = rw (rest.all, first, second, a) }

    pub all_room : length ks < 65536 → i < 65536
    all_room h = omega (arith, rest.keys, ap length first)

  pub all_over : (length left ≡ 0) ⊎ (length left' ≡ 0) → u ≡ filed_all 0 ks vs t
  unfolding filed_all
  all_over none = by left left' none rest.all
    where
      by : (x y : List ℕ) → (length x ≡ 0) ⊎ (length y ≡ 0) → filed_all 0 ks vs t ≡ filed_all i x y u →
          u ≡ filed_all 0 ks vs t
      by [] y none h = sym h
      by (k ∷ x) [] none h = sym h
      by (k ∷ x) (v ∷ y) (inl e) h = absurd (omega arith)
      by (k ∷ x) (v ∷ y) (inr e) h = absurd (omega arith)

pub ruleset all_filed = (all_none, all_on, all_over, all_room)

-- ---- the tables' lengths

pub fits_nodes : (z : Size) (ns es : List ℕ) → length ns ≡ z.nodes * 6 →
    eqb (length es) (z.entries * 4) ≡ fits z ns es
unfolding fits
fits_nodes z ns es h = rw (eq-eqb _ _ h)

pub fits_not : (z : Size) (ns es : List ℕ) → (length ns ≡ z.nodes * 6 → ⊥) → false ≡ fits z ns es
unfolding fits
fits_not z ns es h = rw (ne_eqb _ _ h)

pub ruleset lengths = (fits_nodes, fits_not)

-- ---- fresh tables, then all keys

opens : (z : Size) (ns es : List ℕ) → fits z ns es ≡ true →
    fresh_of z ns es ≡ opened (fresh_nodes ns) (fresh_entries es) (Ok fresh_counters)
unfolding fresh_of
opens z ns es h = rw h

pub fills : (z : Size) (ks vs ns es m n x y : List ℕ) (r : Result Counters Refusal) → fits z ns es ≡ true →
    opened m n r ≡ fresh_of z ns es → tables x y ≡ filed_all 0 ks vs (tables m n) →
    tables x y ≡ filed_all 0 ks vs (fresh_tables ns es)
fills z ks vs ns es m n x y r h a b =
    let w = a ∙ opens z ns es h in
    let en : m ≡ fresh_nodes ns = cc in
    let ee : n ≡ fresh_entries es = cc in rw (b, en, ee)
