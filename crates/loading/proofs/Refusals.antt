-- Refusals 7, then 9 and 10, are given exactly when document 01's table says, and change nothing.
-- In order: the ways out; each refusal; what stays. Assumes nothing.
use Prim.Native.Nat.{ℕ, ◌*◌}
use mathlib.Core.Path.{◌≡◌, refl, sym, ◌∙◌, ap}
use mathlib.Core.List.{List, [], ◌∷◌}
use mathlib.Core.Bool.{Bool, true, false, cond, ◌&&◌}
use mathlib.Core.Logic.{◌↔◌}
use native.Mathlib.Omega.{arith}
use lib.ListN.{length}
use lib.Dec.{eqb}
use borrow.Author.Tests.{eq-eqb, eqb-true}
use Rattle.std.specs.Prelude.{Result, Ok, Err}
use Rattle.text.proofs.Basics.{impossible}
use Rattle.terms.specs.declared.Size.{Size}
use Rattle.steps.specs.Steps.{Tables, tables}
use Rattle.register.specs.Register.{fits}
use Rattle.scanning.specs.Reading.{whole, check_of}
use Rattle.scanning.specs.Refusals.{FirstBad, OneMore}
use Rattle.scanning.specs.declared.Whole.{Whole}
use Rattle.scanning.specs.declared.Unread.{Unread}
use Rattle.scanning.proofs.Refusals.{bad_listing, too_many}
use Rattle.loading.specs.Filing.{used}
use Rattle.loading.specs.Loading.{number_of, values_of, done, on_reading, loaded_tables, load_of}
use Rattle.terms.specs.declared.Counters.{Counters}
use Rattle.loading.specs.declared.Unloaded.{Unloaded}

-- ---- the ways out

-- both tables have their length
abbrev pub Lengths : Size → List ℕ → List ℕ → Type 0
Lengths z ns es = (length ns ≡ z.nodes * 6) × (length es ≡ z.entries * 4)

pub fits_lengths : (z : Size) (ns es : List ℕ) → Lengths z ns es → fits z ns es ≡ true
unfolding fits
fits_lengths z ns es l = rw (eq-eqb _ _ l.0, eq-eqb _ _ l.1)

pub lengths_fit : (z : Size) (ns es : List ℕ) → fits z ns es ≡ true → Lengths z ns es
unfolding fits
lengths_fit z ns es = by (eqb (length ns) (z.nodes * 6)) (eqb (length es) (z.entries * 4)) refl refl
  where
    by : (b c : Bool) → eqb (length ns) (z.nodes * 6) ≡ b → eqb (length es) (z.entries * 4) ≡ c →
        (b && c) ≡ true → Lengths z ns es
    by true true e f h = (eqb-true _ _ e, eqb-true _ _ f)
    by true false e f h = impossible (cc)
    by false c e f h = impossible (cc)

pub data Way (z : Size) (s ns es : List ℕ) (t : Tables) (r : Result Counters Unloaded) : Type 0 where
  bad_table : ¬ Lengths z ns es → r ≡ Err Unloaded.BadTable → t ≡ tables ns es → Way z s ns es t r
  bad : (p : ℕ) → Lengths z ns es → check_of z.keys s ≡ Err (Unread.BadListing p) → r ≡ Err (Unloaded.BadListing p) →
      t ≡ tables ns es → Way z s ns es t r
  many : Lengths z ns es → check_of z.keys s ≡ Err Unread.TooMany → r ≡ Err Unloaded.TooMany → t ≡ tables ns es →
      Way z s ns es t r
  register : (stamp count : ℕ) → Lengths z ns es → check_of z.keys s ≡ whole stamp count →
      r ≡ Ok (used count) → t ≡ loaded_tables s ns es → Way z s ns es t r

pub way_of : (z : Size) (s ns es : List ℕ) (t : Tables) (r : Result Counters Unloaded) → done t r ≡ load_of z s ns es →
    Way z s ns es t r
unfolding load_of
way_of z s ns es t r = by (fits z ns es) (check_of z.keys s) refl refl
  where
    by : (b : Bool) (a : Result Whole Unread) → fits z ns es ≡ b → check_of z.keys s ≡ a →
        done t r ≡ cond b (on_reading s ns es a) (done (tables ns es) (Err Unloaded.BadTable)) → Way z s ns es t r
    by false a e g h = bad_table (λ l. let w = fits_lengths z ns es l in impossible (cc)) (cc) (cc)
    by true (Err (Unread.BadListing p)) e g h = bad p (lengths_fit z ns es e) g (cc) (cc)
    by true (Err Unread.TooMany) e g h = many (lengths_fit z ns es e) g (cc) (cc)
    by true (Ok w) e g h = register w.stamp w.count (lengths_fit z ns es e) g (cc) (cc)

-- ---- for an outcome that the contract of `load` allows

module _ (z : Size) (s ns es : List ℕ) (t : Tables) (r : Result Counters Unloaded)
    (told : done t r ≡ load_of z s ns es) where
  abbrev Out : Type 0
  Out = Way z s ns es t r

  way : Out
  way = way_of z s ns es t r told

  -- 7: a lent table has another length
  pub refused_7 : (number_of r ≡ 7) ↔ (¬ Lengths z ns es)
  refused_7 = (to way, from way)
    where
      to : Out → number_of r ≡ 7 → Lengths z ns es → ⊥
      to (bad_table n e k) h = n
      to (bad p l c e k) h = λ q. omega (arith, ap number_of e)
      to (many l c e k) h = λ q. omega (arith, ap number_of e)
      to (register stamp count l c e k) h = λ q. omega (arith, ap number_of e)

      from : Out → (¬ Lengths z ns es) → number_of r ≡ 7
      from (bad_table n e k) h = rw e
      from (bad p l c e k) h = absurd (h l)
      from (many l c e k) h = absurd (h l)
      from (register stamp count l c e k) h = absurd (h l)

  -- 9, after 7: with the offset of the first line not allowed there
  pub refused_9 : (p : ℕ) →
      ((number_of r ≡ 9) × (values_of r ≡ p ∷ [])) ↔ (Lengths z ns es × FirstBad z.keys s p)
  refused_9 p = (to way, from way)
    where
      to : Out → (number_of r ≡ 9) × (values_of r ≡ p ∷ []) → Lengths z ns es × FirstBad z.keys s p
      to (bad_table n e k) h = absurd (omega (arith, ap number_of e, h.0))
      to (bad q l c e k) h =
          let same : q ∷ [] ≡ p ∷ [] = sym (ap values_of e) ∙ h.1 in
          let w : check_of z.keys s ≡ Err (Unread.BadListing p) = cc in (l, (bad_listing z.keys s p).0 w)
      to (many l c e k) h = absurd (omega (arith, ap number_of e, h.0))
      to (register stamp count l c e k) h = absurd (omega (arith, ap number_of e, h.0))

      from : Out → Lengths z ns es × FirstBad z.keys s p → (number_of r ≡ 9) × (values_of r ≡ p ∷ [])
      from (bad_table n e k) h = absurd (n h.0)
      from (bad q l c e k) h =
          let w = (bad_listing z.keys s p).1 h.1 in let same : q ≡ p = cc in (rw e, rw (e, same))
      from (many l c e k) h = let w = (bad_listing z.keys s p).1 h.1 in impossible (cc)
      from (register stamp count l c e k) h = let w = (bad_listing z.keys s p).1 h.1 in impossible (cc)

  -- 10, after 7: a listing's 511th otherwise allowed key line
  pub refused_10 : (number_of r ≡ 10) ↔ (Lengths z ns es × OneMore z.keys s)
  refused_10 = (to way, from way)
    where
      to : Out → number_of r ≡ 10 → Lengths z ns es × OneMore z.keys s
      to (bad_table n e k) h = absurd (omega (arith, ap number_of e))
      to (bad q l c e k) h = absurd (omega (arith, ap number_of e))
      to (many l c e k) h = (l, (too_many z.keys s).0 c)
      to (register stamp count l c e k) h = absurd (omega (arith, ap number_of e))

      from : Out → Lengths z ns es × OneMore z.keys s → number_of r ≡ 10
      from (bad_table n e k) h = absurd (n h.0)
      from (bad q l c e k) h = let w = (too_many z.keys s).1 h.1 in impossible (cc)
      from (many l c e k) h = rw e
      from (register stamp count l c e k) h = let w = (too_many z.keys s).1 h.1 in impossible (cc)

  -- a refusal changes nothing
  pub refused_keeps : (number_of r ≡ 0 → ⊥) → t ≡ tables ns es
  refused_keeps = by way
    where
      by : Out → (number_of r ≡ 0 → ⊥) → t ≡ tables ns es
      by (bad_table n e k) h = k
      by (bad q l c e k) h = k
      by (many l c e k) h = k
      by (register stamp count l c e k) h = absurd (h (rw e))
