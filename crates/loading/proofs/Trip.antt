-- The round trip to a register: loading what writing wrote gives a fresh register with the keys inserted in order.
-- In order: a listing loaded; what was written, loaded; its set; every register that is loaded; P12.
-- Not here: how the tables hold pairs (Chain). Assumes nothing.
use Prim.Native.Nat.{ℕ, ◌+◌, ◌*◌, ◌≤◌}
use mathlib.Core.Path.{◌≡◌, refl, ◌∙◌, ap}
use mathlib.Core.List.{List, []}
use native.Mathlib.Omega.{arith}
use lib.ListN.{length, take}
use Rattle.std.specs.Prelude.{Ok, Result}
use Rattle.text.specs.Text.{largest}
use Rattle.terms.specs.declared.Size.{Size}
use Rattle.steps.specs.Steps.{tables}
use Rattle.register.specs.Register.{fresh_counters}
use Rattle.listing.specs.Listing.{listing_of, write_of}
use Rattle.listing.specs.Listing.{done as written_done}
use Rattle.listing.specs.Refusals.{Good, Fit}
use Rattle.listing.proofs.Pairs.{good_fit}
use Rattle.listing.proofs.Refusals.{written}
use Rattle.scanning.specs.Refusals.{IsListing}
use Rattle.scanning.proofs.OneWay.{check_only}
use Rattle.scanning.proofs.Trip.{check_back, keys_back, values_back}
use Rattle.loading.specs.Filing.{used, filed_all, fresh_tables}
use Rattle.loading.specs.Loading.{Done, done, loaded_tables, load_of, number_of}
use Rattle.terms.specs.declared.Counters.{Counters}
use Rattle.loading.specs.declared.Unloaded.{Unloaded}
use Rattle.loading.specs.Members.{Holds}
use Rattle.loading.proofs.Refusals.{Lengths, fits_lengths, Way, bad_table, bad, many, register, way_of}
use Rattle.loading.proofs.Chain.{members}

-- a size whose tables have room for its keys, numbers of 32 bits
pub record Roomy (z : Size) : Type 0 where
  pub nodes : z.keys + 2 ≤ z.nodes
  pub entries : 2 * z.keys + 1 ≤ z.entries
  pub words : z.keys ≤ largest

-- ---- a listing loaded
module _ (z : Size) (roomy : Roomy z) (stamp : ℕ) (ks vs ns es : List ℕ) (fs : stamp ≤ largest) (fv : Fit vs)
    (lengths : Lengths z ns es) where
  abbrev Register : Done
  Register = done (filed_all 0 ks vs (fresh_tables ns es)) (Ok (used (length ks)))

  -- the stamp is checked as a number and not used further
  pub load_listing : Good z.keys ks vs → load_of z (listing_of stamp ks vs) ns es ≡ Register
  unfolding load_of loaded_tables
  load_listing good =
      rw (
        fits_lengths z ns es lengths,
        check_back z.keys stamp ks vs roomy.words fs fv good,
        keys_back stamp ks vs good.same (good_fit z.keys ks vs good),
        values_back stamp ks vs good.same fv,
      )

  -- ---- what was written, loaded
  pub round_trip : (out o : List ℕ) (n : ℕ) → written_done o (Ok n) ≡ write_of z.keys stamp ks vs out →
      load_of z (take n o) ns es ≡ Register
  round_trip out o n told =
      let all = written z.keys stamp ks vs out o (Ok n) told n refl in
      rw all.first (load_listing all.good)

  -- the tables hold the pairs
  pub good_holds : Good z.keys ks vs → (ns' es' : List ℕ) → tables ns' es' ≡ filed_all 0 ks vs (fresh_tables ns es) →
      Holds ns' es' ks vs
  good_holds good ns' es' same =
      let few = good.few in
      let rn = roomy.nodes in
      let re = roomy.entries in
      let ln = lengths.0 in
      let le = lengths.1 in
      rw (← same) at (members ns es ks vs good.same (omega arith) (omega arith))

  -- and its set is those pairs
  pub round_trip_holds : (out o ns' es' : List ℕ) (n : ℕ) (r : Result Counters Unloaded) →
      written_done o (Ok n) ≡ write_of z.keys stamp ks vs out →
      done (tables ns' es') r ≡ load_of z (take n o) ns es → Holds ns' es' ks vs
  round_trip_holds out o ns' es' n r wrote loaded =
      let all : done (tables ns' es') r ≡ Register = loaded ∙ round_trip out o n wrote in
      good_holds (written z.keys stamp ks vs out o (Ok n) wrote n refl).good ns' es' (cc)

-- ---- every register that is loaded: the listing that it was read from, and the tables and counters
pub record LoadedAs (z : Size) (s ns es ns' es' : List ℕ) (r : Result Counters Unloaded) : Type 0 where
  pub stamp : ℕ
  pub count : ℕ
  pub lengths : Lengths z ns es
  pub listing : IsListing z.keys s stamp count
  pub filed : tables ns' es' ≡ filed_all 0 listing.ks listing.vs (fresh_tables ns es)
  pub counters : r ≡ Ok (used (length listing.ks))
  pub set : Holds ns' es' listing.ks listing.vs

module _ (z : Size) (roomy : Roomy z) (s ns es ns' es' : List ℕ) (r : Result Counters Unloaded)
    (told : done (tables ns' es') r ≡ load_of z s ns es) where
  read_from : (stamp count : ℕ) → Lengths z ns es → IsListing z.keys s stamp count → LoadedAs z s ns es ns' es' r
  read_from stamp count lengths is =
      let all : done (tables ns' es') r ≡
      done (filed_all 0 is.ks is.vs (fresh_tables ns es)) (Ok (used (length is.ks))) =
      told ∙ (rw (← is.bytes) at
      (load_listing z roomy stamp is.ks is.vs ns es is.stamp_fits is.values_fit lengths is.good)) in
      let same : tables ns' es' ≡ filed_all 0 is.ks is.vs (fresh_tables ns es) = cc in
      record {
        stamp = stamp;
        count = count;
        lengths = lengths;
        listing = is;
        filed = same;
        counters = cc;
        set = good_holds z roomy stamp is.ks is.vs ns es is.stamp_fits is.values_fit lengths is.good
            ns' es' same;
      }

  pub loaded_holds : number_of r ≡ 0 → LoadedAs z s ns es ns' es' r
  loaded_holds answered = by (way_of z s ns es (tables ns' es') r told)
    where
      by : Way z s ns es (tables ns' es') r → LoadedAs z s ns es ns' es' r
      by (bad_table n e k) = absurd (omega (arith, ap number_of e))
      by (bad p l c e k) = absurd (omega (arith, ap number_of e))
      by (many l c e k) = absurd (omega (arith, ap number_of e))
      by (register stamp count l c e k) = read_from stamp count l (check_only z.keys s stamp count c)

-- ---- P12: the empty listing reads as fresh
pub empty_fresh : (z : Size) → Roomy z → (ns es : List ℕ) → Lengths z ns es →
    load_of z (listing_of 0 [] []) ns es ≡ done (fresh_tables ns es) (Ok fresh_counters)
unfolding filed_all
empty_fresh z roomy ns es lengths =
    load_listing z roomy 0 [] [] ns es (omega arith) (λ i. omega arith) lengths
    (record {
      same = refl;
      few = omega arith;
      bound = λ i h. absurd (omega arith);
      rise = λ i h. absurd (omega arith);
    })
