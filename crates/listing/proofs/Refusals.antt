-- Refusals 12 and 11 are given exactly when document 01's table says, in that order, and change nothing;
-- and what is written is the listing, with no byte past its length changed.
-- In order: the three ways out; each refusal; what stays. Assumes nothing.
use Prim.Native.Nat.{ℕ, ◌+◌, ◌≤◌, ◌<◌}
use mathlib.Core.Path.{◌≡◌, refl, ◌∙◌, ap}
use mathlib.Core.List.{List, ◌++◌}
use mathlib.Core.Bool.{Bool, true, false, cond}
use mathlib.Core.Logic.{◌↔◌}
use native.Mathlib.Omega.{arith}
use native.Mathlib.Nat.{zero-add}
use lib.ListN.{length, take, drop}
use lib.Seq.{sets, sets-eq, take-append_seam, drop-append_seam}
use lib.Dec.{leb}
use borrow.Author.Tests.{leb-true, leb-false}
use Rattle.std.specs.Prelude.{Result, Ok, Err}
use Rattle.text.proofs.Basics.{impossible}
use Rattle.listing.specs.Listing.{listing_of, good_pairs, done, write_of}
use Rattle.listing.specs.Refusals.{number_of, Good}
use Rattle.listing.specs.declared.Unwritten.{Unwritten}
use Rattle.listing.proofs.Pairs.{good_is}

-- ---- the three ways out

data Way (most : ℕ) (ks vs bytes out o : List ℕ) (r : Result ℕ Unwritten) : Type 0 where
  bad : (Good most ks vs → ⊥) → r ≡ Err Unwritten.BadPairs → o ≡ out → Way most ks vs bytes out o r
  short : Good most ks vs → length out < length bytes → r ≡ Err Unwritten.NoRoom → o ≡ out →
      Way most ks vs bytes out o r
  all : Good most ks vs → length bytes ≤ length out → r ≡ Ok (length bytes) → o ≡ sets out 0 bytes →
      Way most ks vs bytes out o r

way_of : (most stamp : ℕ) (ks vs out o : List ℕ) (r : Result ℕ Unwritten) → done o r ≡ write_of most stamp ks vs out →
    Way most ks vs (listing_of stamp ks vs) out o r
unfolding write_of
way_of most stamp ks vs out o r =
    by (good_pairs most ks vs) (leb (length (listing_of stamp ks vs)) (length out)) refl refl
  where
    by : (t u : Bool) → good_pairs most ks vs ≡ t → leb (length (listing_of stamp ks vs)) (length out) ≡ u →
        done o r ≡
        cond t (cond u (done (sets out 0 (listing_of stamp ks vs)) (Ok (length (listing_of stamp ks vs))))
        (done out (Err Unwritten.NoRoom))) (done out (Err Unwritten.BadPairs)) →
        Way most ks vs (listing_of stamp ks vs) out o r
    by true true g h w =
        all ((good_is most ks vs).0 g) (leb-true (length (listing_of stamp ks vs)) (length out) h) (cc) (cc)
    by true false g h w =
        short ((good_is most ks vs).0 g) (leb-false (length (listing_of stamp ks vs)) (length out) h) (cc) (cc)
    by false u g h w =
        bad (λ k. let yes : good_pairs most ks vs ≡ true = (good_is most ks vs).1 k in impossible (cc)) (cc) (cc)

-- ---- each of them, for an outcome that the contract of `write` allows

module _ (most stamp : ℕ) (ks vs out o : List ℕ) (r : Result ℕ Unwritten)
    (told : done o r ≡ write_of most stamp ks vs out) where
  abbrev bytes : List ℕ
  bytes = listing_of stamp ks vs

  -- 12: keys and values differ in number, more than 510, a key out of bounds, keys not strictly rising
  pub bad_pairs : (number_of r ≡ 12) ↔ (Good most ks vs → ⊥)
  bad_pairs = (to (way_of most stamp ks vs out o r told), from (way_of most stamp ks vs out o r told))
    where
      to : Way most ks vs bytes out o r → number_of r ≡ 12 → Good most ks vs → ⊥
      to (bad n e k) h = n
      to (short g l e k) h = λ q. omega (arith, ap number_of e)
      to (all g l e k) h = λ q. omega (arith, ap number_of e)

      from : Way most ks vs bytes out o r → (Good most ks vs → ⊥) → number_of r ≡ 12
      from (bad n e k) h = rw e
      from (short g l e k) h = absurd (h g)
      from (all g l e k) h = absurd (h g)

  -- 11, after 12: output shorter than the listing
  pub no_room : (number_of r ≡ 11) ↔ (Good most ks vs × (length out < length bytes))
  no_room = (to (way_of most stamp ks vs out o r told), from (way_of most stamp ks vs out o r told))
    where
      to : Way most ks vs bytes out o r → number_of r ≡ 11 → Good most ks vs × (length out < length bytes)
      to (bad n e k) h = absurd (omega (arith, ap number_of e))
      to (short g l e k) h = (g, l)
      to (all g l e k) h = absurd (omega (arith, ap number_of e))

      from : Way most ks vs bytes out o r → Good most ks vs × (length out < length bytes) → number_of r ≡ 11
      from (bad n e k) h = absurd (n h.0)
      from (short g l e k) h = rw e
      from (all g l e k) h = let n = h.1 in absurd (omega arith)

  -- a refusal changes nothing
  pub refused_keeps : (number_of r ≡ 0 → ⊥) → o ≡ out
  refused_keeps = by (way_of most stamp ks vs out o r told)
    where
      by : Way most ks vs bytes out o r → (number_of r ≡ 0 → ⊥) → o ≡ out
      by (bad n e k) h = k
      by (short g l e k) h = k
      by (all g l e k) h = absurd (h (rw e))

  -- what is answered is the listing's length; that many bytes are the listing, and the others are as before
  pub record Whole (n : ℕ) : Type 0 where
    pub good : Good most ks vs
    pub counted : n ≡ length bytes
    pub first : take n o ≡ bytes
    pub others : drop n o ≡ drop n out

  pub written : (n : ℕ) → r ≡ Ok n → Whole n
  written n = by (way_of most stamp ks vs out o r told)
    where
      by : Way most ks vs bytes out o r → r ≡ Ok n → Whole n
      by (bad m e k) h = impossible (cc)
      by (short g l e k) h = impossible (cc)
      by (all g l e k) h =
          let z : n ≡ length bytes = cc in
          let room : 0 + length bytes ≤ length out = omega arith in
          let whole : o ≡ bytes ++ drop (length bytes) out =
          k ∙ (rw zero-add at (sets-eq bytes out 0 room)) in
          record {
            good = g;
            counted = z;
            first = rw (z, whole, take-append_seam);
            others = rw (z, whole, drop-append_seam);
          }
