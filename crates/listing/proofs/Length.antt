-- How long a listing is at most: over the number of keys, and 16,357 bytes for 510.
-- In order: pairs; the listing; the number; an output that always has room. Assumes nothing.
use Prim.Native.Nat.{ℕ, suc, ◌*◌, ◌≤◌}
use mathlib.Core.Path.{◌≡◌, refl}
use mathlib.Core.List.{List, [], ◌∷◌}
use native.Mathlib.Omega.{arith}
use lib.ListN.{length, length-append}
use Rattle.std.specs.Prelude.{Result}
use Rattle.text.specs.Text.{largest, digits, digits_in}
use Rattle.text.proofs.Write.{width_mono, width_ten}
use Rattle.listing.specs.Listing.{stamp_name, key_name, value_name, count_name}
use Rattle.listing.specs.Listing.{pair_of, pairs, listing_of, key_room, most_bytes}
use Rattle.listing.specs.Listing.{done, write_of}
use Rattle.listing.specs.Refusals.{Fit, Good, number_of}
use Rattle.listing.specs.declared.Unwritten.{Unwritten}
use Rattle.listing.proofs.Pairs.{good_fit}
use Rattle.listing.proofs.Refusals.{no_room}
use Rattle.listing.proofs.Put.{field_length, pair_length, edition_length, listing_length}

pair_most : (k v : ℕ) → k ≤ largest → v ≤ largest → length (pair_of k v) ≤ 32
pair_most k v fk fv =
    omega (
      arith,
      pair_length k v,
      field_length key_name k,
      field_length value_name v,
      width_ten k fk,
      width_ten v fv,
    )

pairs_most : (ks vs : List ℕ) → Fit ks → Fit vs → length (pairs ks vs) ≤ 32 * length ks
unfolding pairs
pairs_most [] vs fk fv = omega arith
pairs_most (k ∷ ks) [] fk fv = omega arith
pairs_most (k ∷ ks) (v ∷ vs) fk fv =
    let rest = pairs_most ks vs (λ i. fk (suc i)) (λ i. fv (suc i)) in
    simp length-append (omega (arith, pair_most k v (fk 0) (fv 0)))

module _ (most stamp : ℕ) (ks vs : List ℕ) (fs : stamp ≤ largest) (fv : Fit vs) (good : Good most ks vs) where
  pub length_most : length (listing_of stamp ks vs) ≤ most_bytes most
  length_most =
      omega (
        arith,
        listing_length stamp ks vs,
        edition_length,
        field_length stamp_name stamp,
        width_ten stamp fs,
        pairs_most ks vs (good_fit most ks vs good) fv,
        field_length count_name (length ks),
        width_mono (length ks) most good.few,
        good.few,
      )

most_bytes_lem : most_bytes key_room ≡ 16357
unfolding digits digits_in
most_bytes_lem = refl

-- document 01: at most 16,357 bytes
pub length_small : (stamp : ℕ) (ks vs : List ℕ) → stamp ≤ largest → Fit vs → Good key_room ks vs →
    length (listing_of stamp ks vs) ≤ 16357
length_small stamp ks vs fs fv good = omega (arith, length_most key_room stamp ks vs fs fv good, most_bytes_lem)

-- so an output of 16,357 bytes always has room
pub always_room : (stamp : ℕ) (ks vs out o : List ℕ) (r : Result ℕ Unwritten) →
    done o r ≡ write_of key_room stamp ks vs out →
    stamp ≤ largest → Fit vs → 16357 ≤ length out → number_of r ≡ 11 → ⊥
always_room stamp ks vs out o r told fs fv room h =
    let short = (no_room key_room stamp ks vs out o r told).0 h in
    omega (arith, short.1, length_small stamp ks vs fs fv short.0)
