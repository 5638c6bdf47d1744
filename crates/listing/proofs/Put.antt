-- Writing: a line, a pair, pairs, the listing: their bytes, their sizes, each store at its place.
-- In order: a line; a pair; pairs; their size; the listing; the pairs that `write` hands on.
-- Not here: the pairs that may be written (Pairs), how long a listing can be (Length). Assumes nothing.
use Prim.Native.Nat.{ℕ, ◌+◌, ◌*◌, ◌≤◌, ◌<◌}
use mathlib.Core.Path.{◌≡◌, refl, sym, ◌∙◌, ap}
use mathlib.Core.List.{List, [], ◌∷◌, ◌++◌}
use mathlib.Core.Logic.{◌⊎◌, inl, inr}
use mathlib.Core.Bool.{Bool, true}
use native.Mathlib.Omega.{arith}
use lib.ListN.{length, set, length-append}
use lib.Seq.{sets}
use lib.Dec.{lit≤}
use Rattle.text.specs.Text.{digits, Puts}
use Rattle.text.proofs.Write.{sets_append, short, one_digit}
use Rattle.listing.specs.Listing.{edition_name, stamp_name, key_name, value_name, count_name}
use Rattle.listing.specs.Listing.{field_of, pair_of, pairs, head_of, body_of, listing_of}
use Rattle.listing.specs.Listing.{good_pairs}
use Rattle.listing.proofs.Pairs.{good_counts}

-- ---- a field

pub field_length : (name : List ℕ) (n : ℕ) → length (field_of name n) ≡ length name + length (digits n) + 1
unfolding field_of
field_length name n = simp length-append (omega arith)

module _ (name : List ℕ) (n p m : ℕ) (room : p + length (field_of name n) ≤ m) where
  pub room_name : p + length name ≤ m
  room_name = omega (arith, field_length name n)

  pub room_number : (a o : ℕ) → a ≡ p + length name → o ≡ m → a + length (digits n) ≤ o
  room_number a o e h = omega (arith, field_length name n)

  pub room_end : (a b o w : ℕ) → a ≡ p + length name → b ≡ a + length (digits n) → o ≡ m → w ≡ o → b < w
  room_end a b o w e h k z = omega (arith, field_length name n)

  pub fits_end : (a b : ℕ) → a ≡ p + length name → b ≡ a + length (digits n) → m < 18446744073709551616 →
      b + 1 < 18446744073709551616
  fits_end a b e h k = omega (arith, field_length name n)

pub field_after : (name : List ℕ) (n p a b : ℕ) → a ≡ p + length name → b ≡ a + length (digits n) →
    b + 1 ≡ p + length (field_of name n)
field_after name n p a b e h = omega (arith, field_length name n)

pub field_put : (name o l m : List ℕ) (n p a b : ℕ) → a ≡ p + length name → l ≡ sets o p name →
    b ≡ a + length (digits n) → m ≡ sets l a (digits n) → set m b 10 ≡ sets o p (field_of name n)
unfolding field_of
field_put name o l m n p a b e el f em =
    rw (sets_append name (digits n ++ (10 ∷ [])) o p, ← el, ← e, sets_append (digits n) (10 ∷ []) l a, ← em, ← f)

pub ruleset field_stores = (room_name, room_number, room_end, fits_end, field_after, field_put)

-- ---- a pair

pub pair_length : (k v : ℕ) → length (pair_of k v) ≡ length (field_of key_name k) + length (field_of value_name v)
unfolding pair_of
pair_length k v = simp length-append

pub pair_size : (k v a b : ℕ) → a ≡ length (digits k) → b ≡ length (digits v) → 12 + a + b ≡ length (pair_of k v)
pair_size k v a b e h = omega (arith, pair_length k v, field_length key_name k, field_length value_name v)

pub pair_small : (k v : ℕ) → length (pair_of k v) ≤ 52
pair_small k v = omega (arith, pair_length k v, field_length key_name k, field_length value_name v, short k, short v)

pub width_fits : (k a : ℕ) → a ≡ length (digits k) → 12 + a < 18446744073709551616
width_fits k a e = omega (arith, short k)

pub widths_fit : (k v a b : ℕ) → a ≡ length (digits k) → b ≡ length (digits v) → 12 + a + b < 18446744073709551616
widths_fit k v a b e h = omega (arith, short k, short v)

pub ruleset pair_sizes = (pair_size, width_fits, widths_fit)

-- ---- pairs: as `zip` hands them out, as long as there is a key and a value

pairs_over : (ks vs : List ℕ) → (ks ≡ []) ⊎ (vs ≡ []) → pairs ks vs ≡ []
unfolding pairs
pairs_over ks vs (inl e) = rw e
pairs_over [] vs (inr e) = refl
pairs_over (k ∷ ks) vs (inr e) = rw e

pairs_on : (k v : ℕ) (ks vs ks' vs' : List ℕ) → ks ≡ k ∷ ks' → vs ≡ v ∷ vs' →
    pairs ks vs ≡ pair_of k v ++ pairs ks' vs'
unfolding pairs
pairs_on k v ks vs ks' vs' e h = rw (e, h)

-- the pairs that are left (ks' and vs'), written at p, end where all of them end, and make the same bytes
pub record Rest (ks vs o l : List ℕ) (q p : ℕ) (ks' vs' : List ℕ) : Type 0 where
  pub place : p + length (pairs ks' vs') ≡ q + length (pairs ks vs)
  pub bytes : sets o q (pairs ks vs) ≡ sets l p (pairs ks' vs')

pub pairs_start : (ks vs o : List ℕ) (q : ℕ) → Rest ks vs o o q q ks vs
pairs_start ks vs o q = record { place = refl; bytes = refl }

module _ (ks vs o l : List ℕ) (q p : ℕ) (left left' : List ℕ) (rest : Rest ks vs o l q p left left') where
  pub pairs_all : (left ≡ []) ⊎ (left' ≡ []) → Puts o l q (pairs ks vs) p
  pairs_all none =
      let e = pairs_over left left' none in
      (omega (arith, rest.place, ap length e), rw (rest.bytes, e))

  module _ (k v : ℕ) (ks' vs' : List ℕ) (first : left ≡ k ∷ ks') (second : left' ≡ v ∷ vs') where
    on_length : p + length (pair_of k v) + length (pairs ks' vs') ≡ q + length (pairs ks vs)
    on_length =
        omega (arith, rest.place, simp length-append at (ap length (pairs_on k v left left' ks' vs' first second)))

    pub pairs_room : (m n : ℕ) → q + length (pairs ks vs) ≤ m → n ≡ m → p + length (pair_of k v) ≤ n
    pairs_room m n r z = omega (arith, on_length)

    pub pairs_put : (m : List ℕ) (r : ℕ) → Puts l m p (pair_of k v) r → Rest ks vs o m q r ks' vs'
    pairs_put m r puts =
        record {
          place = omega (arith, on_length, puts.0);
          bytes = rw (
            rest.bytes,
            pairs_on k v left left' ks' vs' first second,
            sets_append (pair_of k v) (pairs ks' vs') l p,
            ← puts.1,
            ← puts.0,
          );
        }

-- ---- their size: what is left and the bytes so far are all, and a pair takes at most 64

pub record Sized (ks vs : List ℕ) (n : ℕ) (ks' vs' : List ℕ) : Type 0 where
  pub all : n + length (pairs ks' vs') ≡ length (pairs ks vs)
  pub few : n + 64 * length ks' ≤ 64 * length ks

pub size_start : (ks vs : List ℕ) → Sized ks vs 0 ks vs
size_start ks vs = record { all = omega arith; few = omega arith }

module _ (ks vs : List ℕ) (n : ℕ) (left left' : List ℕ) (so_far : Sized ks vs n left left') where
  pub size_all : length ks ≤ 65536 → (left ≡ []) ⊎ (left' ≡ []) →
      (n ≡ length (pairs ks vs)) × (n ≤ 4194304)
  size_all few none =
      (omega (arith, so_far.all, ap length (pairs_over left left' none)), omega (arith, so_far.few))

  module _ (k v r : ℕ) (ks' vs' : List ℕ) (first : left ≡ k ∷ ks') (second : left' ≡ v ∷ vs')
      (e : r ≡ length (pair_of k v)) where
    pub size_on : Sized ks vs (n + r) ks' vs'
    size_on =
        record {
          all = omega (
            arith,
            so_far.all,
            simp length-append at (ap length (pairs_on k v left left' ks' vs' first second)),
          );
          few = omega (arith, so_far.few, ap length first, pair_small k v);
        }

    pub size_fits : length ks ≤ 65536 → n + r < 18446744073709551616
    size_fits few = omega (arith, so_far.few, ap length first, pair_small k v)

-- ---- the listing

pub listing_length : (stamp : ℕ) (ks vs : List ℕ) → length (listing_of stamp ks vs) ≡
    length (field_of edition_name 1) +
    (length (field_of stamp_name stamp) + (length (pairs ks vs) + length (field_of count_name (length ks))))
unfolding listing_of head_of body_of
listing_length stamp ks vs = simp length-append (omega arith)

pub edition_length : length (field_of edition_name 1) ≡ 10
edition_length = omega (arith, field_length edition_name 1, ap length (one_digit 1 (omega arith)))

module _ (stamp : ℕ) (ks vs : List ℕ) (w x z : ℕ)
    (ew : w ≡ length (digits stamp)) (ex : x ≡ length (pairs ks vs)) where
  pub listing_size : z ≡ length (digits (length ks)) → 24 + w + x + z ≡ length (listing_of stamp ks vs)
  listing_size ez =
      omega (
        arith,
        listing_length stamp ks vs,
        edition_length,
        field_length stamp_name stamp,
        field_length count_name (length ks),
      )

  pub listing_fits : z ≡ length (digits (length ks)) → x ≤ 4194304 → 24 + w + x + z < 18446744073709551616
  listing_fits ez h = omega (arith, short stamp, short (length ks))

  pub listing_fits_2 : x ≤ 4194304 → 24 + w + x < 18446744073709551616
  listing_fits_2 h = omega (arith, short stamp)

pub listing_fits_3 : (stamp w : ℕ) → w ≡ length (digits stamp) → 24 + w < 18446744073709551616
listing_fits_3 stamp w e = omega (arith, short stamp)

pub ruleset listing_sizes = (listing_size, listing_fits, listing_fits_2, listing_fits_3)

-- ---- the pairs that `write` hands on

module _ (most : ℕ) (ks vs : List ℕ) (g : Bool) (f : g ≡ good_pairs most ks vs) (y : g ≡ true) where
  pub good_same : length ks ≡ length vs
  good_same = (good_counts most ks vs (sym f ∙ y)).0

  pub good_few : most ≤ 65536 → length ks ≤ 65536
  good_few room = let h = good_counts most ks vs (sym f ∙ y) in omega arith

-- a number of keys that is written out is as good
pub ruleset writes = (lit≤, good_same, good_few)
