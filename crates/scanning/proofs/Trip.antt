-- The round trip: reading what writing wrote gives the same stamp, keys and values.
-- In order: the lines of a listing; what checking them answers; the numbers by name; the theorem.
-- Not here: that nothing else is read (OneWay). Assumes nothing.
use Prim.Native.Nat.{ℕ, suc, ◌+◌, ◌≤◌, ◌<◌}
use mathlib.Core.Path.{◌≡◌, refl, sym, ◌∙◌, ap}
use mathlib.Core.List.{List, [], ◌∷◌, ◌++◌, append_assoc, append-nil}
use mathlib.Core.Bool.{true}
use native.Mathlib.Omega.{arith}
use native.Mathlib.Nat.{zero-add}
use lib.ListN.{length, take}
use lib.Seq.{sets}
use borrow.Author.Tests.{lt-leb, eq-eqb}
use Rattle.std.specs.Prelude.{Ok}
use Rattle.text.specs.Text.{largest, digits, Lines, over, line, lines_of, ends, class_of, field_in, starts_with}
use Rattle.std.specs.Prelude.{None}
use Rattle.text.proofs.Back.{plain, plain_append, plain_digits, lines_plain, field_back}
use Rattle.text.proofs.Write.{read_back}
use Rattle.listing.specs.Listing.{edition_name, stamp_name, key_name, value_name, count_name}
use Rattle.listing.specs.Listing.{field_of, pair_of, pairs, head_of, body_of, listing_of, rising, write_of}
use Rattle.listing.specs.Listing.{done as written_done}
use Rattle.listing.specs.Refusals.{Good, Fit}
use Rattle.listing.proofs.Pairs.{good_is, good_counts, good_fit, rising_on}
use Rattle.listing.proofs.Refusals.{written}
use Rattle.scanning.specs.Reading.{whole, edition_of, stamp_of, value_of, count_of, keyed, key_of, scan_of, check_of}
use Rattle.scanning.specs.Reading.{numbers_in, done, read_of}
use Rattle.scanning.specs.declared.State.{State}

-- ---- the lines of a listing

field_line : (name : List ℕ) (n : ℕ) (r : List ℕ) → plain name ≡ true →
    lines_of (field_of name n ++ r) ≡ line (name ++ digits n) (lines_of r)
unfolding field_of
field_line name n r p =
    let e : (name ++ (digits n ++ (10 ∷ []))) ++ r ≡ (name ++ digits n) ++ (10 ∷ r) = simp append_assoc in
    rw e (lines_plain (name ++ digits n) r (plain_append name (digits n) p (plain_digits n)))

unfoldable pub pair_lines : List ℕ → List ℕ → Lines → Lines
pair_lines [] vs r = r
pair_lines (k ∷ ks) [] r = r
pair_lines (k ∷ ks) (v ∷ vs) r = line (key_name ++ digits k) (line (value_name ++ digits v) (pair_lines ks vs r))

pairs_lines : (ks vs r : List ℕ) → lines_of (pairs ks vs ++ r) ≡ pair_lines ks vs (lines_of r)
unfolding pairs pair_of pair_lines plain ends class_of
pairs_lines [] vs r = refl
pairs_lines (k ∷ ks) [] r = refl
pairs_lines (k ∷ ks) (v ∷ vs) r =
    rw (
      append_assoc (pair_of k v) (pairs ks vs) r,
      append_assoc,
      field_line key_name k (field_of value_name v ++ (pairs ks vs ++ r)) refl,
      field_line value_name v (pairs ks vs ++ r) refl,
      pairs_lines ks vs r,
    )

count_line : (n : ℕ) → lines_of (field_of count_name n) ≡ line (count_name ++ digits n) over
unfolding plain ends class_of lines_of
count_line n =
    ap lines_of (sym (append-nil (field_of count_name n))) ∙ field_line count_name n [] refl

pub listing_lines : (stamp : ℕ) (ks vs : List ℕ) → lines_of (listing_of stamp ks vs) ≡
    line (edition_name ++ digits 1)
    (line (stamp_name ++ digits stamp) (pair_lines ks vs (line (count_name ++ digits (length ks)) over)))
unfolding listing_of head_of body_of plain ends class_of lines_of
listing_lines stamp ks vs =
    rw (
      append_assoc,
      field_line edition_name 1 (field_of stamp_name stamp ++ (pairs ks vs ++ field_of count_name (length ks)))
          refl,
      field_line stamp_name stamp (pairs ks vs ++ field_of count_name (length ks)) refl,
      pairs_lines ks vs (field_of count_name (length ks)),
      count_line (length ks),
    )

-- ---- checking them

pub no_key : (n : ℕ) → field_in key_name (count_name ++ digits n) ≡ None
unfolding field_in starts_with
no_key n = refl

scan_count : (most p stamp count last : ℕ) → count ≤ largest →
    scan_of most p (State.Key stamp count last) (line (count_name ++ digits count) over) ≡ whole stamp count
unfolding scan_of key_of count_of
scan_count most p stamp count last h =
    rw (no_key count, field_back count_name count h, eq-eqb count count refl)

-- a key and its value
scan_pair : (most p stamp count last k v : ℕ) (r : Lines) → last < k → k < largest → v ≤ largest → count < most →
    scan_of most p (State.Key stamp count last) (line (key_name ++ digits k) (line (value_name ++ digits v) r)) ≡
    scan_of most (p + length (key_name ++ digits k) + 1 + length (value_name ++ digits v) + 1)
    (State.Key stamp (count + 1) k) r
unfolding scan_of key_of keyed value_of
scan_pair most p stamp count last k v r low high fv room =
    let fk : k ≤ largest = omega arith in
    rw (field_back key_name k fk, lt-leb k last low, lt-leb largest k high, lt-leb most count room)
    (rw (field_back value_name v fv))

scan_pairs : (most : ℕ) (ks vs : List ℕ) (p stamp count last : ℕ) → length ks ≡ length vs →
    rising last ks ≡ true → Fit vs → count + length ks ≤ most → most ≤ largest →
    scan_of most p (State.Key stamp count last)
    (pair_lines ks vs (line (count_name ++ digits (count + length ks)) over)) ≡
    whole stamp (count + length ks)
unfolding pair_lines
scan_pairs most [] vs p stamp count last same up fv few small =
    let e : count + 0 ≡ count = omega arith in rw e (scan_count most p stamp count last (omega arith))
scan_pairs most (k ∷ ks) [] p stamp count last same up fv few small = absurd (omega arith)
scan_pairs most (k ∷ ks) (v ∷ vs) p stamp count last same up fv few small =
    let on = rising_on last k ks up in
    let e : count + suc (length ks) ≡ count + 1 + length ks = omega arith in
    scan_pair most p stamp count last k v _ on.0 on.1 (fv 0) (omega arith) ∙
    rw e
    (scan_pairs most ks vs _ stamp (count + 1) k (omega arith) on.2 (λ i. fv (suc i)) (omega arith) small)

module _ (most stamp : ℕ) (ks vs : List ℕ) (small : most ≤ largest) (fs : stamp ≤ largest) (fv : Fit vs)
    (good : Good most ks vs) where
  pub check_back : check_of most (listing_of stamp ks vs) ≡ whole stamp (length ks)
  unfolding check_of scan_of edition_of stamp_of
  check_back =
      let counts = good_counts most ks vs ((good_is most ks vs).1 good) in
      let from : ℕ = 0 + length (edition_name ++ digits 1) + 1 + length (stamp_name ++ digits stamp) + 1 in
      rw (listing_lines stamp ks vs, field_back edition_name 1 (omega arith), field_back stamp_name stamp fs)
      (rw (zero-add (length ks)) at
      (scan_pairs most ks vs from stamp 0 0 counts.0 counts.2 fv (omega arith) small))

-- ---- the numbers by name

keys_in : (ks vs : List ℕ) (r : Lines) → length ks ≡ length vs → Fit ks →
    numbers_in key_name (pair_lines ks vs r) ≡ ks ++ numbers_in key_name r
unfolding numbers_in pair_lines field_in starts_with
keys_in [] vs r same fk = refl
keys_in (k ∷ ks) [] r same fk = absurd (omega arith)
keys_in (k ∷ ks) (v ∷ vs) r same fk =
    rw (read_back k (fk 0), keys_in ks vs r (omega arith) (λ i. fk (suc i)))

values_in : (ks vs : List ℕ) (r : Lines) → length ks ≡ length vs → Fit vs →
    numbers_in value_name (pair_lines ks vs r) ≡ vs ++ numbers_in value_name r
unfolding numbers_in pair_lines field_in starts_with
values_in [] [] r same fv = refl
values_in [] (v ∷ vs) r same fv = absurd (omega arith)
values_in (k ∷ ks) [] r same fv = absurd (omega arith)
values_in (k ∷ ks) (v ∷ vs) r same fv =
    rw (read_back v (fv 0), values_in ks vs r (omega arith) (λ i. fv (suc i)))

module _ (stamp : ℕ) (ks vs : List ℕ) (same : length ks ≡ length vs) where
  pub keys_back : Fit ks → numbers_in key_name (lines_of (listing_of stamp ks vs)) ≡ ks
  unfolding numbers_in field_in starts_with
  keys_back fk = rw (listing_lines stamp ks vs, keys_in ks vs _ same fk, append-nil ks)

  pub values_back : Fit vs → numbers_in value_name (lines_of (listing_of stamp ks vs)) ≡ vs
  unfolding numbers_in field_in starts_with
  values_back fv = rw (listing_lines stamp ks vs, values_in ks vs _ same fv, append-nil vs)

-- ---- the round trip

module _ (most stamp : ℕ) (ks vs : List ℕ) (small : most ≤ largest) (fs : stamp ≤ largest) (fv : Fit vs) where
  -- reading a listing gives its stamp, keys and values, and their number
  pub read_listing : (ko vo : List ℕ) → Good most ks vs →
      read_of most (listing_of stamp ks vs) ko vo ≡
      done (sets ko 0 ks) (sets vo 0 vs) (whole stamp (length ks))
  unfolding read_of
  read_listing ko vo good =
      rw (check_back most stamp ks vs small fs fv good)
      (rw (keys_back stamp ks vs good.same (good_fit most ks vs good), values_back stamp ks vs good.same fv))

  -- and so what writing wrote
  pub round_trip : (out o ko vo : List ℕ) (n : ℕ) → written_done o (Ok n) ≡ write_of most stamp ks vs out →
      read_of most (take n o) ko vo ≡ done (sets ko 0 ks) (sets vo 0 vs) (whole stamp (length ks))
  round_trip out o ko vo n told =
      let all = written most stamp ks vs out o (Ok n) told n refl in
      rw all.first (read_listing ko vo all.good)
