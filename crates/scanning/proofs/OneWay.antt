-- A listing is written in one way: what reading takes is the listing of its own stamp, keys and values.
-- In order: one pair more; what the bytes up to an offset are; all the bytes; what reading hands over.
-- Not here: that a listing is taken (Trip). Assumes nothing.
use Prim.Native.Nat.{ℕ, zero, suc, ◌+◌, ◌≤◌, ◌<◌}
use mathlib.Core.Path.{◌≡◌, refl, sym, ◌∙◌, ap, subst}
use mathlib.Core.List.{List, [], ◌∷◌, ◌++◌, append_assoc, append-nil}
use mathlib.Core.Bool.{true}
use mathlib.Core.Logic.{◌↔◌}
use native.Mathlib.Omega.{arith}
use lib.ListN.{length, take, drop, length-append, length-drop}
use lib.Seq.{take-add, take-append-add, take_all}
use Rattle.std.specs.Prelude.{Result}
use Rattle.text.specs.Text.{largest, digits, lines_of}
use Rattle.text.proofs.Basics.{impossible}
use Rattle.text.proofs.OneWay.{over_only}
use Rattle.listing.specs.Listing.{edition_name, stamp_name, key_name, value_name, count_name, field_of, pair_of, pairs}
use Rattle.listing.specs.Listing.{head_of, body_of, listing_of, rising, key_room}
use Rattle.listing.specs.Refusals.{Fit}
use Rattle.listing.proofs.Length.{length_small}
use Rattle.listing.proofs.Pairs.{good_is, good_rise, good_fit, rising_cons, rising_on}
use Rattle.scanning.specs.Reading.{whole, ended_of, check_of, numbers_in}
use Rattle.scanning.specs.Refusals.{values_of, IsListing, Upto, start, next}
use Rattle.scanning.specs.Refusals.{Allowed, edition_line, stamp_line, key_line, value_line, count_line}
use Rattle.scanning.specs.declared.State.{State}
use Rattle.scanning.specs.declared.Whole.{Whole}
use Rattle.scanning.specs.declared.Unread.{Unread}
use Rattle.scanning.proofs.Allowed.{upto_few}
use Rattle.scanning.proofs.Refusals.{Last, ended_at, torn_at, bad_at, many_at, last_of_lem}
use Rattle.scanning.proofs.Trip.{check_back, keys_back, values_back}

-- ---- one pair more, at the end

abbrev last_of : ℕ → List ℕ → ℕ
last_of last [] = last
last_of last (k ∷ ks) = last_of k ks

last_snoc : (last : ℕ) (ks : List ℕ) (k : ℕ) → last_of last (ks ++ (k ∷ [])) ≡ k
last_snoc last [] k = refl
last_snoc last (x ∷ ks) k = last_snoc x ks k

rising_snoc : (last : ℕ) (ks : List ℕ) (k : ℕ) → rising last ks ≡ true → last_of last ks < k → k < largest →
    rising last (ks ++ (k ∷ [])) ≡ true
unfolding rising
rising_snoc last [] k up low high = rising_cons last k [] low high refl
rising_snoc last (x ∷ ks) k up low high =
    let on = rising_on last x ks up in
    rising_cons last x (ks ++ (k ∷ [])) on.0 on.1 (rising_snoc x ks k on.2 low high)

pairs_snoc : (ks vs : List ℕ) (k v : ℕ) → length ks ≡ length vs →
    pairs (ks ++ (k ∷ [])) (vs ++ (v ∷ [])) ≡ pairs ks vs ++ pair_of k v
unfolding pairs
pairs_snoc [] [] k v same = append-nil (pair_of k v)
pairs_snoc [] (y ∷ vs) k v same = absurd (omega arith)
pairs_snoc (x ∷ ks) [] k v same = absurd (omega arith)
pairs_snoc (x ∷ ks) (y ∷ vs) k v same = rw (pairs_snoc ks vs k v (omega arith), append_assoc)

fit_snoc : (l : List ℕ) (v : ℕ) → v ≤ largest → Fit l → Fit (l ++ (v ∷ []))
fit_snoc [] v h f zero = h
fit_snoc [] v h f (suc i) = omega arith
fit_snoc (x ∷ l) v h f zero = f zero
fit_snoc (x ∷ l) v h f (suc i) = fit_snoc l v h (λ j. f (suc j)) i

-- ---- what the bytes up to an offset are, by what is to come there

-- the first two lines and these pairs
record Front (stamp count last : ℕ) (x : List ℕ) : Type 0 where
  ks : List ℕ
  vs : List ℕ
  bytes : x ≡ head_of stamp ++ pairs ks vs
  same : length ks ≡ length vs
  up : rising 0 ks ≡ true
  top : last_of 0 ks ≡ last
  stamp_fits : stamp ≤ largest
  values_fit : Fit vs
  counted : count ≡ length ks

-- and one key more, without its value
record Open (stamp count last : ℕ) (x : List ℕ) : Type 0 where
  before : List ℕ
  below : ℕ
  n : ℕ
  front : Front stamp n below before
  bytes : x ≡ before ++ field_of key_name last
  low : below < last
  high : last < largest
  counted : count ≡ n + 1

-- and the count
record Shut (stamp count : ℕ) (x : List ℕ) : Type 0 where
  before : List ℕ
  last : ℕ
  front : Front stamp count last before
  bytes : x ≡ before ++ field_of count_name count

abbrev Are : List ℕ → State → Type 0
Are x State.Edition = x ≡ []
Are x State.Stamp = x ≡ field_of edition_name 1
Are x (State.Key stamp count last) = Front stamp count last x
Are x (State.Value stamp count last) = Open stamp count last x
Are x (State.Whole stamp count) = Shut stamp count x

field_is : (name : List ℕ) (n : ℕ) → (name ++ digits n) ++ (10 ∷ []) ≡ field_of name n
unfolding field_of
field_is name n = append_assoc name (digits n) (10 ∷ [])

front_none : (x : List ℕ) (n : ℕ) → n ≤ largest → x ≡ field_of edition_name 1 →
    Front n 0 0 (x ++ field_of stamp_name n)
unfolding head_of pairs rising
front_none x n fits e =
    record {
      ks = [];
      vs = [];
      bytes = rw (e, append-nil);
      same = refl;
      up = refl;
      top = refl;
      stamp_fits = fits;
      values_fit = λ i. omega arith;
      counted = refl;
    }

front_more : (stamp count last v : ℕ) (x : List ℕ) → v ≤ largest → Open stamp count last x →
    Front stamp count last (x ++ field_of value_name v)
unfolding pair_of
front_more stamp count last v x fits o =
    let f = o.front in
    let top = f.top in
    let low = o.low in
    let more = pairs_snoc f.ks f.vs last v f.same in
    record {
      ks = f.ks ++ (last ∷ []);
      vs = f.vs ++ (v ∷ []);
      bytes = rw (more, o.bytes, f.bytes) (simp append_assoc);
      same = simp length-append (omega (arith, f.same));
      up = rising_snoc 0 f.ks last f.up (rw top low) o.high;
      top = last_snoc 0 f.ks last;
      stamp_fits = f.stamp_fits;
      values_fit = fit_snoc f.vs v fits f.values_fit;
      counted = simp length-append (omega (arith, o.counted, f.counted));
    }

are_next : (x l : List ℕ) (st t : State) → Allowed st l t → Are x st → Are (x ++ (l ++ (10 ∷ []))) t
are_next x l st t (edition_line a b c) h =
    let e : x ≡ [] = subst (Are x) a h in
    subst (Are (x ++ (l ++ (10 ∷ [])))) (sym c) (rw (e, b) (field_is edition_name 1))
are_next x l st t (stamp_line n fits a b c) h =
    subst (Are (x ++ (l ++ (10 ∷ [])))) (sym c)
    (rw (b, field_is stamp_name n) (front_none x n fits (subst (Are x) a h)))
are_next x l st t (key_line stamp count last k low high a b c) h =
    subst (Are (x ++ (l ++ (10 ∷ [])))) (sym c)
    (record {
      before = x;
      below = last;
      n = count;
      front = subst (Are x) a h;
      bytes = rw (b, field_is key_name k);
      low = low;
      high = high;
      counted = refl;
    })
are_next x l st t (value_line stamp count last v fits a b c) h =
    subst (Are (x ++ (l ++ (10 ∷ [])))) (sym c)
    (rw (b, field_is value_name v) (front_more stamp count last v x fits (subst (Are x) a h)))
are_next x l st t (count_line stamp count last fits a b c) h =
    subst (Are (x ++ (l ++ (10 ∷ [])))) (sym c)
    (record { before = x; last = last; front = subst (Are x) a h; bytes = rw (b, field_is count_name count) })

take_line : (s l rest : List ℕ) (p : ℕ) → drop p s ≡ l ++ (10 ∷ rest) →
    take (p + length l + 1) s ≡ take p s ++ (l ++ (10 ∷ []))
take_line s l rest p e =
    let z : p + length l + 1 ≡ p + (length l + 1) = omega arith in
    rw (z, take-add p (length l + 1) s, e, take-append-add l (10 ∷ rest) 1)

upto_are : {most : ℕ} {s : List ℕ} {p : ℕ} {st : State} → Upto most s p st → Are (take p s) st
upto_are start = refl
upto_are {s} (next {p} {st} l rest t u e a few) =
    rw (take_line s l rest p e) (are_next (take p s) l st t a (upto_are u))

-- ---- all the bytes

shut_listing : (most stamp count : ℕ) (s : List ℕ) → count ≤ most → Shut stamp count s → IsListing most s stamp count
unfolding listing_of body_of
shut_listing most stamp count s few shut =
    let f = shut.front in
    let c = f.counted in
    record {
      ks = f.ks;
      vs = f.vs;
      bytes = rw (shut.bytes, f.bytes, c) (append_assoc (head_of stamp) (pairs f.ks f.vs) _);
      good = (good_is most f.ks f.vs).0
          (sym (good_rise most f.ks f.vs true f.same (omega arith) (sym f.up)));
      counted = c;
      stamp_fits = f.stamp_fits;
      values_fit = f.values_fit;
    }

ended_whole : (p stamp count : ℕ) (st : State) → ended_of p st ≡ whole stamp count →
    st ≡ State.Whole stamp count
ended_whole p stamp count State.Edition h = impossible (cc)
ended_whole p stamp count State.Stamp h = impossible (cc)
ended_whole p stamp count (State.Key a b c) h = impossible (cc)
ended_whole p stamp count (State.Value a b c) h = impossible (cc)
ended_whole p stamp count (State.Whole a b) h =
    let v : a ∷ b ∷ [] ≡ stamp ∷ count ∷ [] = ap values_of h in
    let y : a ≡ stamp = cc in
    let z : b ≡ count = cc in rw (y, z)

-- reading takes a listing only as writing writes it
pub check_only : (most : ℕ) (s : List ℕ) (stamp count : ℕ) → check_of most s ≡ whole stamp count →
    IsListing most s stamp count
check_only most s stamp count = by (check_of most s) (last_of_lem most s)
  where
    by : (r : Result Whole Unread) → Last most s r → r ≡ whole stamp count → IsListing most s stamp count
    by r (ended_at p st u e f) h =
        let z : st ≡ State.Whole stamp count = ended_whole p stamp count st (sym f ∙ h) in
        let gone = ap length (over_only (drop p s) e) in
        let all : take p s ≡ s = take_all p s (omega (arith, length-drop p s, gone)) in
        let few : count ≤ most = rw z at (upto_few u) in
        shut_listing most stamp count s few (rw (all, z) at (upto_are u))
    by r (torn_at p st u e f) h = impossible (cc)
    by r (bad_at p st l ls u e b f) h = impossible (cc)
    by r (many_at p st l ls u e b f) h = impossible (cc)

-- the bytes that reading takes are the listings, and no others
pub whole_is : (most : ℕ) (s : List ℕ) (stamp count : ℕ) → most ≤ largest →
    (check_of most s ≡ whole stamp count) ↔ IsListing most s stamp count
whole_is most s stamp count small = (check_only most s stamp count, back)
  where
    back : IsListing most s stamp count → check_of most s ≡ whole stamp count
    back is =
        rw (is.bytes, is.counted)
        (check_back most stamp is.ks is.vs small is.stamp_fits is.values_fit is.good)

-- and have at most 16,357 bytes
pub whole_small : (s : List ℕ) (stamp count : ℕ) → check_of key_room s ≡ whole stamp count → length s ≤ 16357
whole_small s stamp count h = by (check_only key_room s stamp count h)
  where
    by : IsListing key_room s stamp count → length s ≤ 16357
    by is =
        rw is.bytes (length_small stamp is.ks is.vs is.stamp_fits is.values_fit is.good)

-- ---- what reading hands over: as many numbers of each name as it answers

pub record Handed (most : ℕ) (s : List ℕ) (count : ℕ) : Type 0 where
  pub keys : length (numbers_in key_name (lines_of s)) ≡ count
  pub values : length (numbers_in value_name (lines_of s)) ≡ count
  pub few : count ≤ most

pub handed : (most : ℕ) (s : List ℕ) (stamp count : ℕ) → check_of most s ≡ whole stamp count →
    Handed most s count
handed most s stamp count h = by (check_only most s stamp count h)
  where
    by : IsListing most s stamp count → Handed most s count
    by is =
        let same = is.good.same in
        let fit = good_fit most is.ks is.vs is.good in
        record {
          keys = rw (is.bytes, keys_back stamp is.ks is.vs same fit, is.counted);
          values = rw (is.bytes, values_back stamp is.ks is.vs same is.values_fit, is.counted, same);
          few = omega (arith, is.counted, is.good.few);
        }
