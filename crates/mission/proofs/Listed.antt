-- A list written as a listing and read back is the same register, proved.
-- In order: keys within bounds, and how many there are; values; a reached register's sets; a list's keys as a listing
-- wants them; written; read back; the record.
-- Not here: the statements (specs/Listed.antt). Assumes nothing.
use Prim.Native.Nat.{ℕ, zero, suc, ◌-◌, ◌≤◌}
use mathlib.Core.Path.{◌≡◌, refl, sym, ◌∙◌, ap, subst}
use mathlib.Core.Bool.{true}
use mathlib.Core.List.{List, [], ◌∷◌}
use native.Mathlib.Omega.{arith}
use lib.ListN.{length, take, length-map}
use borrow.Author.Tests.{le-leb}
use Rattle.std.specs.Prelude.{Ok}
use Rattle.order.specs.Set.{Pair, key_of, Over, Rises, within}
use Rattle.order.specs.History.{empty, up_to, entry, members, head}
use Rattle.order.proofs.Tests.{ltb_cases, leb_cases}
use Rattle.order.proofs.Frame.{members_given, given_first}
use Rattle.order.proofs.Reading.{set_is_members}
use Rattle.terms.specs.Terms.{small}
use Rattle.terms.specs.declared.Answer.{Answer}
use Rattle.steps.specs.Steps.{Tables, tables}
use Rattle.sixteen.specs.declared.Call.{Call}
use Rattle.listing.specs.Listing.{rising, good_pairs, key_room, listing_of, write_of}
use Rattle.listing.specs.Listing.{Done, done as written_done}
use Rattle.listing.specs.Refusals.{Good, Fit}
use Rattle.listing.specs.declared.Unwritten.{Unwritten}
use Rattle.listing.proofs.Pairs.{rising_cons, good_rise, good_is, good_fit}
use Rattle.listing.proofs.Refusals.{written}
use Rattle.listing.proofs.Length.{length_small}
use Rattle.scanning.proofs.Trip.{keys_back, values_back}
use Rattle.loading.specs.Filing.{used, filed_all, fresh_tables}
use Rattle.loading.specs.Loading.{done, load_of}
use Rattle.loading.specs.declared.Unloaded.{Unloaded}
use Rattle.loading.proofs.Trip.{round_trip}
use Rattle.loaded.specs.Calls.{pairs_of, keys_in, values_in}
use Rattle.loaded.proofs.Loaded.{small_roomy, loaded_set_now}
use Rattle.reached.specs.Reached.{State, stamp_of, who_of, answer, Past, Reached}
use Rattle.reached.specs.Answers.{set_at}
use Rattle.reached.proofs.Values.{All, all_within, Valued, reached_valued}
use Rattle.drawing.specs.Drawing.{Drawing}
use Rattle.drawing.proofs.Ahead.{chain_distinct}
use Rattle.drawing.proofs.Room.{distinct_length, walk_from_head, given_covered}
use Rattle.words.proofs.Show.{Shown, shown_inv}
use Rattle.words.proofs.Use.{in_use, in_use_covers, in_use_length}
use Rattle.words.proofs.Demand2.{demand_2, seen}
use Rattle.mission.specs.Listed.{keys_of, values_of, ReadAs, Listed, most_room, ListedMoment}
use Rattle.mission.proofs.Mission.{set_log, bounded, one_moment, handed}

-- ---- keys within bounds
abbrev Inside : ℕ → ℕ → List Pair → Type 0
Inside low high l = All (λ x. (low ≤ key_of x) × (key_of x ≤ high)) l

inside_within : (low high : ℕ) (l : List Pair) → Inside low high (within key_of low high l)
unfolding within
inside_within low high [] = tt
inside_within low high (x ∷ l) = let rest = inside_within low high l in
    ltb_cases (Inside low high) (key_of x) low _ _ (λ _. rest)
    (λ above. leb_cases (Inside low high) (key_of x) high _ _ (λ below. ((above, below), rest)) (λ _. rest))

-- a part of them is no longer
part_length : (low high : ℕ) (l : List Pair) → length (within key_of low high l) ≤ length l
unfolding within
part_length low high [] = omega arith
part_length low high (x ∷ l) =
    let Short : List Pair → Type 0 = λ r. length r ≤ suc (length l) in
    let rest = part_length low high l in
    ltb_cases Short (key_of x) low _ _ (λ _. omega arith)
    (λ _. leb_cases Short (key_of x) high _ _ (λ _. omega arith) (λ _. omega arith))

-- ---- values that are words fit a listing
values_fit : (l : List Pair) → All Valued l → Fit (values_of l)
values_fit [] all i = omega arith
values_fit (x ∷ l) all zero = all.0
values_fit (x ∷ l) all (suc i) = values_fit l all.1 i

-- ---- a reached register's sets: at most a key for each node given
module _ (key val : ℕ → ℕ) (σ : State) (h : Past) (m : Drawing) (S : Shown small key val σ h m) (t : ℕ)
    (past : t ≤ stamp_of σ) where
  members_few : length (members key empty (up_to empty t m.log)) ≤ length (in_use key val σ h m S)
  members_few =
      let log = up_to empty t m.log in
      let snap = (shown_inv S).hist.snap t (omega arith) (omega (arith, S.stamp)) in
      distinct_length (members key empty log) (in_use key val σ h m S)
      (chain_distinct key _ head (members key empty log) (walk_from_head key empty _ log snap))
      (λ x k. given_covered key val empty m (shown_inv S) (in_use key val σ h m S) (in_use_covers key val σ h m S) x
      (given_first empty x (t - 0) m.log (members_given key empty x log k)))

  shown_few : length (set_at h t) ≤ 510
  shown_few =
      let log = up_to empty t m.log in
      omega (
        arith,
        ap length (set_log key val σ h m S t),
        ap length (set_is_members key val empty log),
        length-map (members key empty log) (entry key val),
        members_few,
        in_use_length key val σ h m S,
        S.most,
      )

-- ---- what a range handed out at its end
pub record Fine (t : ℕ) (list : List Pair) : Type 0 where
  pub stamp : t ≤ 1020
  pub few : length list ≤ 510
  pub inside : Inside 1 4294967294 list
  pub rises : Rises key_of list
  pub fit : Fit (values_of list)

handed_fine : (σ : State) (h : Past) → Reached small σ h → (c : Call) (t n : ℕ) → answer small σ c ≡ Answer.End t n
    → Fine t (h.handed (who_of c))
handed_fine σ h R c t n e =
    let d = demand_2.end σ h R c t n e in
    let S = seen σ h R in
    let all : Inside 1 4294967294 (set_at h t) =
    subst (Inside 1 4294967294) (bounded σ h R t d.3.by_now) (inside_within 1 4294967294 (set_at h t)) in
    let part : (P : Pair → Type 0) → All P (set_at h t) → All P (h.handed (who_of c)) =
    λ P holds. subst (All P) (sym d.3.keys) (all_within P key_of d.0 d.1 (set_at h t) holds) in
    record {
      stamp = omega (arith, d.3.by_now, (demand_2.bounds σ h R).1);
      few = omega (
        arith,
        ap length d.3.keys,
        part_length d.0 d.1 (set_at h t),
        shown_few _ _ σ h S.0 S.1 t d.3.by_now,
      );
      inside = part _ all;
      rises = handed.rising σ h R (who_of c);
      fit = values_fit (h.handed (who_of c)) (part Valued (reached_valued R t));
    }

-- ---- its keys and values are as a listing wants them
keys_rise : (b : ℕ) (l : List Pair) → Over key_of b l → Inside 1 4294967294 l → rising b (keys_of l) ≡ true
unfolding rising
keys_rise b [] over all = refl
keys_rise b (x ∷ l) over all = rising_cons b (key_of x) (keys_of l) over.0 (omega (arith, all.0.1))
    (keys_rise (key_of x) l over.1 all.1)

keys_up : (l : List Pair) → Rises key_of l → Inside 1 4294967294 l → rising 0 (keys_of l) ≡ true
unfolding rising
keys_up [] rises all = refl
keys_up (x ∷ l) rises all = keys_rise 0 (x ∷ l) (omega (arith, all.0.0), rises) all

as_many : (l : List Pair) → length (keys_of l) ≡ length (values_of l)
as_many [] = refl
as_many (x ∷ l) = ap suc (as_many l)

keys_few : (l : List Pair) → length (keys_of l) ≡ length l
keys_few [] = refl
keys_few (x ∷ l) = ap suc (keys_few l)

pairs_again : (l : List Pair) → pairs_of (keys_of l) (values_of l) ≡ l
unfolding pairs_of
pairs_again [] = refl
pairs_again (x ∷ l) = ap (λ r. x ∷ r) (pairs_again l)

module _ (t : ℕ) (list : List Pair) (F : Fine t list) (out : List ℕ) (room : most_room ≤ length out) where
  abbrev ks : List ℕ
  ks = keys_of list

  abbrev vs : List ℕ
  vs = values_of list

  passes : good_pairs key_room ks vs ≡ true
  passes = sym (good_rise key_room ks vs true (as_many list) (omega (arith, keys_few list, F.few))
      (sym (keys_up list F.rises F.inside)))

  good : Good key_room ks vs
  good = (good_is key_room ks vs).0 passes

  -- ---- written
  abbrev Writes : Done → Type 0
  Writes d = (o : List ℕ) × (n : ℕ) × (d ≡ written_done o (Ok n))

  writes : Writes (write_of key_room t ks vs out)
  unfolding write_of
  writes = rw (
    passes,
    le-leb (length (listing_of t ks vs)) (length out)
        (omega (arith, room, length_small t ks vs (omega (arith, F.stamp)) F.fit good)),
  ) (_, _, refl)

  -- ---- read back
  module _ (ns es : List ℕ) (nodes : length ns ≡ 3072) (entries : length es ≡ 8192) where
    abbrev bytes : List ℕ
    bytes = take writes.1 writes.0

    abbrev register : Tables
    register = filed_all 0 ks vs (fresh_tables ns es)

    loads : load_of small bytes ns es ≡ done register (Ok (used (length ks)))
    loads = round_trip small small_roomy t ks vs ns es (omega (arith, F.stamp)) F.fit (nodes, entries) out
        writes.0 writes.1 (sym writes.2)

    listing : bytes ≡ listing_of t ks vs
    listing = (written key_room t ks vs out writes.0 (Ok writes.1) (sym writes.2) writes.1 refl
        ).first

    pairs_in : pairs_of (keys_in bytes) (values_in bytes) ≡ list
    pairs_in = ap (λ s. pairs_of (keys_in s) (values_in s)) listing
        ∙ ap (λ k. pairs_of k (values_in (listing_of t ks vs)))
        (keys_back t ks vs (as_many list) (good_fit key_room ks vs good))
        ∙ ap (pairs_of ks) (values_back t ks vs (as_many list) F.fit) ∙ pairs_again list

    read_as : (r : Tables) → load_of small bytes ns es ≡ done r (Ok (used (length ks)))
        → ReadAs bytes ns es list
    read_as (tables ns' es') e =
        let d = loaded_set_now bytes ns es ns' es' (used (length ks)) e in
        record {
          nodes = ns';
          entries = es';
          counters = used (length ks);
          loads = e;
          past = d.0;
          reached = d.1;
          holds = d.2 ∙ pairs_in;
        }

  listed : Listed t list out list
  listed = record {
    output = writes.0;
    count = writes.1;
    writes = writes.2;
    reads = λ ns es a b. read_as ns es a b (register ns es a b) (loads ns es a b);
  }

-- ---- THE RECORD
ranged : (σ : State) (h : Past) → Reached small σ h → (c : Call) (t n : ℕ)
    → answer small σ c ≡ Answer.End t n
    → (out : List ℕ) → most_room ≤ length out → Listed t (h.handed (who_of c)) out (h.handed (who_of c))
ranged σ h R c t n e out room = listed t (h.handed (who_of c)) (handed_fine σ h R c t n e) out room

pub listed_moment : ListedMoment
listed_moment = record {
  any_range = ranged;
  whole_range = λ σ h R c t n op e out room.
      subst (Listed t (h.handed (who_of c)) out) (one_moment.whole_set σ h R c t n op e).0
      (ranged σ h R c t n e out room);
}
