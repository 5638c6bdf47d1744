-- A register read from a listing is, word for word, the fresh register after the inserts of its keys; so it is a
-- reached one, and its set is the listing's pairs.
-- In order: a size with room; what loading answers; the calls' numbers; the theorem, for any size; reached; the set;
-- the same for document 01's size; P12.
-- Assumes nothing.
use Prim.Native.Nat.{ℕ, zero, suc, ◌+◌, ◌≤◌}
use mathlib.Core.Path.{◌≡◌, refl, sym, ◌∙◌, ap, fun_ext}
use mathlib.Core.Bool.{Bool, true, false, cond}
use mathlib.Core.List.{List, [], ◌∷◌, ◌++◌, append-nil}
use native.Mathlib.Omega.{arith}
use lib.ListN.{length, replicate}
use Rattle.std.specs.Prelude.{Ok, Err}
use Rattle.order.specs.Set.{key_of, Rises, set_after}
use Rattle.order.proofs.Sets.{set_rises}
use Rattle.terms.specs.Terms.{small}
use Rattle.terms.specs.declared.Size.{Size}
use Rattle.terms.specs.declared.Counters.{Counters}
use Rattle.terms.specs.declared.Op.{Op}
use Rattle.terms.specs.declared.Refusal.{Refusal}
use Rattle.steps.specs.declared.Session.{Session}
use Rattle.steps.specs.Steps.{Tables, tables, idle}
use Rattle.register.specs.Register.{fits, fresh_nodes, fresh_entries, fresh_counters, fresh_of}
use Rattle.register.specs.Register.{opened as fresh_opened}
use Rattle.sixteen.specs.declared.Call.{Call}
use Rattle.sixteen.specs.Sixteen.{fresh_register}
use Rattle.reached.specs.Reached.{Past, no_past, Reached, fresh}
use Rattle.reached.specs.Fair.{AllInWords}
use Rattle.reached.proofs.History.{get_d_default}
use Rattle.text.specs.Text.{class_of, with_digit, grow, grows, number_in, ends, lines_of, starts_with, field_in}
use Rattle.text.proofs.Basics.{impossible}
use Rattle.listing.specs.Listing.{rising}
use Rattle.listing.specs.Refusals.{Fit}
use Rattle.listing.proofs.Pairs.{rising_on, good_is, good_counts, good_fit}
use Rattle.scanning.specs.Reading.{numbers_in}
use Rattle.scanning.proofs.Cases.{empty_read}
use Rattle.scanning.proofs.Trip.{keys_back, values_back}
use Rattle.loading.specs.Filing.{used, filed_all, fresh_tables}
use Rattle.loading.specs.Loading.{done, loaded_tables, load_of}
use Rattle.loading.specs.declared.Unloaded.{Unloaded}
use Rattle.loading.proofs.Refusals.{fits_lengths}
use Rattle.loading.proofs.Trip.{Roomy, LoadedAs, loaded_holds}
use Rattle.loaded.specs.Calls.{inserting, filing, filed_so, inserts, pairs_of, keys_in, values_in, past_after}
use Rattle.loaded.specs.Calls.{alone, opened, empty_listing, Knows, Goes}
use Rattle.loaded.proofs.Goes.{goes_as, reached_after}
use Rattle.loaded.proofs.Filed.{fresh_filed}
use Rattle.loaded.proofs.Filing.{holding, inserts_all}
use Rattle.loaded.proofs.Sets.{inserts_set}

-- ---- document 01's size has room for its keys
pub small_roomy : Roomy small
small_roomy = record { nodes = omega arith; entries = omega arith; words = omega arith }

-- ---- what loading answers: the keys and values of the listing's lines, filed
pub record Read (z : Size) (s ns es ns' es' : List ℕ) (c : Counters) : Type 0 where
  pub fit : fits z ns es ≡ true
  pub same : length (keys_in s) ≡ length (values_in s)
  pub few : length (keys_in s) ≤ z.keys
  pub up : rising 0 (keys_in s) ≡ true
  pub values_fit : Fit (values_in s)
  pub filed : tables ns' es' ≡ filed_all 0 (keys_in s) (values_in s) (fresh_tables ns es)
  pub counters : c ≡ used (length (keys_in s))

module _ (z : Size) (s ns es ns' es' : List ℕ) (c : Counters) where
  read_as : (ks vs : List ℕ) → ks ≡ keys_in s → vs ≡ values_in s → fits z ns es ≡ true → length ks ≡ length vs →
      length ks ≤ z.keys → rising 0 ks ≡ true → Fit vs → tables ns' es' ≡ filed_all 0 ks vs (fresh_tables ns es) →
      c ≡ used (length ks) → Read z s ns es ns' es' c
  read_as ks vs e f fit same few up values_fit filed counters = record {
    fit = fit;
    same = rw (← e, ← f) same;
    few = rw (← e) few;
    up = rw (← e) up;
    values_fit = rw (← f) values_fit;
    filed = rw (← e, ← f) filed;
    counters = rw (← e) counters;
  }

  pub loaded_read : Roomy z → load_of z s ns es ≡ done (tables ns' es') (Ok c) →
      Read z s ns es ns' es' c
  loaded_read roomy told =
      let l : LoadedAs z s ns es ns' es' (Ok c) =
      loaded_holds z roomy s ns es ns' es' (Ok c) (sym told) refl in
      let is = l.listing in
      let counts = good_counts z.keys is.ks is.vs ((good_is z.keys is.ks is.vs).1 is.good) in
      let register = l.counters in
      read_as is.ks is.vs
      (sym (ap keys_in is.bytes ∙ keys_back l.stamp is.ks is.vs counts.0
      (good_fit z.keys is.ks is.vs is.good)))
      (sym (ap values_in is.bytes ∙ values_back l.stamp is.ks is.vs counts.0 is.values_fit))
      (fits_lengths z ns es l.lengths) counts.0 counts.1 counts.2 is.values_fit l.filed (cc)

-- ---- the calls' keys and values are words of 32 bits
words_more : (cs ds : List Call) → AllInWords cs → AllInWords ds → AllInWords (cs ++ ds)
words_more [] ds w v = v
words_more (c ∷ cs) ds w v = (w.0, words_more cs ds w.1 v)

words_steps : (n : ℕ) → AllInWords (replicate n (Call.Step 0))
words_steps zero = tt
words_steps (suc n) = (tt, words_steps n)

filing_words : (ks vs : List ℕ) (i b : ℕ) → rising b ks ≡ true → Fit vs → AllInWords (filing i ks vs)
unfolding filing
filing_words [] vs i b up fit = tt
filing_words (k ∷ ks) [] i b up fit = tt
filing_words (k ∷ ks) (v ∷ vs) i b up fit =
    let on = rising_on b k ks up in
    words_more (inserting i k v) (filing (i + 1) ks vs) (
      (omega arith, omega arith, fit 0),
      words_more (replicate i (Call.Step 0)) (replicate 7 (Call.Step 0)) (words_steps i) (words_steps 7),
    )
    (filing_words ks vs (i + 1) k on.2 (λ j. fit (suc j)))

-- ---- the theorem
module _ (z : Size) (roomy : Roomy z) (updates : z.keys ≤ z.updates) (s ns es ns' es' : List ℕ) (c : Counters)
    (told : load_of z s ns es ≡ done (tables ns' es') (Ok c)) where
  read : Read z s ns es ns' es' c
  read = loaded_read z s ns es ns' es' c roomy told

  -- session 0's inserts of the keys, from a fresh register in the same tables, leave it word for word, all sessions
  -- idle; each insert's last step answers inserted, with its number
  pub loaded_inserts : Goes z (opened ns es) (filing 0 (keys_in s) (values_in s))
      (record { nodes = ns'; entries = es'; register = fresh_register c })
      (filed_so 0 (keys_in s) (values_in s)) (inserts (keys_in s) (values_in s))
  loaded_inserts =
      let r = read in
      let few = r.few in
      let rn = roomy.nodes in
      let re = roomy.entries in
      goes_as z (left r.filed r.counters)
      (inserts_all z (keys_in s) (values_in s) (fresh_nodes ns) (fresh_entries es) 0 0 (length (keys_in s))
      (fresh_filed z ns es r.fit (omega arith) (omega arith)) r.up r.same (omega arith)
      (omega arith, omega arith, omega arith))
    where
      left : {t : Tables} {n : Counters} → tables ns' es' ≡ t → c ≡ n → holding t n ≡ alone ns' es' c idle
      left e f = rw (← e, ← f)

  -- ---- so it is reached, and its updates are those inserts, the newest in front
  fresh_reached : Reached z (opened ns es) no_past
  unfolding fresh_of
  fresh_reached =
      fresh ns es (fresh_nodes ns) (fresh_entries es) fresh_counters (let fit = read.fit in rw fit)

  fresh_known : Knows (opened ns es) no_past
  fresh_known who = ap (λ (x : Session). x.op) (sym (get_d_default 16 who idle))

  pub loaded_reached_with : (h : Past)
      × Reached z (record { nodes = ns'; entries = es'; register = fresh_register c }) h
      × (h.updates ≡ inserts (keys_in s) (values_in s)) × (h.under ≡ λ who. Op.None)
  loaded_reached_with = (
    past_after z (opened ns es) (filing 0 (keys_in s) (values_in s)) no_past,
    rw loaded_inserts.ends at
        (reached_after z (opened ns es) no_past (filing 0 (keys_in s) (values_in s)) fresh_reached
        (filing_words (keys_in s) (values_in s) 0 0 read.up read.values_fit)),
    loaded_inserts.numbered no_past fresh_known ∙ append-nil (inserts (keys_in s) (values_in s)),
    fun_ext (λ who. loaded_inserts.known no_past fresh_known who ∙
        ap (λ (x : Session). x.op) (get_d_default 16 who idle)),
  )

  -- ---- and its set is the listing's pairs, rising
  pub loaded_set : set_after [] (inserts (keys_in s) (values_in s)) ≡ pairs_of (keys_in s) (values_in s)
  loaded_set = inserts_set (keys_in s) (values_in s) read.up read.same

  pub pairs_rise : Rises key_of (pairs_of (keys_in s) (values_in s))
  pairs_rise = rw loaded_set at (set_rises [] (inserts (keys_in s) (values_in s)) tt)

-- ---- for document 01's size
pub loaded_reached : (s ns es ns' es' : List ℕ) (c : Counters) →
    load_of small s ns es ≡ done (tables ns' es') (Ok c) →
    (h : Past) × Reached small (record { nodes = ns'; entries = es'; register = fresh_register c }) h
    × (h.updates ≡ inserts (keys_in s) (values_in s)) × (h.under ≡ λ who. Op.None)
loaded_reached s ns es ns' es' c told = loaded_reached_with small small_roomy (omega arith) s ns es ns' es' c told

pub loaded_set_now : (s ns es ns' es' : List ℕ) (c : Counters) →
    load_of small s ns es ≡ done (tables ns' es') (Ok c) →
    (h : Past) × Reached small (record { nodes = ns'; entries = es'; register = fresh_register c }) h
    × (set_after [] h.updates ≡ pairs_of (keys_in s) (values_in s))
loaded_set_now s ns es ns' es' c told =
    let r = loaded_reached s ns es ns' es' c told in (
      r.0,
      r.1,
      ap (set_after []) r.2 ∙ loaded_set small small_roomy (omega arith) s ns es ns' es' c told,
    )

-- ---- P12: the empty listing reads as fresh
empty_keys : keys_in empty_listing ≡ []
unfolding numbers_in lines_of ends class_of field_in starts_with number_in grows grow with_digit
empty_keys = refl

opened_fits : (z : Size) (ns es ns' es' : List ℕ) (c : Counters) →
    fresh_of z ns es ≡ fresh_opened ns' es' (Ok c) →
    (fits z ns es ≡ true) × (ns' ≡ fresh_nodes ns) × (es' ≡ fresh_entries es) × (c ≡ fresh_counters)
unfolding fresh_of
opened_fits z ns es ns' es' c = by (fits z ns es) refl
  where
    by : (b : Bool) → fits z ns es ≡ b →
        cond b (fresh_opened (fresh_nodes ns) (fresh_entries es) (Ok fresh_counters))
        (fresh_opened ns es (Err Refusal.BadTable)) ≡ fresh_opened ns' es' (Ok c) →
        (fits z ns es ≡ true) × (ns' ≡ fresh_nodes ns) × (es' ≡ fresh_entries es) × (c ≡ fresh_counters)
    by true fit h = (fit, cc, cc, cc)
    by false fit h = impossible (cc)

pub p12 : (ns es ns' es' : List ℕ) (c : Counters) → fresh_of small ns es ≡ fresh_opened ns' es' (Ok c) →
    load_of small empty_listing ns es ≡ done (tables ns' es') (Ok c)
unfolding load_of loaded_tables filed_all
p12 ns es ns' es' c told =
    let f = opened_fits small ns es ns' es' c told in
    rw (f.0, empty_read, empty_keys, f.1, f.2, f.3)
