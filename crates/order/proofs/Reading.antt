-- The reading theorem: following links at a snapshot gives the set of that snapshot, within the range.
-- In order: first updates; the nodes' keys and values are the set; how many there are; one link; along a chain; from
-- where a reader may stand; the theorem.
-- Not here: waiting (Rules). Assumes nothing.
use mathlib.Core.Bool.{cond}
use mathlib.Core.Path.{◌≡◌, refl, sym, ◌∙◌, ap}
use mathlib.Core.Logic.{◌⊎◌, inl, inr, ⊎_elim}
use mathlib.Core.Option.{Option, some}
use mathlib.Core.List.{List, [], ◌∷◌, ◌++◌, map, Memᴰ}
use Prim.Native.Nat.{ℕ, zero, suc, ◌+◌, ◌-◌, ◌≤◌, ◌<◌}
use native.Mathlib.Decide.{dec_le, dec_lt}
use native.Mathlib.Omega.{arith}
use lib.Dec.{ltb, leb}
use lib.ListN.{length, drop, length-append, length-map, length-drop}
use borrow.Author.Tests.{lt-ltb, le-ltb, le-leb, lt-leb}
use Rattle.order.specs.Set.{Pair, key_of, Rises, put, cut, within, set_after, first}
use Rattle.order.specs.Rows.{Row}
use Rattle.order.specs.History.{head, tail, next, ins, rem, Log, Start, stamp, up_to, Given, entry, said, set_of}
use Rattle.order.specs.History.{Chain, members, Snap, History, collect}
use Rattle.order.proofs.Sets.{map_put, map_cut, map_within, put_length_le, cut_length_le, rises_map}
use Rattle.order.proofs.Sets.{set_rises}
use Rattle.order.proofs.Chains.{around, chain_split, within_below, within_above}

-- ---- the first updates, as the log has them and as the set does
map_drop : {A B : Type 0} (g : A → B) (n : ℕ) (l : List A) → map g (drop n l) ≡ drop n (map g l)
map_drop g zero l = refl
map_drop g (suc n) [] = refl
map_drop g (suc n) (x ∷ l) = map_drop g n l

pub map_first : {A B : Type 0} (g : A → B) (n : ℕ) (l : List A) → map g (first n l) ≡ first n (map g l)
map_first g n l = map_drop g (length l - n) l ∙ ap (λ k. drop (k - n) (map g l)) (sym (length-map l g))

module _ (key val : ℕ → ℕ) (start : Start) where
  -- ---- the nodes' keys and values are the set
  pub set_is_members : (log : Log) → map (entry key val) (members key start log) ≡ set_of key val start log
  unfolding members set_after
  set_is_members [] = refl
  set_is_members (ins x ∷ log) =
      map_put key_of (entry key val) x (members key start log) ∙ ap (put key_of (entry key val x)) (set_is_members log)
  set_is_members (rem x ∷ log) =
      map_cut key_of (entry key val) (key x) (members key start log) ∙ ap (cut key_of (key x)) (set_is_members log)

  pub set_within : (low high : ℕ) (log : Log) →
      map (entry key val) (within key low high (members key start log))
      ≡ within key_of low high (set_of key val start log)
  set_within low high log = map_within key_of (entry key val) low high (members key start log)
      ∙ ap (within key_of low high) (set_is_members log)

  -- the set at a snapshot, from the updates by key and value
  pub set_at : (s : ℕ) (log : Log) → set_of key val start (up_to start s log)
      ≡ set_after (map (entry key val) start.loaded) (first (s - start.base) (map (said key val) log))
  set_at s log =
      ap (set_after (map (entry key val) start.loaded)) (map_first (said key val) (s - start.base) log)

  -- it is in order, if the starting nodes are
  pub set_of_rises : (log : Log) → Rises key start.loaded → Rises key_of (set_of key val start log)
  set_of_rises log rises =
      set_rises (map (entry key val) start.loaded) (map (said key val) log)
      (rises_map key_of (entry key val) start.loaded rises)

-- ---- the set has at most a member for each starting node and each update
pub members_length : (key : ℕ → ℕ) (start : Start) (log : Log) →
    length (members key start log) ≤ length start.loaded + length log
unfolding members
members_length key start [] = omega arith
members_length key start (ins x ∷ log) =
    omega (arith, members_length key start log, put_length_le key x (members key start log))
members_length key start (rem x ∷ log) =
    omega (arith, members_length key start log, cut_length_le key (key x) (members key start log))

pub first_length : {A : Type 0} (n : ℕ) (l : List A) → length (first n l) ≤ length l
first_length n l = omega (arith, length-drop (length l - n) l)

pub up_to_length : (start : Start) (s : ℕ) (log : Log) → length (up_to start s log) ≤ length log
up_to_length start s log = first_length (s - start.base) log

module _ (key val : ℕ → ℕ) (f : ℕ → Option ℕ) (low high : ℕ) (low≤high : low ≤ high) where
  -- ---- one link that leads on
  collect_on : (fuel p q : ℕ) → f p ≡ some q → collect key val f low high (suc fuel) p
      ≡ cond (ltb (key q) low) (collect key val f low high fuel q)
      (cond (leb (key q) high) (entry key val q ∷ collect key val f low high fuel q) [])
  unfolding collect
  collect_on fuel p q e = rw (e, collect)

  -- one node, by where its key lies
  turn : (n : ℕ) (xs : List Pair) (ns : List ℕ) → xs ≡ map (entry key val) (within key low high ns) →
      (high < key n → within key low high ns ≡ []) → Dec (key n < low) → Dec (key n ≤ high) →
      cond (ltb (key n) low) xs (cond (leb (key n) high) (entry key val n ∷ xs) [])
      ≡ map (entry key val) (within key low high (n ∷ ns))
  unfolding within
  turn n xs ns same far (yes a) b = rw (lt-ltb (key n) low a) same
  turn n xs ns same far (no a) (yes b) =
      rw (le-ltb (key n) low (omega arith), le-leb (key n) high b) (ap (λ l. entry key val n ∷ l) same)
  turn n xs ns same far (no a) (no b) =
      rw (le-ltb (key n) low (omega arith), lt-leb (key n) high (omega arith), far (omega arith))

  -- ---- along a chain to the tail
  along : (ns : List ℕ) (p fuel : ℕ) → high < key tail → Chain key f p (ns ++ (tail ∷ [])) → length ns < fuel →
      collect key val f low high fuel p ≡ map (entry key val) (within key low high ns)
  unfolding within
  along ns p zero high<tail c enough = absurd (omega arith)
  along [] p (suc fuel) high<tail c enough =
      collect_on fuel p tail c.0
      ∙ rw (le-ltb (key tail) low (omega arith), lt-leb (key tail) high (omega arith))
  along (n ∷ ns) p (suc fuel) high<tail c enough =
      collect_on fuel p n c.0
      ∙ turn n (collect key val f low high fuel n) ns (along ns n fuel high<tail c.2 (omega arith))
      (λ k. within_above key f low high n ns (chain_split key f n ns (tail ∷ []) c.2).0 low≤high k)
      (dec_lt (key n) low) (dec_le (key n) high)

  -- ---- from where a reader may stand: with a key below `low`
  module _ (start : Start) (log : Log) (snap : Snap key start f log) (high<tail : high < key tail) where
    -- the head, or a node of the set
    from_member : (p fuel : ℕ) → Memᴰ p (head ∷ members key start log) → key p < low →
        length (members key start log) < fuel →
        collect key val f low high fuel p ≡ within key_of low high (set_of key val start log)
    from_member p fuel m p<low enough =
        let a = around key f p (members key start log) snap.walk m in
        let short : length a.back < fuel =
        omega (arith, ap length a.whole, length-append a.front a.back) in
        let skipped = within_below key f low high head a.front a.back a.before (rw a.ends p<low) in
        along a.back p fuel high<tail a.behind short
        ∙ ap (map (entry key val)) (sym skipped ∙ ap (within key low high) (sym a.whole))
        ∙ set_within key val start low high log

    -- a node that was removed: its link leads to the head
    from_removed : (p fuel : ℕ) → f p ≡ some head → key head < low → suc (length (members key start log)) < fuel →
        collect key val f low high fuel p ≡ within key_of low high (set_of key val start log)
    from_removed p zero link head<low enough = absurd (omega arith)
    from_removed p (suc fuel) link head<low enough =
        collect_on fuel p head link
        ∙ rw (lt-ltb (key head) low head<low) (from_member head fuel (Memᴰ.head refl) head<low (omega arith))

    from_any : (p fuel : ℕ) → (p ≡ head) ⊎ Given start p log → key head < low → key p < low →
        suc (length (members key start log)) < fuel →
        collect key val f low high fuel p ≡ within key_of low high (set_of key val start log)
    from_any p fuel (inl p≡head) head<low p<low enough =
        from_member p fuel (Memᴰ.head p≡head) p<low (omega arith)
    from_any p fuel (inr given) head<low p<low enough = ⊎_elim
        (λ m. from_member p fuel (Memᴰ.tail m) p<low (omega arith))
        (λ r. from_removed p fuel (snap.gone p r) head<low enough)
        (snap.kept p given)

-- ---- THE READING THEOREM. Two links more than there are members are enough
pub reading : (key val : ℕ → ℕ) (start : Start) (rows : ℕ → Row) (log : Log) → History key start rows log →
    (s : ℕ) → start.base ≤ s → s ≤ stamp start log →
    (low high : ℕ) → key head < low → low ≤ high → high < key tail →
    (p : ℕ) → (p ≡ head) ⊎ Given start p (up_to start s log) → key p < low →
    (fuel : ℕ) → 2 + length (members key start (up_to start s log)) ≤ fuel →
    collect key val (next rows s) low high fuel p ≡ within key_of low high (set_of key val start (up_to start s log))
reading key val start rows log H s base≤s s≤stamp low high head<low low≤high high<tail p given p<low fuel enough =
    from_any key val (next rows s) low high low≤high start (up_to start s log) (H.snap s base≤s s≤stamp) high<tail
    p fuel given head<low p<low (omega arith)
