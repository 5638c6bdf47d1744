-- What lies before a range's reader in its snapshot: the nodes that it still passes, until a key above `high`.
-- In order: lists without repetition; the nodes ahead; one link more; along a chain; from where Fix may stand.
-- Not here: waiting. The links at the snapshot are `f`. Assumes nothing.
use mathlib.Core.Path.{◌≡◌, refl, sym, ◌∙◌, ap}
use mathlib.Core.Logic.{◌⊎◌, inl, inr, ⊎_elim}
use mathlib.Core.Option.{Option, some}
use mathlib.Core.List.{List, [], ◌∷◌, ◌++◌, map, Memᴰ}
use Prim.Native.Nat.{ℕ, ◌≤◌, ◌<◌}
use native.Mathlib.Decide.{dec_le}
use native.Mathlib.Omega.{arith}
use borrow.Author.Tests.{lt-ltb, le-ltb, lt-leb}
use Rattle.order.specs.Set.{key_of, within}
use Rattle.order.specs.History.{head, tail, Log, Start, Given, Removed, entry, set_of, Chain, members, Snap}
use Rattle.order.proofs.Rows.{some_same}
use Rattle.order.proofs.Chains.{Around, chain_split, above_start, within_below, within_above}
use Rattle.order.proofs.Keeps.{divided}
use Rattle.order.proofs.Reading.{set_within}

-- ---- no element twice
abbrev pub Distinct : {A : Type 0} → List A → Type 0
Distinct [] = Unit {0}
Distinct (x ∷ l) = (¬ Memᴰ x l) × Distinct l

pub chain_distinct : (key : ℕ → ℕ) (f : ℕ → Option ℕ) (p : ℕ) (ns : List ℕ) → Chain key f p ns → Distinct ns
chain_distinct key f p [] c = tt
chain_distinct key f p (n ∷ ns) c =
    (λ m. omega (arith, above_start key f n n ns c.2 m), chain_distinct key f n ns c.2)

-- ---- the nodes ahead of `x`
module _ (key : ℕ → ℕ) (f : ℕ → Option ℕ) (high : ℕ) where
  abbrev pub Ahead : ℕ → List ℕ → Type 0
  Ahead x [] = (q : ℕ) × (f x ≡ some q) × (high < key q)
  Ahead x (n ∷ ns) = (f x ≡ some n) × (key n ≤ high) × Ahead n ns

  -- there is a link to take
  pub ahead_link : (x : ℕ) (ns : List ℕ) → Ahead x ns → (q : ℕ) × (f x ≡ some q)
  ahead_link x [] a = (a.0, a.1)
  ahead_link x (n ∷ ns) a = (n, a.0)

  -- it leads to a key up to `high`: one node less
  pub ahead_on : (x q : ℕ) (ns : List ℕ) → f x ≡ some q → key q ≤ high → Ahead x ns →
      (ms : List ℕ) × (ns ≡ q ∷ ms) × Ahead q ms
  ahead_on x q [] link q≤high a = absurd (omega (arith, ap key (some_same link a.1), a.2))
  ahead_on x q (n ∷ ns) link q≤high a =
      let z : n ≡ q = some_same a.0 link in (ns, ap (λ y. y ∷ ns) z, rw z at a.2)

  -- or above: none was left
  pub ahead_end : (x q : ℕ) (ns : List ℕ) → f x ≡ some q → high < key q → Ahead x ns → ns ≡ []
  ahead_end x q [] link high<q a = refl
  ahead_end x q (n ∷ ns) link high<q a = absurd (omega (arith, ap key (some_same link a.0), a.1))

-- ---- along a chain to the tail: the part up to `high` is ahead, and has all that the range reads
module _ (key : ℕ → ℕ) (f : ℕ → Option ℕ) (low high : ℕ) (low≤high : low ≤ high) (high<tail : high < key tail) where
  pub record Before (p : ℕ) (ns : List ℕ) : Type 0 where
    pub part : List ℕ
    pub rest : List ℕ
    pub whole : ns ≡ part ++ rest
    pub ahead : Ahead key f high p part
    pub same : within key low high part ≡ within key low high ns

  far : (n : ℕ) (ns : List ℕ) → Chain key f n (ns ++ (tail ∷ [])) → high < key n → [] ≡ within key low high (n ∷ ns)
  unfolding within
  far n ns c high<n =
      rw (le-ltb (key n) low (omega arith), lt-leb (key n) high high<n)
      (sym (within_above key f low high n ns (chain_split key f n ns (tail ∷ []) c).0 low≤high high<n))

  near : (n : ℕ) (ms ns : List ℕ) → within key low high ms ≡ within key low high ns →
      within key low high (n ∷ ms) ≡ within key low high (n ∷ ns)
  unfolding within
  near n ms ns same = rw same

  along : (p : ℕ) (ns : List ℕ) → Chain key f p (ns ++ (tail ∷ [])) → Before p ns
  unfolding within
  along p [] c = record { part = []; rest = []; whole = refl; ahead = (tail, c.0, high<tail); same = refl }
  along p (n ∷ ns) c = elim (dec_le (key n) high) [
    | yes n≤high ↦ let b = along n ns c.2 in record {
      part = n ∷ b.part;
      rest = b.rest;
      whole = ap (λ l. n ∷ l) b.whole;
      ahead = (c.0, n≤high, b.ahead);
      same = near n b.part ns b.same;
    }
    | no n≰high ↦ record {
      part = [];
      rest = n ∷ ns;
      whole = refl;
      ahead = (n, c.0, omega arith);
      same = far n ns c.2 (omega arith);
    }
  ]

-- ---- from where Fix may stand: the head, or a node given by then, with a key below `low`
module _ (key val : ℕ → ℕ) (start : Start) (f : ℕ → Option ℕ) (log : Log) (snap : Snap key start f log)
    (low high : ℕ) (head<low : key head < low) (low≤high : low ≤ high) (high<tail : high < key tail) where
  -- nodes of the set, none twice
  abbrev pub InSet : List ℕ → Type 0
  InSet ns = Distinct ns × ((x : ℕ) → Memᴰ x ns → Memᴰ x (members key start log))

  pub record Fixed (p : ℕ) : Type 0 where
    pub ahead : List ℕ
    pub reads : Ahead key f high p ahead
    pub same : map (entry key val) (within key low high ahead) ≡ within key_of low high (set_of key val start log)
    -- behind pred; or, where pred had been removed by then, by the head
    pub kind : InSet ahead ⊎ ((ms : List ℕ) × (ahead ≡ head ∷ ms) × Removed p log × InSet ms)

  -- the head, or a node of the set
  module _ (p : ℕ) (m : Memᴰ p (head ∷ members key start log)) (p<low : key p < low) where
    abbrev a : Around key f (members key start log) p
    a = divided key start f log snap p m

    abbrev b : Before key f low high low≤high high<tail p a.back
    b = along key f low high low≤high high<tail p a.back a.behind

    same_set : map (entry key val) (within key low high b.part) ≡ within key_of low high (set_of key val start log)
    same_set =
        let skipped = within_below key f low high head a.front a.back a.before (rw a.ends p<low) in
        ap (map (entry key val)) (b.same ∙ sym skipped ∙ ap (within key low high) (sym a.whole))
        ∙ set_within key val start low high log

    part_chain : Chain key f p b.part
    part_chain =
        let c = (chain_split key f p a.back (tail ∷ []) a.behind).0 in
        (chain_split key f p b.part b.rest (rw b.whole at c)).0

    in_set : InSet b.part
    in_set = (
      chain_distinct key f p b.part part_chain,
      λ x k. rw a.whole (mathlib.Core.List.Memᴰ.append_right a.front
          (rw b.whole (mathlib.Core.List.Memᴰ.append_left b.rest k))),
    )

    from_member : Fixed p
    from_member = record { ahead = b.part; reads = b.ahead; same = same_set; kind = inl in_set }

  -- a removed node leads to the head
  skip_head : (ns : List ℕ) → within key low high (head ∷ ns) ≡ within key low high ns
  unfolding within
  skip_head ns = rw (lt-ltb (key head) low head<low)

  from_removed : (p : ℕ) → Removed p log → Fixed p
  from_removed p removed =
      let m : Memᴰ head (head ∷ members key start log) = mathlib.Core.List.Memᴰ.head refl in
      let h = b head m head<low in record {
        ahead = head ∷ h.part;
        reads = (snap.gone p removed, omega arith, h.ahead);
        same = ap (map (entry key val)) (skip_head h.part) ∙ same_set head m head<low;
        kind = inr (h.part, refl, removed, in_set head m head<low);
      }

  pub fixed : (p : ℕ) → (p ≡ head) ⊎ Given start p log → key p < low → Fixed p
  fixed p (inl p≡head) p<low = from_member p (mathlib.Core.List.Memᴰ.head p≡head) p<low
  fixed p (inr given) p<low =
      ⊎_elim (λ m. from_member p (mathlib.Core.List.Memᴰ.tail m) p<low) (from_removed p) (snap.kept p given)

-- ---- where a link leads at a snapshot, from the head or a node given by then
module _ (key : ℕ → ℕ) (start : Start) (f : ℕ → Option ℕ) (log : Log) (snap : Snap key start f log) where
  first_of : (p q : ℕ) (ns : List ℕ) → f p ≡ some q → Chain key f p (ns ++ (tail ∷ [])) → (q ≡ tail) ⊎ Memᴰ q ns
  first_of p q [] link c = inl (some_same link c.0)
  first_of p q (n ∷ ns) link c = inr (mathlib.Core.List.Memᴰ.head (some_same link c.0))

  pub snap_target : (p q : ℕ) → (p ≡ head) ⊎ Given start p log → f p ≡ some q →
      (q ≡ head) ⊎ ((q ≡ tail) ⊎ Memᴰ q (members key start log))
  snap_target p q given link = ⊎_elim (λ e. inr (from (mathlib.Core.List.Memᴰ.head e)))
      (λ g. ⊎_elim (λ m. inr (from (mathlib.Core.List.Memᴰ.tail m))) (λ r. inl (some_same link (snap.gone p r)))
      (snap.kept p g)) given
    where
      from : Memᴰ p (head ∷ members key start log) → (q ≡ tail) ⊎ Memᴰ q (members key start log)
      from m =
          let a = divided key start f log snap p m in
          ⊎_elim inl (λ k. inr (rw a.whole (mathlib.Core.List.Memᴰ.append_right a.front k)))
          (first_of p q a.back link a.behind)
