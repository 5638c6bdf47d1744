-- What the history says at the stamp about a node, and about the node that its link leads to.
-- In order: nodes with and without a row; a node of the set and its link's target; which keys the set has near them.
-- Not here: older snapshots (Reading). Assumes nothing.
use mathlib.Core.Bool.{true, false}
use mathlib.Core.Path.{◌≡◌, sym, ◌∙◌, ap}
use mathlib.Core.Logic.{◌⊎◌, inl, inr, ⊎_elim, ⊎_map, ◌≢◌}
use mathlib.Core.Option.{Option, some}
use mathlib.Core.List.Memᴰ
use mathlib.Core.List.{List, [], ◌∷◌, ◌++◌, Memᴰ}
use Prim.Native.Nat.{ℕ, ◌≤◌, ◌<◌}
use native.Mathlib.Omega.{arith}
use Rattle.order.specs.Set.{key_of, member}
use Rattle.order.specs.Rows.{Row, look}
use Rattle.order.specs.History.{head, tail, next, Log, Start, stamp, Given, entry, set_of, Chain, members}
use Rattle.order.specs.History.{History}
use Rattle.order.proofs.Rows.{none_some, some_same, look_none}
use Rattle.order.proofs.Sets.{member_map}
use Rattle.order.proofs.Member.{member_mem, member_none}
use Rattle.order.proofs.Chains.{Around, above_start, below_last}
use Rattle.order.proofs.Keeps.{current, defined, divided}
use Rattle.order.proofs.Reading.{set_is_members}

module _ (key : ℕ → ℕ) (start : Start) (rows : ℕ → Row) (log : Log) (H : History key start rows log) where
  abbrev f : ℕ → Option ℕ
  f = next rows (stamp start log)

  -- ---- nodes with and without a row
  pub row_fresh : (x : ℕ) → x ≢ head → ¬ Given start x log → rows x ≡ []
  row_fresh x x≢head out =
      look_none (stamp start log) (rows x) (H.under x) ((current key start rows log H).fresh x x≢head out)

  pub row_given : (x : ℕ) → (x ≡ head) ⊎ Given start x log → rows x ≢ []
  unfolding look
  row_given x given unused =
      let d = defined key start f log (current key start rows log H) x given in
      none_some (f x) d.0 (ap (look (stamp start log)) unused) d.1

  -- a given node that leads elsewhere than to the head is in the set
  pub still_in : (p q : ℕ) → (p ≡ head) ⊎ Given start p log → next rows (stamp start log) p ≡ some q → q ≢ head →
      Memᴰ p (head ∷ members key start log)
  still_in p q given link q≢head = ⊎_elim Memᴰ.head
      (λ g. ⊎_elim Memᴰ.tail (λ r. absurd (q≢head (some_same link ((current key start rows log H).gone p r))))
      ((current key start rows log H).kept p g)) given

  -- ---- a node `p` of the set, or the head, and its link's target `q`
  module _ (p q : ℕ) (m : Memᴰ p (head ∷ members key start log))
      (link : next rows (stamp start log) p ≡ some q) where
    abbrev a : Around key f (members key start log) p
    a = divided key start f log (current key start rows log H) p m

    target_of : (B : List ℕ) → Chain key f p (B ++ (tail ∷ [])) → (q ≡ tail) ⊎ Memᴰ q B
    target_of [] c = inl (some_same link c.0)
    target_of (n ∷ B) c = inr (Memᴰ.head (some_same link c.0))

    -- the target is the tail, or in the set
    pub link_target : (q ≡ tail) ⊎ Memᴰ q (members key start log)
    link_target =
        ⊎_map (λ z. z) (λ k. rw a.whole (Memᴰ.append_right a.front k)) (target_of a.back a.behind)

    beyond : (B : List ℕ) (x : ℕ) → Chain key f p (B ++ (tail ∷ [])) → Memᴰ x (B ++ (tail ∷ [])) → key q ≤ key x
    beyond [] x c k = omega (arith, ap key (some_same link c.0), ap key (Memᴰ.eq_of_singleton k))
    beyond (n ∷ B) x c k =
        let q≡n : q ≡ n = some_same link c.0 in
        ⊎_elim (λ e. omega (arith, ap key e, ap key q≡n))
        (λ i. omega (arith, ap key q≡n, above_start key f n x (B ++ (tail ∷ [])) c.2 i))
        (Memᴰ.cases_cons k)

    -- no key of the set lies between the two
    pub link_between : (x : ℕ) → Memᴰ x (members key start log) → key p < key x → key q ≤ key x
    link_between x k p<x = ⊎_elim
        (λ i. absurd (omega (arith, below_last key f head x a.front a.before i, ap key a.ends)))
        (λ i. beyond a.back x a.behind (Memᴰ.append_left (tail ∷ []) i))
        (Memᴰ.append_cases a.front (rw a.whole at k))

    module _ (val : ℕ → ℕ) (k : ℕ) where
      set_member : member key_of k (set_of key val start log) ≡ member key k (members key start log)
      set_member = ap (member key_of k) (sym (set_is_members key val start log))
          ∙ member_map key_of (entry key val) k (members key start log)

      -- a key strictly between the two is absent
      pub set_lacks : key p < k → k < key q → member key_of k (set_of key val start log) ≡ false
      set_lacks p<k k<q = set_member ∙ member_none key k (members key start log)
          (λ x i x≡k. omega (arith, x≡k, link_between x i (omega (arith, x≡k))))

      -- the target's key is present, below the tail's
      pub set_has : key q ≡ k → k < key tail → member key_of k (set_of key val start log) ≡ true
      set_has q≡k k<tail = set_member ∙ ⊎_elim
          (λ e. absurd (omega (arith, ap key e)))
          (λ i. ap (λ j. member key j (members key start log)) (sym q≡k) ∙ member_mem key q (members key start log) i)
          link_target
