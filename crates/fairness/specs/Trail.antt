-- The nodes that a snapshot still leads through, as a function of its links: a reader's stage, for a register.
-- In order: a node and its key; the trail; a row of links.
-- Not here: where the links come from. Assumes nothing.
use Rattle.std.specs.Prelude.{◌≡◌, cond, List, [], ◌∷◌, ℕ, zero, suc, eqb}
use Rattle.std.proofs.Math.Option.{Option, none, some}

abbrev pub Keyed : Type 0
Keyed = ℕ × ℕ

abbrev pub key_of : Keyed → ℕ
key_of x = x.1

module _ (key : ℕ → ℕ) where
  abbrev pub keyed : List ℕ → List Keyed
  keyed [] = []
  keyed (x ∷ l) = (x, key x) ∷ keyed l

  -- `f` gives the link of a node at the snapshot: from `p` up to the tail, in at most so many links
  module _ (f : ℕ → Option ℕ) (tail : ℕ) where
    unfoldable pub trail : ℕ → ℕ → List Keyed
    trail zero p = []
    trail (suc fuel) p = elim (f p) [
      | none ↦ []
      | some x ↦ cond (eqb x tail) [] ((x, key x) ∷ trail fuel x)
    ]

-- links lead from `p` through these nodes, one by one
abbrev pub Leads : (ℕ → Option ℕ) → ℕ → List ℕ → Type 0
Leads f p [] = Unit {0}
Leads f p (n ∷ ns) = (f p ≡ some n) × Leads f n ns
