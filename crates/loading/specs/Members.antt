-- What a register holds, read off its tables: nodes from the head to the tail, by one link after the other.
-- In order: where a node leads by its newest entry; following links; tables that hold pairs. Assumes nothing.
use Rattle.std.specs.Prelude.{ℕ, zero, suc, ◌-◌, ◌≡◌, List, [], ◌∷◌, cond, length, eqb}
use Rattle.bundle.specs.Bundle.{word_at}
use Rattle.nodes.specs.Nodes.{key_at, value_at, next_at, newest_at}

-- where node i leads by its newest entry (rule B4)
abbrev pub newest_next : List ℕ → List ℕ → ℕ → ℕ
newest_next ns es i = word_at es (newest_at ns i - 1) 0

-- a word of each node from node i on, up to the tail (node 1), at most n of them
unfoldable pub follow : (ℕ → ℕ) → (ℕ → ℕ) → ℕ → ℕ → List ℕ
follow next word zero i = []
follow next word (suc n) i = cond (eqb i 1) [] (word i ∷ follow next word n (next i))

-- by both kinds of link the nodes after the head have these keys and these values, in this order, and no others
pub record Holds (ns es ks vs : List ℕ) : Type 0 where
  pub plain_keys : follow (next_at ns) (key_at ns) (suc (length ks)) (next_at ns 0) ≡ ks
  pub plain_values : follow (next_at ns) (value_at ns) (suc (length ks)) (next_at ns 0) ≡ vs
  pub newest_keys : follow (newest_next ns es) (key_at ns) (suc (length ks)) (newest_next ns es 0) ≡ ks
  pub newest_values : follow (newest_next ns es) (value_at ns) (suc (length ks)) (newest_next ns es 0) ≡ vs
