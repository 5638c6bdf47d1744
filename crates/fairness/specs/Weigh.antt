-- What the nodes of a list weigh together, and lists of nodes without repetition.
-- In order: weight; distinct nodes; rising keys.
-- Not here: what a node weighs (Reader). Assumes nothing.
use mathlib.Core.List.{List, [], ◌∷◌, Memᴰ}
use Rattle.std.specs.Prelude.{ℕ, ◌+◌, ◌<◌}

module _ {A : Type 0} where
  abbrev pub weigh : (A → ℕ) → List A → ℕ
  weigh f [] = 0
  weigh f (x ∷ l) = f x + weigh f l

  abbrev pub Distinct : List A → Type 0
  Distinct [] = Unit {0}
  Distinct (x ∷ l) = ¬ Memᴰ x l × Distinct l

  -- all of the first list are in the second
  abbrev pub Within : List A → List A → Type 0
  Within ns l = (x : A) → Memᴰ x ns → Memᴰ x l

  -- keys above `p`, strictly rising
  abbrev pub Rising : (A → ℕ) → ℕ → List A → Type 0
  Rising key p [] = Unit {0}
  Rising key p (x ∷ l) = (p < key x) × Rising key (key x) l
