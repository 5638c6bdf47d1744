-- The ordered set of document 002: keys with values, strictly rising by key; and what updates do to it.
-- In order: pairs; a list in order, with insert, remove, restriction to a range, and the test for a key (over any
-- elements that have a key, so that nodes are ordered by the same text); updates; the set after updates.
-- Not here: nodes, links and numbers (Rows, History). Assumes nothing.
use Rattle.std.specs.Prelude.{Bool, true, false, cond, List, [], ◌∷◌, ℕ, ◌-◌, ◌<◌, ltb, leb, eqb, length, drop}

-- ---- a key and its value
abbrev pub Pair : Type 0
Pair = ℕ × ℕ

abbrev pub key_of : Pair → ℕ
key_of p = p.0

-- ---- lists in order
module _ {A : Type 0} (key : A → ℕ) where
  -- every key is above `b`, and they strictly rise
  abbrev pub Over : ℕ → List A → Type 0
  Over b [] = Unit {0}
  Over b (x ∷ l) = (b < key x) × Over (key x) l

  -- keys strictly rise
  abbrev pub Rises : List A → Type 0
  Rises [] = Unit {0}
  Rises (x ∷ l) = Over (key x) l

  -- with `x` in its place; a list that has the key of `x` stays as it is
  unfoldable pub put : A → List A → List A
  put x [] = x ∷ []
  put x (y ∷ l) = cond (ltb (key x) (key y)) (x ∷ y ∷ l) (cond (eqb (key x) (key y)) (y ∷ l) (y ∷ put x l))

  -- without the key `k`
  unfoldable pub cut : ℕ → List A → List A
  cut k [] = []
  cut k (y ∷ l) = cond (eqb (key y) k) l (y ∷ cut k l)

  -- the part with keys from `low` to `high`
  unfoldable pub within : ℕ → ℕ → List A → List A
  within low high [] = []
  within low high (y ∷ l) =
      cond (ltb (key y) low) (within low high l) (cond (leb (key y) high) (y ∷ within low high l) (within low high l))

  -- is the key `k` there?
  unfoldable pub member : ℕ → List A → Bool
  member k [] = false
  member k (y ∷ l) = cond (eqb (key y) k) true (member k l)

-- ---- updates
pub data Update : Type 0 where
  insert : (key value : ℕ) → Update
  remove : (key : ℕ) → Update

abbrev pub apply : Update → List Pair → List Pair
apply (insert k v) set = put key_of (k, v) set
apply (remove k) set = cut key_of k set

-- the set after a list of updates, the newest in front
unfoldable pub set_after : List Pair → List Update → List Pair
set_after start [] = start
set_after start (u ∷ updates) = apply u (set_after start updates)

-- the first `n` of a list that has the newest in front: its last `n`
abbrev pub first : {A : Type 0} → ℕ → List A → List A
first n l = drop (length l - n) l
