-- What a store changes: the word at its place, and no other.
-- In order: places of different words differ; the word stored; the other words; the length. Assumes nothing.
use Prim.Native.Nat.{ℕ, suc, ◌+◌, ◌*◌, ◌≤◌, ◌<◌}
use mathlib.Core.Path.{◌≡◌, sym, ap}
use mathlib.Core.Logic.{◌⊎◌, ⊎_elim, ◌≢◌}
use mathlib.Core.List.{List}
use native.Mathlib.Nat.{mul-le-mul_right}
use native.Mathlib.Decide.{dec_lt}
use native.Mathlib.Omega.{arith}
use lib.ListN.{length, length-set}
use lib.Seq.{get_or-set_same, get_or-set_other}
use Rattle.table.specs.Table.{word_of, store_of}

-- a row of `width` words ends before the next one begins
rows_apart : (width i j k l : ℕ) → k < width → i < j → i * width + k ≢ j * width + l
rows_apart width i j k l k<width i<j e =
    let next : suc i * width ≤ j * width = mul-le-mul_right width i<j in
    omega (arith, next)

pub places_apart : (width i j k l : ℕ) → k < width → l < width → (i ≢ j) ⊎ (k ≢ l)
    → i * width + k ≢ j * width + l
places_apart width i j k l k<width l<width apart e = elim (dec_lt i j) [
  | yes i<j ↦ rows_apart width i j k l k<width i<j e
  | no i≥j ↦ elim (dec_lt j i) [
    | yes j<i ↦ rows_apart width j i l k l<width j<i (sym e)
    | no j≥i ↦ same_row (let z : i ≡ j = omega arith in z)
  ]
]
  where
    same_row : i ≡ j → ⊥
    same_row z = ⊎_elim (λ d. d z) (λ d. d (let q : i * width
        ≡ j * width = ap (λ x. x * width) z in omega arith)) apart

module _ (width : ℕ) (t : List ℕ) (i k v : ℕ) where
  pub word_stored : i * width + k < length t → word_of width (store_of width t i k v) i k ≡ v
  unfolding word_of store_of
  word_stored in_table = get_or-set_same t (i * width + k) v 0 in_table

  pub word_else : (j l : ℕ) → k < width → l < width → (j ≢ i) ⊎ (l ≢ k)
      → word_of width (store_of width t i k v) j l ≡ word_of width t j l
  unfolding word_of store_of
  word_else j l k<width l<width apart =
      get_or-set_other t (i * width + k) (j * width + l) v 0 (places_apart width j i l k l<width k<width apart)

  pub store_length : length (store_of width t i k v) ≡ length t
  unfolding store_of
  store_length = length-set t (i * width + k) v
