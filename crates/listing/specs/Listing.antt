-- The listing (document 01): its lines and bytes, and what writing it gives.
-- In order: names; lines; the listing; the pairs that may be written; writing.
-- Not here: reading (the crate above), what 11 and 12 mean in document 01's words (Refusals).
-- Assumes nothing.
use Rattle.std.specs.Prelude.{Result, Ok, Err}
use Rattle.std.specs.Prelude.{ℕ, ◌+◌, ◌*◌, List, [], ◌∷◌, ◌++◌, Bool, true, false, cond, length, leb, eqb}
use Rattle.std.proofs.lemmas.List.Edits.{sets}
use Rattle.text.specs.Text.{largest, digits}
use Rattle.listing.specs.declared.Unwritten.{Unwritten}

-- ---- names, each with its `=`

abbrev pub edition_name : List ℕ
edition_name = 101 ∷ 100 ∷ 105 ∷ 116 ∷ 105 ∷ 111 ∷ 110 ∷ 61 ∷ []

abbrev pub stamp_name : List ℕ
stamp_name = 115 ∷ 116 ∷ 97 ∷ 109 ∷ 112 ∷ 61 ∷ []

abbrev pub key_name : List ℕ
key_name = 107 ∷ 101 ∷ 121 ∷ 61 ∷ []

abbrev pub value_name : List ℕ
value_name = 118 ∷ 97 ∷ 108 ∷ 117 ∷ 101 ∷ 61 ∷ []

abbrev pub count_name : List ℕ
count_name = 99 ∷ 111 ∷ 117 ∷ 110 ∷ 116 ∷ 61 ∷ []

-- ---- lines: a name, a number, byte 10

unfoldable pub field_of : List ℕ → ℕ → List ℕ
field_of name n = name ++ (digits n ++ (10 ∷ []))

unfoldable pub pair_of : ℕ → ℕ → List ℕ
pair_of k v = field_of key_name k ++ field_of value_name v

unfoldable pub pairs : List ℕ → List ℕ → List ℕ
pairs [] vs = []
pairs (k ∷ ks) [] = []
pairs (k ∷ ks) (v ∷ vs) = pair_of k v ++ pairs ks vs

-- ---- the listing: the edition, the stamp, each key with its value, the number of keys

unfoldable pub head_of : ℕ → List ℕ
head_of stamp = field_of edition_name 1 ++ field_of stamp_name stamp

unfoldable pub body_of : List ℕ → List ℕ → List ℕ
body_of ks vs = pairs ks vs ++ field_of count_name (length ks)

unfoldable pub listing_of : ℕ → List ℕ → List ℕ → List ℕ
listing_of stamp ks vs = head_of stamp ++ body_of ks vs

-- ---- the pairs that may be written

-- 512 nodes, head and tail not counted
abbrev pub key_room : ℕ
key_room = 510

-- the longest listing of that many keys: 34 bytes, 32 for each key and value, the digits of their number
abbrev pub most_bytes : ℕ → ℕ
most_bytes most = 34 + 32 * most + length (digits most)

-- each key above the last, and below the tail's
unfoldable pub rising : ℕ → List ℕ → Bool
rising last [] = true
rising last (k ∷ ks) = cond (leb k last) false (cond (leb largest k) false (rising k ks))

unfoldable pub good_pairs : ℕ → List ℕ → List ℕ → Bool
good_pairs most ks vs =
    cond (eqb (length ks) (length vs)) (cond (leb (length ks) most) (rising 0 ks) false) false

-- ---- writing

-- the output afterwards, and the answer
pub data Done : Type 0 where
  done : List ℕ → Result ℕ Unwritten → Done

unfoldable pub write_of : ℕ → ℕ → List ℕ → List ℕ → List ℕ → Done
write_of most stamp ks vs out =
    cond (good_pairs most ks vs)
    (cond (leb (length (listing_of stamp ks vs)) (length out))
    (done (sets out 0 (listing_of stamp ks vs)) (Ok (length (listing_of stamp ks vs))))
    (done out (Err Unwritten.NoRoom)))
    (done out (Err Unwritten.BadPairs))
