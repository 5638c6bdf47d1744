-- The node table: node n has words 0 key, 1 value, 2 plain next, 3 lock (0 free, else the holder's session and one
-- more), 4 removed (0 or not), 5 newest (0 none, else the number of the newest entry of its bundle and one more).
-- In order: words; unlocking; a new node.
-- Not here: the table's size. Assumes nothing.
use Rattle.std.specs.Prelude.{ℕ, List, Bool, cond}
use Rattle.table.specs.Table.{word_of, store_of}

-- ---- words
abbrev pub node_at : List ℕ → ℕ → ℕ → ℕ
node_at ns n k = word_of 6 ns n k

abbrev pub put_node : List ℕ → ℕ → ℕ → ℕ → List ℕ
put_node ns n k v = store_of 6 ns n k v

abbrev pub key_at : List ℕ → ℕ → ℕ
key_at ns n = node_at ns n 0

abbrev pub value_at : List ℕ → ℕ → ℕ
value_at ns n = node_at ns n 1

abbrev pub next_at : List ℕ → ℕ → ℕ
next_at ns n = node_at ns n 2

abbrev pub lock_at : List ℕ → ℕ → ℕ
lock_at ns n = node_at ns n 3

abbrev pub removed_at : List ℕ → ℕ → ℕ
removed_at ns n = node_at ns n 4

abbrev pub newest_at : List ℕ → ℕ → ℕ
newest_at ns n = node_at ns n 5

-- ---- unlocking writes 0 whatever was there; a remove holds curr too
abbrev pub unlocked : List ℕ → ℕ → List ℕ
unlocked ns n = put_node ns n 3 0

abbrev pub unlocked_both : List ℕ → ℕ → ℕ → Bool → List ℕ
unlocked_both ns pred curr both = cond both (unlocked (unlocked ns pred) curr) (unlocked ns pred)

-- ---- a new node: its key, value and plain next; not locked, not removed, with an empty bundle
unfoldable pub named_node : List ℕ → ℕ → ℕ → ℕ → ℕ → List ℕ
named_node ns n key value next = put_node (put_node (put_node ns n 0 key) n 1 value) n 2 next

unfoldable pub clear_node : List ℕ → ℕ → List ℕ
clear_node ns n = put_node (put_node (put_node ns n 3 0) n 4 0) n 5 0

abbrev pub new_node : List ℕ → ℕ → ℕ → ℕ → ℕ → List ℕ
new_node ns n key value next = clear_node (named_node ns n key value next) n
