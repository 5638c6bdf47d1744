-- Rows of dated links, and what a reader sees of one (document 01, rules B1 to B4).
-- In order: rows; reading a row; bundles; the reading rules; the row that a bundle stands for.
-- Not here: whose row it is, and what its targets are (History). Assumes nothing.
use Rattle.std.specs.Prelude.{cond, ◌⊎◌, ◌≡◌, List, [], ◌∷◌, ℕ, ◌<◌, ltb, leb}
use Rattle.std.proofs.Math.Option.{Option, none, some}

-- ---- a row: pairs of a number and a target, the newest first
abbrev pub Row : Type 0
Row = List (ℕ × ℕ)

-- strictly falling numbers, all below `b`
abbrev pub Under : ℕ → Row → Type 0
Under b [] = Unit {0}
Under b (p ∷ row) = (p.0 < b) × Under p.0 row

-- what a reader at snapshot `s` sees: the target of the first pair with a number of at most `s`
unfoldable pub look : ℕ → Row → Option ℕ
look s [] = none
look s (p ∷ row) = cond (leb p.0 s) (some p.1) (look s row)

-- the target of the newest pair
abbrev pub newest : Row → Option ℕ
newest [] = none
newest (p ∷ row) = some p.1

-- ---- a bundle: its final entries as a row; the newest entry, and no other, may be pending (B1).
-- A pending entry has the stamp that it carries (B2) and its target
pub data Bundle : Type 0 where
  final : Row → Bundle
  pending : (carried target : ℕ) → Row → Bundle

-- ---- reading a bundle: wait, or what was found
pub data Seen : Type 0 where
  wait : Seen
  found : Option ℕ → Seen

-- rule B3: a pending entry that carries less than the snapshot is waited for, any other is passed
unfoldable pub read_at : ℕ → Bundle → Seen
read_at s (final row) = found (look s row)
read_at s (pending carried target row) = cond (ltb carried s) wait (found (look s row))

-- rule B4
unfoldable pub read_newest : Bundle → Seen
read_newest (final row) = found (newest row)
read_newest (pending carried target row) = wait

-- ---- the effective row: a pending entry counts once its update has a number, which is above what it carries (B2)
abbrev pub Effective : Bundle → Row → Type 0
Effective (final row) e = e ≡ row
Effective (pending carried target row) e = (e ≡ row) ⊎ ((n : ℕ) × (carried < n) × (e ≡ (n, target) ∷ row))
