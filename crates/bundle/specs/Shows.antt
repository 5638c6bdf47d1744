-- Rows in the entries table, as lists: what it is that the table shows a bundle of crate order.
-- In order: one entry's words; a row of final entries; a bundle; a reader's answer as the code gives it.
-- `own` lists the entry numbers of a row, newest first: two rows are apart where no number is in both.
-- Not here: whose row it is, and which rows are apart (the list's). Assumes nothing.
use Rattle.std.specs.Prelude.{Result, Ok, Err}
use Rattle.std.specs.Prelude.{ℕ, ◌+◌, ◌<◌, ◌≡◌, List, [], ◌∷◌}
use Rattle.std.proofs.Math.Option.{none, some}
use Rattle.order.specs.Rows.{Row, Bundle, final, pending, Seen, wait, found}
use Rattle.bundle.specs.Bundle.{word_at}
use Rattle.bundle.specs.declared.Held.{Held}

module _ (size : ℕ) (es : List ℕ) where
  -- ---- the link names entry e, which has this target, this stamp and this pending word
  pub record Entry (link e target stamp mark : ℕ) : Type 0 where
    pub named : link ≡ e + 1
    pub inside : e < size
    pub leads : word_at es e 0 ≡ target
    pub dated : word_at es e 1 ≡ stamp
    pub marked : word_at es e 2 ≡ mark

  -- ---- from the link on stand these entries, all final, and no more
  abbrev pub RowAt : List ℕ → Row → ℕ → Type 0
  RowAt [] [] link = link ≡ 0
  RowAt [] (p ∷ row) link = ⊥
  RowAt (e ∷ own) [] link = ⊥
  RowAt (e ∷ own) (p ∷ row) link = Entry link e p.1 p.0 0 × RowAt own row (word_at es e 3)

  -- ---- from the link on stands this bundle
  abbrev pub Shows : Bundle → List ℕ → ℕ → Type 0
  Shows (final row) own link = RowAt own row link
  Shows (pending carried target row) [] link = ⊥
  Shows (pending carried target row) (e ∷ own) link = Entry link e target carried 1 × RowAt own row (word_at es e 3)

-- ---- what the code answers where order's reading says this
abbrev pub as_read : Seen → Result ℕ Held
as_read wait = Err Held.Wait
as_read (found none) = Err Held.Damaged
as_read (found (some target)) = Ok target

abbrev pub as_held : Bundle → Result (Unit {0}) Held
as_held (final row) = Ok tt
as_held (pending carried target row) = Err Held.Wait
