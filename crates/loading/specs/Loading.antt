-- Reading a listing into lent register tables (document 01): 7, then 9 or 10, or the register.
-- In order: document 01's numbers; the answer and the tables; loading.
-- Not here: the tables' words (Filing), what 9 and 10 mean (crate scanning). Assumes nothing.
use Rattle.std.specs.Prelude.{ℕ, List, [], ◌∷◌, cond, Result, Ok, Err}
use Rattle.terms.specs.declared.Size.{Size}
use Rattle.steps.specs.Steps.{Tables, tables}
use Rattle.register.specs.Register.{fits}
use Rattle.text.specs.Text.{lines_of}
use Rattle.listing.specs.Listing.{key_name, value_name}
use Rattle.scanning.specs.Reading.{check_of, numbers_in}
use Rattle.scanning.specs.declared.Whole.{Whole}
use Rattle.scanning.specs.declared.Unread.{Unread}
use Rattle.loading.specs.Refused.{unloaded, unloaded_number}
use Rattle.loading.specs.Filing.{used, filed_all, fresh_tables}
use Rattle.terms.specs.declared.Counters.{Counters}
use Rattle.loading.specs.declared.Unloaded.{Unloaded}

-- the refusal number, and 0 for what is no refusal
abbrev pub number_of : Result Counters Unloaded → ℕ
number_of (Ok c) = 0
number_of (Err why) = unloaded_number why

-- the numbers that the answer gives: the counters, or the offset
abbrev pub values_of : Result Counters Unloaded → List ℕ
values_of (Ok c) = c.nodes ∷ c.entries ∷ c.stamp ∷ []
values_of (Err Unloaded.BadTable) = []
values_of (Err (Unloaded.BadListing p)) = p ∷ []
values_of (Err Unloaded.TooMany) = []

-- the tables afterwards, and the answer
pub data Done : Type 0 where
  done : Tables → Result Counters Unloaded → Done

-- a fresh register after inserting the keys in order, numbered from 1
unfoldable pub loaded_tables : List ℕ → List ℕ → List ℕ → Tables
loaded_tables s ns es =
    filed_all 0 (numbers_in key_name (lines_of s)) (numbers_in value_name (lines_of s)) (fresh_tables ns es)

abbrev pub on_reading : List ℕ → List ℕ → List ℕ → Result Whole Unread → Done
on_reading s ns es (Ok w) = done (loaded_tables s ns es) (Ok (used w.count))
on_reading s ns es (Err e) = done (tables ns es) (Err (unloaded e))

unfoldable pub load_of : Size → List ℕ → List ℕ → List ℕ → Done
load_of z s ns es =
    cond (fits z ns es) (on_reading s ns es (check_of z.keys s)) (done (tables ns es) (Err Unloaded.BadTable))
