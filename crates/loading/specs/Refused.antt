-- What a listing that is not read is for loading: the same refusal. And document 01's number of a refusal.
-- Assumes nothing.
use Rattle.std.specs.Prelude.{ℕ}
use Rattle.terms.specs.Terms.{refusal_number}
use Rattle.terms.specs.declared.Refusal.{Refusal}
use Rattle.scanning.specs.declared.Unread.{Unread}
use Rattle.loading.specs.declared.Unloaded.{Unloaded}

abbrev pub unloaded : Unread → Unloaded
unloaded (Unread.BadListing p) = Unloaded.BadListing p
unloaded Unread.TooMany = Unloaded.TooMany

abbrev pub unloaded_number : Unloaded → ℕ
unloaded_number Unloaded.BadTable = refusal_number Refusal.BadTable
unloaded_number (Unloaded.BadListing p) = 9
unloaded_number Unloaded.TooMany = 10
