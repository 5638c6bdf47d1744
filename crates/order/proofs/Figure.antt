-- Document 002, Figure 1: insert 20, 30, 10, remove 20; and what the whole range gives at each number.
-- In order: the figure; what its links and its log give, by computing; its history, by the theorems; rows that have
-- no history; a start with keys.
-- The history is shown false of rows in which the removed node keeps its link, so that it says something.
-- Assumes nothing.
use mathlib.Core.Path.{◌≡◌, refl}
use mathlib.Core.Logic.{inl}
use mathlib.Core.Option.{some}
use mathlib.Core.List.Memᴰ
use mathlib.Core.List.{List, [], ◌∷◌}
use Prim.Native.Nat.{ℕ, ◌≤◌}
use native.Mathlib.Omega.{arith}
use lib.ListN.{get_or}
use Rattle.order.specs.Set.{Pair, key_of, put, cut, within, set_after}
use Rattle.order.specs.Rows.{Row, look}
use Rattle.order.specs.History.{head, tail, next, push, number_insert, number_remove, ins, rem, Log, Start}
use Rattle.order.specs.History.{empty, up_to, set_of, members, History, collect, linked, rows_from}
use Rattle.order.specs.Shape.{an_insert, a_remove}
use Rattle.order.proofs.Rows.{some_same}
use Rattle.order.proofs.Keeps.{history_begins, history_begins_empty}
use Rattle.order.proofs.Reading.{reading, members_length, up_to_length}
use Rattle.order.proofs.Shape.{numbers_keep}

-- ---- the figure: node 2 has key 20, node 3 key 30, node 4 key 10
abbrev key : ℕ → ℕ
key x = get_or (0 ∷ 4294967295 ∷ 20 ∷ 30 ∷ 10 ∷ []) x 0

abbrev val : ℕ → ℕ
val x = get_or (0 ∷ 0 ∷ 7 ∷ 8 ∷ 9 ∷ []) x 0

abbrev rows₁ : ℕ → Row
rows₁ = number_insert (rows_from empty) 1 head tail 2

abbrev rows₂ : ℕ → Row
rows₂ = number_insert rows₁ 2 2 tail 3

abbrev rows₃ : ℕ → Row
rows₃ = number_insert rows₂ 3 head 2 4

abbrev rows₄ : ℕ → Row
rows₄ = number_remove rows₃ 4 4 2 3

abbrev log : Log
log = rem 2 ∷ ins 4 ∷ ins 3 ∷ ins 2 ∷ []

-- ---- the links and the log say the same, at each number
abbrev read : ℕ → List Pair
read s = collect key val (next rows₄ s) 1 4294967294 6 head

abbrev set_in : ℕ → List Pair
set_in s = within key_of 1 4294967294 (set_of key val empty (up_to empty s log))

-- what each number shows
abbrev shown : ℕ → List Pair
shown s = get_or ([] ∷ ((20, 7) ∷ []) ∷ ((20, 7) ∷ (30, 8) ∷ []) ∷ ((10, 9) ∷ (20, 7) ∷ (30, 8) ∷ [])
    ∷ ((10, 9) ∷ (30, 8) ∷ []) ∷ []) s []

abbrev Shows : (ℕ → List Pair) → Type 0
Shows l = (l 0 ≡ shown 0) × (l 1 ≡ shown 1) × (l 2 ≡ shown 2) × (l 3 ≡ shown 3) × (l 4 ≡ shown 4)

pub figure_reads : Shows read
unfolding push look linked collect
figure_reads = (refl, refl, refl, refl, refl)

pub figure_sets : Shows set_in
unfolding set_after put cut within
figure_sets = (refl, refl, refl, refl, refl)

-- low and high may be one key; a reader at the removed 20 goes by the head
pub figure_parts : (collect key val (next rows₄ 3) 20 20 6 head ≡ (20, 7) ∷ [])
    × (collect key val (next rows₄ 4) 21 4294967294 6 2 ≡ (30, 8) ∷ [])
unfolding push look linked collect
figure_parts = (refl, refl)

-- ---- what may be numbered can be numbered: the figure's history
pub history₁ : History key empty rows₁ (ins 2 ∷ [])
unfolding members look linked
history₁ = numbers_keep (history_begins_empty key (omega arith)) (an_insert head tail 2 (record {
  pred_in = Memᴰ.head refl;
  leads = refl;
  above_pred = omega arith;
  below_curr = omega arith;
  unlinked = refl;
}))

pub history₂ : History key empty rows₂ (ins 3 ∷ ins 2 ∷ [])
unfolding members put push look linked
history₂ = numbers_keep history₁ (an_insert 2 tail 3 (record {
  pred_in = Memᴰ.tail (Memᴰ.head refl);
  leads = refl;
  above_pred = omega arith;
  below_curr = omega arith;
  unlinked = refl;
}))

pub history₃ : History key empty rows₃ (ins 4 ∷ ins 3 ∷ ins 2 ∷ [])
unfolding members put push look linked
history₃ = numbers_keep history₂ (an_insert head 2 4 (record {
  pred_in = Memᴰ.head refl;
  leads = refl;
  above_pred = omega arith;
  below_curr = omega arith;
  unlinked = refl;
}))

pub history₄ : History key empty rows₄ log
unfolding members put push look linked
history₄ = numbers_keep history₃ (a_remove 4 2 3 (record {
  pred_in = Memᴰ.tail (Memᴰ.head refl);
  leads = refl;
  curr_in = Memᴰ.tail (Memᴰ.head refl);
  leads_on = refl;
}))

-- so the reading theorem speaks of it
pub figure_agrees : (s : ℕ) → s ≤ 4 → read s ≡ set_in s
figure_agrees s s≤4 = reading key val empty rows₄ log history₄ s (omega arith) (omega arith)
    1 4294967294 (omega arith) (omega arith) (omega arith) head (inl refl) (omega arith)
    6 (omega (arith, members_length key empty (up_to empty s log), up_to_length empty s log))

-- ---- the history is false where the removed node keeps its link: a reader standing there would list removed keys
abbrev broken : ℕ → Row
broken = push rows₃ 4 4 3

pub keeps_its_link : ¬ History key empty broken log
unfolding push look linked
keeps_its_link H =
    let removed = (H.snap 4 (omega arith) (omega arith)).gone 2 (Memᴰ.head refl) in
    let kept : next broken 4 2 ≡ some 3 = refl in
    let z : ◌≡◌ {A = ℕ} 3 head = some_same kept removed in
    omega arith

-- ---- a start with keys: 20 and 30 at stamp 300, then insert 10, numbered 301
abbrev loaded : Start
loaded = record { base = 300; loaded = 2 ∷ 3 ∷ [] }

abbrev later : ℕ → Row
later = number_insert (rows_from loaded) 301 head 2 4

pub loaded_begins : History key loaded (rows_from loaded) []
loaded_begins = history_begins key loaded (omega arith, (omega arith, (omega arith, tt)))

pub loaded_later : History key loaded later (ins 4 ∷ [])
unfolding members look linked
loaded_later = numbers_keep loaded_begins (an_insert head 2 4 (record {
  pred_in = Memᴰ.head refl;
  leads = refl;
  above_pred = omega arith;
  below_curr = omega arith;
  unlinked = refl;
}))

pub loaded_reads : (collect key val (next later 300) 1 4294967294 6 head ≡ shown 2)
    × (collect key val (next later 301) 1 4294967294 6 head ≡ shown 3)
unfolding push look linked collect
loaded_reads = (refl, refl)
