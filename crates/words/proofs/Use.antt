-- What refutes Damaged in words: nodes that phases name are in the table, and counters have room.
-- In order: the nodes given so far; nodes in use; the stamp; entries.
-- Not here: keys handed out (the readers' laws). Assumes nothing.
use Prim.Native.Nat.{ℕ, zero, suc, ◌+◌, ◌-◌, ◌*◌, ◌≤◌, ◌<◌}
use mathlib.Core.Path.{◌≡◌, refl, ◌∙◌, ap}
use mathlib.Core.Logic.{inl, inr, ◌≢◌}
use mathlib.Core.List.{List, [], ◌∷◌, Memᴰ}
use native.Mathlib.Decide.{dec_lt, ℕ_discrete}
use native.Mathlib.Omega.{arith}
use lib.ListN.{length}
use Rattle.order.specs.Set.{Update}
use Rattle.order.specs.History.{tail, empty}
use Rattle.terms.specs.Terms.{small}
use Rattle.reached.specs.Reached.{State, stamp_of, Past}
use Rattle.drawing.specs.Phases.{Phase, numbering}
use Rattle.drawing.specs.Drawing.{Drawing}
use Rattle.drawing.proofs.Inv.{At}
use Rattle.drawing.proofs.Room.{distinct_length, Used, Covers, Names, names_used, at_used, number_room}
use Rattle.words.proofs.Show.{Shown, shown_inv}

-- ---- the nodes given so far, the head and the tail left out
abbrev pub given : ℕ → List ℕ
given zero = []
given (suc n) = (n + 2) ∷ given n

pub given_length : (n : ℕ) → length (given n) ≡ n
given_length zero = refl
given_length (suc n) = ap suc (given_length n)

pub given_has : (n x : ℕ) → 2 ≤ x → x < n + 2 → Memᴰ x (given n)
given_has zero x low high = absurd (omega arith)
given_has (suc n) x low high = elim (ℕ_discrete x (n + 2)) [
  | yes e ↦ Memᴰ.head e
  | no d ↦ Memᴰ.tail (given_has n x low (omega arith))
]

module _ (key val : ℕ → ℕ) (σ : State) (h : Past) (m : Drawing) (S : Shown small key val σ h m) where
  -- ---- nodes in use are below the counter, and so in the table
  pub used_below : (x : ℕ) → Used m x → x < σ.register.counters.nodes
  used_below x (inl has_entry) = elim (dec_lt x σ.register.counters.nodes) [
    | yes below ↦ below
    | no above ↦ absurd (has_entry (S.rows.blank x (omega arith)))
  ]
  used_below x (inr x≡tail) = omega (arith, x≡tail, S.two)

  pub at_below : (x : ℕ) → At empty m x → x < σ.register.counters.nodes
  at_below x there = used_below x (at_used key val empty m (shown_inv S) x there)

  pub named_below : (t : ℕ) (φ : Phase) → m.phase t ≡ φ → (x : ℕ) → Names φ x → x < σ.register.counters.nodes
  named_below t φ e x n = used_below x (names_used key val empty m (shown_inv S) t x (rw e n))

  pub in_table : (x : ℕ) → x < σ.register.counters.nodes → x < 512
  in_table x below = omega (arith, below, S.most)

  pub nodes_fit : σ.register.counters.nodes * 6 ≤ length σ.nodes
  nodes_fit = omega (arith, S.most, S.whole_nodes)

  -- ---- all nodes in use, but for the head and the tail
  abbrev pub in_use : List ℕ
  in_use = given (σ.register.counters.nodes - 2)

  pub in_use_covers : Covers in_use m
  in_use_covers x x≢head has_entry =
      let below = used_below x (inl has_entry) in
      let x≢tail : x ≢ tail = λ e. has_entry (ap m.bundle e ∙ (shown_inv S).own.ends) in
      given_has (σ.register.counters.nodes - 2) x (omega arith) (omega (arith, S.two))

  pub in_use_length : length in_use + 2 ≡ σ.register.counters.nodes
  in_use_length = omega (arith, S.two, given_length (σ.register.counters.nodes - 2))

  -- ---- at Number the stamp has room
  pub stamp_room : (t : ℕ) (u : Update) (p y z c : ℕ) → m.phase t ≡ numbering u p y z c → stamp_of σ < 1020
  stamp_room t u p y z c e = omega (
    arith,
    S.stamp,
    S.most,
    in_use_length,
    number_room key val empty m (shown_inv S) in_use in_use_covers t u p y z c e,
  )

  -- ---- entries: at most 2,041
  pub cuts_few : length S.cuts.cuts + 2 ≤ σ.register.counters.nodes
  cuts_few = omega (
    arith,
    in_use_length,
    distinct_length S.cuts.cuts in_use S.cuts.once
        (λ x i. given_has (σ.register.counters.nodes - 2) x (S.cuts.in_use x i).0
        (omega (arith, S.two, (S.cuts.in_use x i).1))),
  )

  pub entries_most : σ.register.counters.entries ≤ 2041
  entries_most = omega (arith, cuts_few, S.most, S.cuts.count)
