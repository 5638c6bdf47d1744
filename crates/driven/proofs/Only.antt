-- The slices leave no choice: they hold one register at most.
-- In order: lists with the same records; words of one record; the register. Assumes nothing.
use Prim.Native.Nat.{ℕ, suc, ◌<◌}
use mathlib.Core.Path.{◌≡◌, refl, sym, ◌∙◌, ap}
use mathlib.Core.List.{List, [], ◌∷◌}
use native.Mathlib.Omega.{arith}
use lib.ListN.{length}
use Rattle.steps.specs.declared.Session.{Session}
use Rattle.sixteen.specs.Sixteen.{session_of}
use Rattle.reached.specs.Reached.{State, record_of}
use Rattle.encoding.specs.Encoding.{encode, session_from}
use Rattle.encoding.proofs.Trip.{session_back}
use Rattle.driven.specs.Driven.{Holds}

-- ---- as many records, and the same ones
lists_same : (l m : List Session) → length l ≡ length m
    → ((i : ℕ) → i < length l → session_of l i ≡ session_of m i) → l ≡ m
lists_same [] [] long each = refl
lists_same [] (y ∷ m) long each = absurd (omega (arith, long))
lists_same (x ∷ l) [] long each = absurd (omega (arith, long))
lists_same (x ∷ l) (y ∷ m) long each =
    let first : x ≡ y = each 0 (omega arith) in
    let rest = lists_same l m (omega (arith, long)) (λ i h. each (suc i) (omega (arith, h))) in
    rw (first, rest)

-- ---- records with the same words
records_same : (s t : Session) → encode s ≡ encode t → s ≡ t
records_same s t e = sym (session_back s) ∙ ap session_from e ∙ session_back t

-- ---- one register
abbrev spread : State → State
spread σ = record {
  nodes = σ.nodes;
  entries = σ.entries;
  register = record { counters = σ.register.counters; sessions = σ.register.sessions };
}

pub holds_one : (ns es ws : List ℕ) (σ τ : State) → Holds ns es ws σ → Holds ns es ws τ → σ ≡ τ
holds_one ns es ws σ τ H K =
    let nodes : σ.nodes ≡ τ.nodes = sym H.nodes ∙ K.nodes in
    let entries : σ.entries ≡ τ.entries = sym H.entries ∙ K.entries in
    let counters : σ.register.counters ≡ τ.register.counters = sym H.counters ∙ K.counters in
    let sessions : σ.register.sessions ≡ τ.register.sessions =
    lists_same σ.register.sessions τ.register.sessions (H.sixteen ∙ sym K.sixteen)
    (λ i h. let known : i < 16 = omega (arith, h, H.sixteen) in
    records_same (record_of σ i) (record_of τ i) (sym (H.records i known) ∙ K.records i known)) in
    let all : spread σ ≡ spread τ = rw (nodes, entries, counters, sessions) in all
