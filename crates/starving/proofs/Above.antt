-- Registers with the drawings that they show, as states with calls.
-- In order: whether key and value functions agree; states; a call; while the functions agree; they go on as drawings
-- do; calls whose end agrees.
-- A call may give its node another key than `key` has: from then on the state keeps its last drawing, and is lost. Key
-- and value functions taken from the words at the end of the calls are never lost before it.
-- Assumes nothing.
use Prim.Native.Nat.{ℕ, zero, suc, ◌≤◌, ◌<◌}
use mathlib.Core.Path.{◌≡◌, refl, sym, subst}
use mathlib.Core.Option.{Option}
use mathlib.Core.List.{List, [], ◌∷◌}
use native.Mathlib.Decide.{dec_le, ℕ_discrete}
use native.Mathlib.Omega.{arith}
use lib.ListN.{length}
use Rattle.order.specs.History.{empty}
use Rattle.nodes.specs.Nodes.{key_at, value_at}
use Rattle.terms.specs.Terms.{small, sought_of, high_of, value_of}
use Rattle.terms.specs.declared.Answer.{Answer}
use Rattle.sixteen.specs.declared.Call.{Call}
use Rattle.reached.specs.Reached.{State, Word, InWords}
use Rattle.reached.specs.Fair.{Lived, go_on, reply, whose, Busy, Open, given, AllInWords}
use Rattle.drawing.specs.Drawing.{Drawing}
use Rattle.drawing.proofs.Inv.{Inv}
use Rattle.drawing.proofs.Room.{Covers}
use Rattle.fairness.specs.Calls.{after, Along}
use Rattle.words.proofs.Show.{Agrees, shown_inv}
use Rattle.words.proofs.Land.{used_of}
use Rattle.words.proofs.Back.{agree_back}
use Rattle.pace.specs.Turns
use Rattle.pace.specs.Turns.{Turn, Draws, IsOpen, IsBusy}
use Rattle.starving.proofs.Live.{Live, few_nodes, next}
use Rattle.starving.proofs.Words.{open_in_words, open_drawn, busy_in_words}

-- ---- whether something holds of all numbers below one
dec_below : (P : ℕ → Type 0) → ((x : ℕ) → Dec (P x)) → (n : ℕ) → Dec ((x : ℕ) → x < n → P x)
dec_below P dec zero = yes (λ x h. absurd (omega arith))
dec_below P dec (suc n) = elim (dec_below P dec n) [
  | no fails ↦ no (λ all. fails (λ x h. all x (omega arith)))
  | yes holds ↦ elim (dec n) [
    | no fails ↦ no (λ all. fails (all n (omega arith)))
    | yes here ↦ yes (λ x h. elim (ℕ_discrete x n) [
      | yes e ↦ subst P (sym e) here
      | no other ↦ holds x (omega arith)
    ])
  ]
]

both : {P Q : Type 0} → Dec P → Dec Q → Dec (P × Q)
both (yes p) (yes q) = yes (p, q)
both (yes p) (no n) = no (λ b. n b.1)
both (no n) q = no (λ b. n b.0)

dec_word : (n : ℕ) → Dec (Word n)
dec_word n = dec_le n 4294967295

dec_words : (c : Call) → Dec (InWords c)
dec_words (Call.Start who op) =
    elim (both (dec_word (sought_of op)) (both (dec_word (high_of op)) (dec_word (value_of op)))) [
      | yes w ↦ yes (w.0, w.1.0, w.1.1)
      | no n ↦ no (λ w. n (w.0, (w.1, w.2)))
    ]
dec_words (Call.Step who) = yes tt

module _ (key val : ℕ → ℕ) where
  abbrev pub AgreesIn : State → Type 0
  AgreesIn σ = Agrees key val (used_of σ) σ.nodes

  dec_agrees : (σ : State) → Dec (AgreesIn σ)
  dec_agrees σ = elim (both
      (dec_below (λ x. key_at σ.nodes x ≡ key x) (λ x. ℕ_discrete (key_at σ.nodes x) (key x)) (used_of σ))
      (dec_below (λ x. value_at σ.nodes x ≡ val x) (λ x. ℕ_discrete (value_at σ.nodes x) (val x)) (used_of σ))) [
        | yes a ↦ yes (record { keyed = a.0; valued = a.1 })
        | no n ↦ no (λ a. n (a.keyed, a.valued))
      ]

  abbrev Fits : Lived → Call → Type 0
  Fits l c = InWords c × AgreesIn (go_on l c).state

  pub fits : (l : Lived) (c : Call) → Dec (Fits l c)
  fits l c = both (dec_words c) (dec_agrees (go_on l c).state)

  -- ---- states
  pub data Above : Type 0 where
    live : {l : Lived} → Live key val l → Above
    lost : Lived → {l : Lived} → Live key val l → Above

  abbrev pub below : Above → Lived
  below (live {l} L) = l
  below (lost τ L) = τ

  abbrev pub drawing_of : Above → Drawing
  drawing_of (live L) = L.drawing
  drawing_of (lost τ L) = L.drawing

  abbrev pub nodes_in : Above → List ℕ
  nodes_in (live L) = L.nodes
  nodes_in (lost τ L) = L.nodes

  abbrev pub Good : Above → Type 0
  Good (live L) = Unit {0}
  Good (lost τ L) = ⊥

  -- ---- a call
  abbrev moved : {l : Lived} → Live key val l → (c : Call) → Dec (Fits l c) → Above
  moved L c (yes f) = live (next key val L c f.0 f.1).live
  moved {l} L c (no n) = lost (go_on l c) L

  abbrev pub goes : Above → Call → Above
  goes (live {l} L) c = moved L c (fits l c)
  goes (lost τ L) c = lost (go_on τ c) L

  moved_below : {l : Lived} (L : Live key val l) (c : Call) (d : Dec (Fits l c))
      → below (moved L c d) ≡ go_on l c
  moved_below L c (yes f) = refl
  moved_below L c (no n) = refl

  pub goes_below : (a : Above) (c : Call) → below (goes a c) ≡ go_on (below a) c
  goes_below (live {l} L) c = moved_below L c (fits l c)
  goes_below (lost τ L) c = refl

  -- ---- while key and value functions agree
  moved_good : {l : Lived} (L : Live key val l) (c : Call) (d : Dec (Fits l c)) → Fits l c
      → Good (moved L c d)
  moved_good L c (yes f) fit = tt
  moved_good L c (no n) fit = n fit

  abbrev pub whose_turn : Above → Call → Option ℕ
  whose_turn a c = whose (below a) c

  moved_turn : {l : Lived} (L : Live key val l) (c : Call) (d : Dec (Fits l c)) → Good (moved L c d)
      → Turn key val empty L.drawing L.nodes (whose l c) (drawing_of (moved L c d)) (nodes_in (moved L c d))
  moved_turn L c (yes f) good = (next key val L c f.0 f.1).turn
  moved_turn L c (no n) good = absurd good

  -- ---- THEY GO ON AS DRAWINGS DO
  pub above_inv : (a : Above) → Inv key val empty (drawing_of a)
  above_inv (live L) = shown_inv L.shown
  above_inv (lost τ L) = shown_inv L.shown

  pub above_covers : (a : Above) → Good a → Covers (nodes_in a) (drawing_of a)
  above_covers (live L) good = L.listed.covers
  above_covers (lost τ L) good = absurd good

  pub above_turn : (a : Above) (c : Call) → Good a → Good (goes a c)
      → Turn key val empty (drawing_of a) (nodes_in a) (whose_turn a c) (drawing_of (goes a c)) (nodes_in (goes a c))
  above_turn (live {l} L) c good = moved_turn L c (fits l c)
  above_turn (lost τ L) c good = absurd good

  abbrev pub draws : Draws goes whose_turn Good key val empty
  draws = record {
    drawing = drawing_of;
    given = nodes_in;
    inv = above_inv;
    covers = above_covers;
    turn = above_turn;
  }

  -- what is open and busy, and how many nodes are given, in words
  pub above_opens : (q low high : ℕ) (a : Above) → Good a → IsOpen draws q low high a → Open q low high (below a)
  above_opens q low high (live {l} L) good = open_in_words key val l L.drawing L.shown q low high
  above_opens q low high (lost τ L) good = absurd good

  pub opens_above : (q low high : ℕ) (a : Above) → Good a → Open q low high (below a) → IsOpen draws q low high a
  opens_above q low high (live {l} L) good = open_drawn key val l L.drawing L.shown q low high
  opens_above q low high (lost τ L) good = absurd good

  pub above_busy : (a : Above) → Good a → (i : ℕ) → IsBusy draws a i → Busy (below a) i
  above_busy (live {l} L) good = busy_in_words key val l L.drawing L.shown
  above_busy (lost τ L) good = absurd good

  pub above_few : (a : Above) → Good a → length (nodes_in a) ≤ given (below a).state
  above_few (live L) good = few_nodes key val L
  above_few (lost τ L) good = absurd good

  -- a call that ends a range answers end
  moved_ends : {l : Lived} (L : Live key val l) (c : Call) (d : Dec (Fits l c)) → Good (moved L c d)
      → (q low high : ℕ) → Turns.Open q low high L.drawing → ¬ Turns.Open q low high (drawing_of (moved L c d))
      → (s n : ℕ) × (reply l c ≡ Answer.End s n)
  moved_ends L c (yes f) good = (next key val L c f.0 f.1).ends
  moved_ends L c (no n) good = absurd good

  pub above_ends : (a : Above) (c : Call) → Good a → Good (goes a c) → (q low high : ℕ) → IsOpen draws q low high a
      → ¬ IsOpen draws q low high (goes a c) → (s n : ℕ) × (reply (below a) c ≡ Answer.End s n)
  above_ends (live {l} L) c good = moved_ends L c (fits l c)
  above_ends (lost τ L) c good = absurd good

  -- ---- calls at whose end they agree: they agree throughout
  pub agrees_first : (l : Lived) (calls : List Call) → AgreesIn (after go_on l calls).state → AgreesIn l.state
  agrees_first l [] agrees = agrees
  agrees_first l (c ∷ calls) agrees = agree_back small key val l.state c (agrees_first (go_on l c) calls agrees)

  pub good_on : (a : Above) (c : Call) → Good a → InWords c → AgreesIn (go_on (below a) c).state → Good (goes a c)
  good_on (live {l} L) c good words agrees = moved_good L c (fits l c) (words, agrees)
  good_on (lost τ L) c good words agrees = good

  pub good_along : (a : Above) (calls : List Call) → Good a → AllInWords calls
      → AgreesIn (after go_on (below a) calls).state → Along goes Good a calls
  good_along a [] good words agrees = good
  good_along a (c ∷ calls) good words agrees =
      let here = good_on a c good words.0 (agrees_first (go_on (below a) c) calls agrees) in (
        good,
        good_along (goes a c) calls here words.1
            (subst (λ τ. AgreesIn (after go_on τ calls).state) (sym (goes_below a c)) agrees),
      )
