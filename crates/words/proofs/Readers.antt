-- The steps that write nothing, in words and in the drawing: Walk, has's Follow, Fix, Follow, Hand.
-- In order: quiet steps by their record; what the words of a node are; Walk; has's Follow; Fix; Follow; Hand.
-- Not here: an update's own steps. Assumes nothing.
use Prim.Native.Nat.{ℕ, ◌+◌, ◌≤◌, ◌<◌}
use mathlib.Core.Path.{◌≡◌, refl, sym, ◌∙◌, ap}
use mathlib.Core.Logic.{inr, ⊎_elim}
use mathlib.Core.Option.{some}
use mathlib.Core.List.{List, [], ◌∷◌, ◌++◌}
use native.Mathlib.Decide.{dec_le, dec_lt, ℕ_discrete}
use native.Mathlib.Omega.{arith}
use lib.ListN.{length, length-append}
use Rattle.order.specs.Set.{Pair, insert, remove}
use Rattle.order.specs.Rows.{wait, found, read_at, read_newest}
use Rattle.order.specs.History.{empty, entry}
use Rattle.bundle.specs.Bundle.{at_of, newest_of}
use Rattle.bundle.specs.Shows.{as_read}
use Rattle.bundle.proofs.Promise.{read_at_is, read_newest_is}
use Rattle.nodes.specs.Nodes.{key_at, newest_at}
use Rattle.terms.specs.Terms.{small, sought_of}
use Rattle.terms.specs.declared.Counters.{Counters}
use Rattle.terms.specs.declared.Op
use Rattle.steps.specs.declared.Phase
use Rattle.steps.specs.declared.Session.{Session}
use Rattle.steps.specs.declared.Stepped.{Stepped}
use Rattle.steps.specs.Steps
use Rattle.steps.specs.Steps.{done, arrived_of, works}
use Rattle.reading.proofs.Ways
use Rattle.reached.specs.Reached.{State, record_of, Past, at, handed_by}
use Rattle.reached.proofs.History.{at_same}
use Rattle.drawing.specs.Phases.{Op, upd, has, range, sought, Phase, idle, walking, seeking, fixing, following}
use Rattle.drawing.specs.Phases.{handing, arrived}
use Rattle.drawing.specs.Drawing.{shown, Drawing, now}
use Rattle.drawing.specs.Effects.{stays}
use Rattle.drawing.specs.Steps.{Out, working, present, absent, key_value, ended, Step, walk_on, walk_arrive, seek_on}
use Rattle.drawing.specs.Steps.{seek_present, seek_absent, fix_it, follow_on, follow_in, follow_end, hand_out}
use Rattle.drawing.proofs.Inv.{Facts}
use Rattle.drawing.proofs.Room.{newest_used, follow_used, hand_room}
use Rattle.drawing.proofs.Goes.{bundle_cases, newest_found, follow_finds}
use Rattle.words.proofs.Show.{Sinks, op_word, running, Runs, HandedIn, out_word, Shown, Advanced, shown_inv}
use Rattle.words.proofs.Land.{Busy, NoNumber, handed_at, quiet}
use Rattle.words.proofs.Use.{used_below, named_below, in_table, in_use_covers, in_use_length, in_use}
use Rattle.words.proofs.Use.{entries_most}
use Rattle.words.proofs.Steady.{AgreesAfter, act_of, same, acts_by, waits}

-- ---- an operation's key; what a walk and its end were handed
sought_word : (op : Op) → sought op ≡ sought_of (op_word op)
sought_word (upd (insert k v)) = refl
sought_word (upd (remove k)) = refl
sought_word (has k) = refl
sought_word (range low high) = refl

walk_handed : (op : Op) (p q p' q' : ℕ) (l : List Pair) → HandedIn (walking op p q) l → HandedIn (walking op p' q') l
walk_handed (upd u) p q p' q' l r = tt
walk_handed (has k) p q p' q' l r = tt
walk_handed (range low high) p q p' q' l r = r

arrive_handed : (op : Op) (p q : ℕ) (l : List Pair) → HandedIn (walking op p q) l → HandedIn (arrived op p q) l
arrive_handed (upd u) p q l r = tt
arrive_handed (has k) p q l r = tt
arrive_handed (range low high) p q l r = r

arrive_runs : (own : ℕ → List ℕ) (op : Op) (p q : ℕ)
    → Runs own (arrived op p q) (running op (arrived_of (op_word op) p q))
arrive_runs own (upd (insert k v)) p q = refl
arrive_runs own (upd (remove k)) p q = refl
arrive_runs own (has k) p q = refl
arrive_runs own (range low high) p q = refl

-- a row has at most as many entries as are laid
sinks_length : (b : ℕ) (l : List ℕ) → Sinks b l → length l ≤ b
sinks_length b [] s = omega arith
sinks_length b (e ∷ l) s = omega (arith, s.0, sinks_length e l s.1)

module _ (key val : ℕ → ℕ) (σ : State) (h : Past) (m : Drawing) (S : Shown small key val σ h m) (t : ℕ)
    (t<16 : t < 16) (agrees : AgreesAfter key val σ t) where
  abbrev c : Counters
  c = σ.register.counters

  -- ---- a step from record s₀ to record s, which is all that it changes
  quietly : (φ₀ : Phase) → m.phase t ≡ φ₀ → Busy φ₀ → NoNumber φ₀ → (s₀ s : Session) (o : Out) (φ : Phase)
      → record_of σ t ≡ s₀ → act_of σ t s₀ ≡ done σ.nodes σ.entries (same σ t s (out_word o))
      → Step key val empty t m o stays φ → Runs S.own φ s → HandedIn φ (handed_by (out_word o) t h.handed t)
      → Advanced key val σ h m t
  quietly φ₀ here busy other s₀ s o φ is acts step runs handed =
      quiet key val σ h m S t t<16 φ₀ here other busy agrees s (out_word o) o φ
      (acts_by σ t s₀ σ.nodes σ.entries (same σ t s (out_word o)) is acts) step refl runs handed

  -- what the session was handed
  handed_here : (φ : Phase) → m.phase t ≡ φ → HandedIn φ (h.handed t)
  handed_here φ e = handed_at (m.phase t) φ _ _ (sym e) refl (S.tells.handed t)

  fact : (φ : Phase) → m.phase t ≡ φ → Facts key val empty m t φ
  fact φ e = rw e at ((shown_inv S).own.facts t)

  -- ---- the words of a node in use
  module _ (x : ℕ) (below : x < c.nodes) where
    inside : x < small.nodes
    inside = in_table key val σ h m S x below

    key_word : key x ≡ key_at σ.nodes x
    key_word = sym (S.agrees.keyed x below)

    newest_word : as_read (read_newest (shown (m.bundle x)))
        ≡ newest_of small.entries σ.entries (newest_at σ.nodes x)
    newest_word = sym (read_newest_is small.entries σ.entries (shown (m.bundle x)) (S.own x)
        (newest_at σ.nodes x) (S.rows.shows x below))

    short : length (S.own x) ≤ small.entries
    short = omega (
      arith,
      sinks_length c.entries (S.own x) (S.rows.sinks x below),
      entries_most key val σ h m S,
    )

    at_word : (s : ℕ) → as_read (read_at s (shown (m.bundle x)))
        ≡ at_of small.entries σ.entries (newest_at σ.nodes x) s
    at_word s = sym (read_at_is small.entries σ.entries s (shown (m.bundle x)) (S.own x)
        (newest_at σ.nodes x) short (S.rows.shows x below))

  -- ---- Walk
  pub walk_advances : (op : Op) (p q : ℕ) → m.phase t ≡ walking op p q → Advanced key val σ h m t
  walk_advances op p q e = elim (dec_lt (key q) (sought op)) [
    | yes low ↦ quietly (walking op p q) e tt tt (running op (Phase.Phase.Walk p q))
        (running op (Phase.Phase.Walk q (m.plain q))) working (walking op q (m.plain q)) is
        (ap (done σ.nodes σ.entries) (sym (Ways.walk_on small σ.nodes c (op_word op) p q
        (works c (op_word op) (Phase.Phase.Walk q (m.plain q))) (key q) (sought op) (m.plain q) (inside q below)
        (key_word q below) (sought_word op) low (sym (S.nodes.plain q below)) refl)))
        (walk_on op p q e low) refl (walk_handed op p q q (m.plain q) _ (handed_here (walking op p q) e))
    | no high ↦ quietly (walking op p q) e tt tt (running op (Phase.Phase.Walk p q))
        (running op (arrived_of (op_word op) p q)) working (arrived op p q) is
        (ap (done σ.nodes σ.entries) (sym (Ways.walk_arrives small σ.nodes c (op_word op) p q
        (works c (op_word op) (arrived_of (op_word op) p q)) (key q) (sought op) _ (inside q below)
        (key_word q below) (sought_word op) (omega arith) refl refl)))
        (walk_arrive op p q e (omega arith)) (arrive_runs S.own op p q)
        (arrive_handed op p q _ (handed_here (walking op p q) e))
  ]
    where
      below : q < c.nodes
      below = named_below key val σ h m S t (walking op p q) e q (inr refl)

      is : record_of σ t ≡ running op (Phase.Phase.Walk p q)
      is = rw e at (S.runs t t<16)

  -- ---- has's Follow, where its newest entry leads to q
  module _ (k x q : ℕ) (e : m.phase t ≡ seeking k x)
      (answer : read_newest (shown (m.bundle x)) ≡ found (some q)) where
    seek_below : x < c.nodes
    seek_below = named_below key val σ h m S t (seeking k x) e x refl

    seek_to : q < c.nodes
    seek_to = used_below key val σ h m S q (newest_used key val empty m (shown_inv S) t k x q e answer)

    seek_is : (s : Session) (o : Out) → same σ t s (out_word o)
        ≡ Steps.has_sees small σ.nodes c (Op.Op.Has k) x q
        → act_of σ t (running (has k) (Phase.Phase.Newest x)) ≡ done σ.nodes σ.entries (same σ t s (out_word o))
    seek_is s o sees = ap (done σ.nodes σ.entries) (sym (Ways.newest_leads small σ.nodes σ.entries c
        (Op.Op.Has k) x (same σ t s (out_word o)) _ _ (inside x seek_below) refl (newest_word x seek_below) q
        (ap as_read answer) sees))

    seek_quietly : (s : Session) (o : Out) (φ : Phase)
        → same σ t s (out_word o) ≡ Steps.has_sees small σ.nodes c (Op.Op.Has k) x q
        → Step key val empty t m o stays φ → Runs S.own φ s → HandedIn φ (handed_by (out_word o) t h.handed t)
        → Advanced key val σ h m t
    seek_quietly s o φ sees step runs handed =
        quietly (seeking k x) e tt tt (running (has k) (Phase.Phase.Newest x)) s o φ (rw e at (S.runs t t<16))
        (seek_is s o sees) step runs handed

    seek_goes : Advanced key val σ h m t
    seek_goes = elim (dec_lt (key q) k) [
      | yes low ↦ seek_quietly (running (has k) (Phase.Phase.Newest q)) working (seeking k q)
          (Ways.has_on small σ.nodes c (Op.Op.Has k) x q _ (key q) k (inside q seek_to) (key_word q seek_to) refl
          low refl) (seek_on k x q e answer low) refl tt
      | no high ↦ elim (ℕ_discrete (key q) k) [
        | yes here ↦ seek_quietly Steps.idle present idle
            (Ways.has_yes small σ.nodes c (Op.Op.Has k) x q _ (key q) k (inside q seek_to) (key_word q seek_to)
            refl (omega arith) here refl) (seek_present k x q e answer here) refl tt
        | no past ↦ seek_quietly Steps.idle absent idle
            (Ways.has_not small σ.nodes c (Op.Op.Has k) x q _ (key q) k (inside q seek_to) (key_word q seek_to)
            refl (omega arith) past refl) (seek_absent k x q e answer (omega arith)) refl tt
      ]
    ]

  seek_waits : (k x : ℕ) → m.phase t ≡ seeking k x → read_newest (shown (m.bundle x)) ≡ wait
      → Advanced key val σ h m t
  seek_waits k x e pends =
      let below = named_below key val σ h m S t (seeking k x) e x refl in
      waits key val σ h m S t t<16 agrees (seeking k x) e tt (running (has k) (Phase.Phase.Newest x))
      (rw e at (S.runs t t<16)) (rw e pends) (ap (done σ.nodes σ.entries)
      (sym (Ways.newest_waits small σ.nodes σ.entries c (Op.Op.Has k) x _ _ _ (inside x below) refl
      (newest_word x below) (ap as_read pends) refl)))

  pub seek_advances : (k x : ℕ) → m.phase t ≡ seeking k x → Advanced key val σ h m t
  seek_advances k x e = ⊎_elim
      (λ b. let d = newest_found key val empty m (shown_inv S) t x b.0 (fact (seeking k x) e).1 b.1 in
      seek_goes k x d.0 e d.1) (seek_waits k x e) (bundle_cases (m.bundle x))

  -- ---- Fix
  pub fix_advances : (low high p : ℕ) → m.phase t ≡ fixing low high p → Advanced key val σ h m t
  fix_advances low high p e =
      quietly (fixing low high p) e tt tt (running (range low high) (Phase.Phase.Fix p))
      (running (range low high) (Phase.Phase.Follow p (now empty m) 0)) working
      (following low high p (now empty m) []) (rw e at (S.runs t t<16))
      (ap (λ s. done σ.nodes σ.entries (works c (Op.Op.Range low high) (Phase.Phase.Follow p s 0)))
      S.stamp)
      (fix_it low high p e) refl (handed_here (fixing low high p) e)

  -- ---- Follow, where the entry taken leads to q
  module _ (low high x s q : ℕ) (given : List Pair) (e : m.phase t ≡ following low high x s given)
      (answer : read_at s (shown (m.bundle x)) ≡ found (some q)) where
    follow_below : x < c.nodes
    follow_below = named_below key val σ h m S t (following low high x s given) e x refl

    follow_to : q < c.nodes
    follow_to = used_below key val σ h m S q
        (follow_used key val empty m (shown_inv S) t low high x s q given e answer)

    abbrev sees : Stepped
    sees = Steps.range_sees small σ.nodes c (Op.Op.Range low high) x s (length given) q

    follow_is : (a : Session) (o : Out) → same σ t a (out_word o) ≡ sees
        → act_of σ t (running (range low high) (Phase.Phase.Follow x s (length given)))
        ≡ done σ.nodes σ.entries (same σ t a (out_word o))
    follow_is a o saw = ap (done σ.nodes σ.entries) (sym (Ways.follow_leads small σ.nodes σ.entries c
        (Op.Op.Range low high) x s (length given) (same σ t a (out_word o)) _ _ (inside x follow_below) refl
        (at_word x follow_below s) q (ap as_read answer) saw))

    follow_quietly : (a : Session) (o : Out) (φ : Phase) → same σ t a (out_word o) ≡ sees
        → Step key val empty t m o stays φ → Runs S.own φ a
        → HandedIn φ (handed_by (out_word o) t h.handed t) → Advanced key val σ h m t
    follow_quietly a o φ saw step runs handed =
        quietly (following low high x s given) e tt tt
        (running (range low high) (Phase.Phase.Follow x s (length given))) a o φ (rw e at (S.runs t t<16))
        (follow_is a o saw) step runs handed

    follow_goes : Advanced key val σ h m t
    follow_goes = elim (dec_lt (key q) low) [
      | yes under ↦ follow_quietly (running (range low high) (Phase.Phase.Follow q s (length given))) working
          (following low high q s given)
          (Ways.range_on small σ.nodes c (Op.Op.Range low high) x s (length given) q _ (key q) low
          (inside q follow_to) (key_word q follow_to) refl under refl)
          (follow_on low high x s q given e answer under) refl (handed_here (following low high x s given) e)
      | no over ↦ elim (dec_le (key q) high) [
        | yes within ↦ follow_quietly (running (range low high) (Phase.Phase.Hand q s (length given))) working
            (handing low high q s given)
            (Ways.range_in small σ.nodes c (Op.Op.Range low high) x s (length given) q _ (key q) low
            (inside q follow_to) (key_word q follow_to) refl high (omega arith) refl within refl)
            (follow_in low high x s q given e answer (omega arith) within) refl
            (handed_here (following low high x s given) e)
        | no past ↦ follow_quietly Steps.idle (ended s given) idle
            (Ways.range_ends small σ.nodes c (Op.Op.Range low high) x s (length given) q _ (key q) low
            (inside q follow_to) (key_word q follow_to) refl high (omega arith) refl (omega arith) refl)
            (follow_end low high x s q given e answer (omega arith) (omega arith)) refl tt
      ]
    ]

  follow_waits : (low high x s : ℕ) (given : List Pair) → m.phase t ≡ following low high x s given
      → read_at s (shown (m.bundle x)) ≡ wait → Advanced key val σ h m t
  follow_waits low high x s given e pends =
      let below = named_below key val σ h m S t (following low high x s given) e x refl in
      waits key val σ h m S t t<16 agrees (following low high x s given) e tt
      (running (range low high) (Phase.Phase.Follow x s (length given))) (rw e at (S.runs t t<16)) (rw e pends)
      (ap (done σ.nodes σ.entries) (sym (Ways.follow_waits small σ.nodes σ.entries c
      (Op.Op.Range low high) x s (length given) _ _ _ (inside x below) refl (at_word x below s) (ap as_read pends)
      refl)))

  pub follow_advances : (low high x s : ℕ) (given : List Pair) → m.phase t ≡ following low high x s given
      → Advanced key val σ h m t
  follow_advances low high x s given e = ⊎_elim (follow_waits low high x s given e)
      (λ d. follow_goes low high x s d.0 given e d.1)
      (follow_finds key val empty m (shown_inv S) t low high x s given e)

  -- ---- Hand
  module _ (low high x s : ℕ) (given : List Pair) (e : m.phase t ≡ handing low high x s given) where
    hand_below : x < c.nodes
    hand_below = named_below key val σ h m S t (handing low high x s given) e x refl

    few : length given < small.keys
    few = omega (
      arith,
      hand_room key val empty m (shown_inv S) (in_use key val σ h m S) (in_use_covers key val σ h m S) t low high x s
          given e,
      in_use_length key val σ h m S,
      S.most,
    )

    one_more : length given + 1 ≡ length (given ++ (entry key val x ∷ []))
    one_more = sym (length-append given (entry key val x ∷ []))

    hand_handed : at h.handed t (h.handed t ++ ((key x, val x) ∷ [])) t ≡ given ++ (entry key val x ∷ [])
    hand_handed = at_same h.handed t _
        ∙ ap (λ l. l ++ (entry key val x ∷ [])) (handed_here (handing low high x s given) e)

    pub hand_advances : Advanced key val σ h m t
    hand_advances =
        quietly (handing low high x s given) e tt tt
        (running (range low high) (Phase.Phase.Hand x s (length given)))
        (running (range low high) (Phase.Phase.Follow x s (length given + 1))) (key_value (key x) (val x))
        (following low high x s (given ++ (entry key val x ∷ []))) (rw e at (S.runs t t<16))
        (ap (done σ.nodes σ.entries) (sym (Ways.hands small σ.nodes c (Op.Op.Range low high) x s
        (length given) _ (key x) (val x) (inside x hand_below) few (key_word x hand_below)
        (sym (S.agrees.valued x hand_below)) refl)))
        (hand_out low high x s given e)
        (ap (λ n. running (range low high) (Phase.Phase.Follow x s n)) one_more) hand_handed
