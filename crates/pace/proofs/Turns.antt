-- What one call does to a range that is open: where it stands, the nodes given, and what it is owed.
-- In order: what an open range is not; a call that is no counted step; a step of another; the reader's own waits; its
-- own steps; all of them.
-- Assumes nothing.
use mathlib.Core.Path.{◌≡◌, refl, sym, ◌∙◌, ap, subst}
use mathlib.Core.Logic.{◌⊎◌, inl, inr, ⊎_elim, ◌≢◌}
use mathlib.Core.Option.{Option, none, some}
use mathlib.Core.List.{List, [], ◌∷◌, ◌++◌, Memᴰ}
use Prim.Native.Nat.{ℕ, ◌-◌, ◌≤◌, ◌<◌}
use native.Mathlib.Omega.{arith}
use Rattle.order.specs.Set.{Pair, Update, insert, remove}
use Rattle.order.specs.Rows.{found, read_at}
use Rattle.order.specs.History.{head, tail, next, Log, Removed, Start, up_to, Given, entry, Chain, members, Snap}
use Rattle.order.proofs.Rows.{some_same}
use Rattle.order.proofs.Keeps.{up_to_all, divided}
use Rattle.order.proofs.Frame.{members_given, given_first}
use Rattle.drawing.specs.Phases.{Op, upd, has, range, sought, Phase, idle, walking, locking, locking_curr, checking}
use Rattle.drawing.specs.Phases.{preparing, numbering, linking, finishing, seeking, fixing, following, handing}
use Rattle.drawing.specs.Phases.{arrived, task}
use Rattle.drawing.specs.Drawing.{change, shown, Drawing, now}
use Rattle.drawing.specs.Effects.{Effect, stays, holds, leaves, lays, numbers, links, finishes, after}
use Rattle.drawing.specs.Effects.{gave_to, given_by}
use Rattle.drawing.specs.Steps.{Out, starts, Step}
use Rattle.drawing.specs.Steps.{walk_on, walk_arrive, lock_pred, lock_curr, check_again, check_present}
use Rattle.drawing.specs.Steps.{check_absent, check_pass, prepare_full, prepare_insert, prepare_remove}
use Rattle.drawing.specs.Steps.{number_it, link_it, finish_it, seek_on, seek_present, seek_absent, fix_it}
use Rattle.drawing.specs.Steps.{follow_on, follow_in, follow_end, hand_out}
use Rattle.drawing.proofs.Change.{change_cases, change_same, change_other}
use Rattle.drawing.proofs.Ahead.{ahead_on, InSet, Fixed, fixed}
use Rattle.drawing.proofs.Inv.{On, Facts, Inv}
use Rattle.drawing.proofs.Keeps.{high_bound, read_right, step_grants}
use Rattle.drawing.proofs.Room.{Covers, on_used, given_covered}
use Rattle.fairness.specs.Reader
use Rattle.fairness.specs.Reader.{Stage, Moves, moves, arrives, skips, finds, hands, Fixes, behind, by_head}
use Rattle.pace.specs.Turns.{HeldUp, Turn, refused, starting, waiting, stepping, Open, Busy}
use Rattle.pace.proofs.Stage.{ahead_unique, stage_in, stage_of, stage_kept, stage_in_lem, debt, owing}
use Rattle.pace.proofs.Debt.{Falls, paid, walking_paid, step_falls, debt_no_wait, wait_owed, owing_falls}
use Rattle.pace.proofs.Debt.{owing_debt}

-- ---- what an open range is not
pub none_some : {P : Type 0} {A : Type 0} {a : A} → none ≡ some a → P
none_some e = let z : ◌≡◌ {A = ℕ} 0 1 = cc in absurd (omega arith)

pub not_update : {P : Type 0} {u : Update} {low high : ℕ} → some (upd u) ≡ some (range low high) → P
not_update e = let z : ◌≡◌ {A = ℕ} 0 1 = cc in absurd (omega arith)

pub not_has : {P : Type 0} {k low high : ℕ} → some (has k) ≡ some (range low high) → P
not_has e = let z : ◌≡◌ {A = ℕ} 0 1 = cc in absurd (omega arith)

same_op : {op op' : Op} → some op ≡ some op' → op ≡ op'
same_op e = cc

same_low : {low high low' high' : ℕ} → some (range low high) ≡ some (range low' high') → low ≡ low'
same_low e = cc

-- a step of another may give one node
pub data Gave (given given' : List ℕ) : Type 0 where
  gave_none : given' ≡ given → Gave given given'
  gave_one : (x : ℕ) → given' ≡ x ∷ given → Gave given given'

gave_to_lem : (u : Update) (y : ℕ) (given : List ℕ) → Gave given (gave_to u y given)
gave_to_lem (insert k v) y given = gave_one y refl
gave_to_lem (remove k) y given = gave_none refl

gave_by : (f : Effect) (given : List ℕ) → Gave given (given_by f given)
gave_by stays given = gave_none refl
gave_by (holds x) given = gave_none refl
gave_by leaves given = gave_none refl
gave_by (lays u p y z r r₂) given = gave_to_lem u y given
gave_by (numbers u p y z) given = gave_none refl
gave_by (links u p y z) given = gave_none refl
gave_by (finishes u p y z n r r₂) given = gave_none refl

module _ (key val : ℕ → ℕ) (start : Start) (zeroth : key head ≡ 0) (q low high : ℕ) where
  -- what session `i` owes the reader
  abbrev pub owes_in : Drawing → ℕ → ℕ
  owes_in m i = owing (m.phase q) (m.phase i)

  -- a turn of the reader's own
  pub data OwnTurn (given : List ℕ) (s t : Stage ℕ) (given' : List ℕ) (owes owes' : ℕ → ℕ) : Type 0 where
    own_move : (s₀ t₀ : Stage ℕ) → s ≡ s₀ → t ≡ t₀ → Moves key low given s₀ t₀ → given' ≡ given →
        ((i : ℕ) → owes' i ≤ owes i) → OwnTurn given s t given' owes owes'
    own_fix : (s₀ t₀ : Stage ℕ) → s ≡ s₀ → t ≡ t₀ → Fixes key low given s₀ t₀ → given' ≡ given →
        OwnTurn given s t given' owes owes'
    own_wait : t ≡ s → given' ≡ given → ((i : ℕ) → owes' i ≤ owes i) → (i : ℕ) → 0 < owes i →
        OwnTurn given s t given' owes owes'

  module _ (m : Drawing) (I : Inv key val start m) (given : List ℕ) (C : Covers given m)
      (is_open : Open q low high m) where
    abbrev here : Stage ℕ
    here = stage_of key val start m I q

    pub open_busy : Busy m q
    open_busy e = none_some (sym (ap task e) ∙ is_open)

    -- ---- one session's phase changes, not the reader's
    module _ (t : ℕ) (φ : Phase) (q≢t : q ≢ t) (falls : (s : ℕ) → s ≤ now start m → Falls s (m.phase t) φ) where
      abbrev lowers : (owing (m.phase q) φ ≤ owing (m.phase q) (m.phase t))
          × (0 < owing (m.phase q) (m.phase t) → owing (m.phase q) φ < owing (m.phase q) (m.phase t))
      lowers = owing_falls key val start m I q (m.phase q) (m.phase t) φ (I.own.facts q) falls

      others_owe : (i : ℕ) → owing (change m.phase t φ q) (change m.phase t φ i) ≤ owes_in m i
      others_owe i = rw (change_other m.phase t φ q q≢t)
          (change_cases (λ ψ. owing (m.phase q) ψ ≤ owes_in m i) m.phase t φ i
          (λ i≡t. rw i≡t lowers.0) (λ _. omega arith))

      its_own : 0 < owes_in m t → owing (change m.phase t φ q) (change m.phase t φ t) < owes_in m t
      its_own h = rw (change_other m.phase t φ q q≢t, change_same m.phase t φ) (lowers.1 h)

    -- ---- A CALL THAT IS NO COUNTED STEP
    pub quiet_turn : {o : Option ℕ} {m' : Drawing} {given' : List ℕ} → Turn key val start m given o m' given' →
        (I' : Inv key val start m') → o ≡ none →
        (stage_of key val start m' I' q ≡ here) × (given' ≡ given) × ((i : ℕ) → owes_in m' i ≤ owes_in m i)
    quiet_turn refused I' e = (stage_kept key val start m m (λ s _. refl) q I I' refl, refl, λ i. omega arith)
    quiet_turn (starting t (starts op e f)) I' _ =
        let q≢t : q ≢ t = λ z. open_busy (ap m.phase z ∙ e) in
        let φ = walking op head (m.plain head) in (
          stage_kept key val start m _ (λ s _. refl) q I I' (change_other m.phase t φ q q≢t),
          refl,
          others_owe t φ q≢t (λ s _. paid s (m.phase t) φ (walking_paid s op head (m.plain head))),
        )
    quiet_turn (waiting t w) I' e = none_some (sym e)
    quiet_turn (stepping t s) I' e = none_some (sym e)

    -- ---- A STEP OF ANOTHER
    -- who owes does not wait
    owes_no_wait : (i : ℕ) → 0 < owes_in m i → ¬ HeldUp i m (m.phase i)
    owes_no_wait i h w =
        let d = owing_debt (m.phase q) (m.phase i) h in debt_no_wait i m d.0 (m.phase i) d.1 w

    other_step : (t : ℕ) {o : Out} {f : Effect} {φ : Phase} → Step key val start t m o f φ → q ≢ t →
        (I' : Inv key val start (after start m t f φ)) →
        (stage_of key val start (after start m t f φ) I' q ≡ here) × Gave given (given_by f given)
        × ((j : ℕ) → owes_in (after start m t f φ) j ≤ owes_in m j)
        × (0 < owes_in m t → owes_in (after start m t f φ) t < owes_in m t)
    other_step t {f = f} {φ = φ} s q≢t I' =
        let G = step_grants key val start m I t s in (
          stage_kept key val start m _ (λ n h. ((G.others q q≢t).past n h).0) q I I' (G.apart q q≢t).phase,
          gave_by f given,
          others_owe t φ q≢t (step_falls key val start m t s),
          its_own t φ q≢t (step_falls key val start m t s),
        )

    pub other_turn : {o : Option ℕ} {m' : Drawing} {given' : List ℕ} → Turn key val start m given o m' given' →
        (I' : Inv key val start m') → (i : ℕ) → o ≡ some i → i ≢ q →
        (stage_of key val start m' I' q ≡ here) × Gave given given' × ((j : ℕ) → owes_in m' j ≤ owes_in m j)
        × (0 < owes_in m i → owes_in m' i < owes_in m i)
    other_turn refused I' i e i≢q = none_some e
    other_turn (starting t s) I' i e i≢q = none_some e
    other_turn (waiting t w) I' i e i≢q = (
      stage_kept key val start m m (λ s _. refl) q I I' refl,
      gave_none refl,
      λ j. omega arith,
      λ h. absurd (owes_no_wait i h (rw (some_same refl e) at w)),
    )
    other_turn (stepping t {f = f} {φ = φ} s) I' i e i≢q =
        let t≡i : t ≡ i = some_same refl e in
        let r = other_step t s (λ z. i≢q (sym t≡i ∙ sym z)) I' in
        let pays = subst (λ j. 0 < owes_in m j → owes_in (after start m t f φ) j < owes_in m j) t≡i r.3 in
        (r.0, r.1, r.2, pays)

    -- ---- the reader waits: for a session that owes it
    waits_for : (φ : Phase) → task φ ≡ some (range low high) → HeldUp q m φ → (i : ℕ) × (0 < owing φ (m.phase i))
    unfolding owing
    waits_for idle e w = absurd w
    waits_for (walking op p c) e w = absurd w
    waits_for (locking u p c) e w = not_update e
    waits_for (locking_curr k p c) e w = not_update e
    waits_for (checking u p c) e w = absurd w
    waits_for (preparing u p c) e w = not_update e
    waits_for (numbering u p y z c) e w = absurd w
    waits_for (linking u p y z c n) e w = absurd w
    waits_for (finishing u p y z c n) e w = absurd w
    waits_for (seeking k x) e w = not_has e
    waits_for (fixing l h p) e w = absurd w
    waits_for (following l h x s handed) e w = wait_owed key val start m I s x w
    waits_for (handing l h x s handed) e w = absurd w

    -- ---- the reader's own steps
    its : (φ : Phase) → m.phase q ≡ φ → Facts key val start m q φ
    its φ e = rw e at (I.own.facts q)

    -- a phase in which nothing is owed; a phase at the same snapshot
    none_owed : (φ : Phase) → ((χ : Phase) → owing φ χ ≡ 0) →
        (i : ℕ) → owing (change m.phase q φ q) (change m.phase q φ i) ≤ owes_in m i
    none_owed φ zero i = rw (change_same m.phase q φ) (omega (arith, zero (change m.phase q φ i)))

    same_owed : (s : ℕ) (ψ φ : Phase) → m.phase q ≡ ψ → ((χ : Phase) → owing ψ χ ≡ debt s χ) →
        ((χ : Phase) → owing φ χ ≡ debt s χ) → debt s φ ≡ 0 →
        (i : ℕ) → owing (change m.phase q φ q) (change m.phase q φ i) ≤ owes_in m i
    same_owed s ψ φ e before now_owed nothing i =
        let was : owes_in m i ≡ debt s (m.phase i) = ap (λ χ. owing χ (m.phase i)) e ∙ before (m.phase i) in
        rw (change_same m.phase q φ, now_owed (change m.phase q φ i), was)
        (change_cases (λ χ. debt s χ ≤ debt s (m.phase i)) m.phase q φ i
        (λ _. omega (arith, nothing)) (λ _. omega arith))

    -- a node with a key below the tail's and above the head's is among those given
    among : (x : ℕ) → On start m x → 0 < key x → Memᴰ x given
    among x on 0<x = C x (λ z. omega (arith, ap key z, zeroth)) (on_used key val start m I x on)

    abbrev Stayed : Phase → Inv key val start m → Type 0
    Stayed φ J = (I' : Inv key val start (after start m q stays φ)) →
        OwnTurn given here (stage_of key val start (after start m q stays φ) I' q) given
        (owes_in m) (owes_in (after start m q stays φ))

    -- the facts of the phase after it
    its_after : (φ : Phase) → Inv key val start (after start m q stays φ) →
        Facts key val start (after start m q stays φ) q φ
    its_after φ I' = rw (change_same m.phase q φ) at (I'.own.facts q)

    after_in : (φ : Phase) (I' : Inv key val start (after start m q stays φ)) →
        stage_of key val start (after start m q stays φ) I' q
        ≡ stage_in key val start (after start m q stays φ) q φ (its_after φ I')
    after_in φ I' = stage_in_lem key val start _ I' q φ (change_same m.phase q φ) (its_after φ I')

    here_in : (φ : Phase) (e : m.phase q ≡ φ) → here ≡ stage_in key val start m q φ (its φ e)
    here_in φ e = stage_in_lem key val start m I q φ e (its φ e)

    walk_turn : (op : Op) (p c : ℕ) → m.phase q ≡ walking op p c → key c < sought op →
        Stayed (walking op c (m.plain c)) I
    unfolding owing
    walk_turn op p c e c<sought I' =
        let F = its (walking op p c) e in
        let op≡ : op ≡ range low high = same_op (sym (ap task e) ∙ is_open) in
        let c<low : key c < low = omega (arith, ap sought op≡) in
        let on : On start m c = ⊎_elim (λ a. a)
        (λ z. absurd (omega (arith, ap key z, high_bound key val op F.0))) F.1.curr_at in
        own_move (Reader.walking (key p) 0) (Reader.walking (key c) 0)
        (here_in (walking op p c) e) (after_in (walking op c (m.plain c)) I')
        (moves c (among c on (omega (arith, F.1.rise))) F.1.rise c<low) refl
        (none_owed (walking op c (m.plain c)) (λ _. refl))

    arrive_turn : (op : Op) (p c : ℕ) → m.phase q ≡ walking op p c → Stayed (arrived op p c) I
    unfolding owing
    arrive_turn (upd u) p c e I' = not_update (sym (ap task e) ∙ is_open)
    arrive_turn (has k) p c e I' = not_has (sym (ap task e) ∙ is_open)
    arrive_turn (range l h) p c e I' =
        own_move (Reader.walking (key p) 0) Reader.arrived
        (here_in (walking (range l h) p c) e) (after_in (fixing l h p) I') arrives refl
        (none_owed (fixing l h p) (λ _. refl))

    -- Fix: what lies ahead is what the history says
    module _ (l h p : ℕ) (e : m.phase q ≡ fixing l h p) where
      abbrev log : Log
      log = up_to start (now start m) m.log

      abbrev f : ℕ → Option ℕ
      f = next m.rows (now start m)

      abbrev snap : Snap key start f log
      snap = I.hist.snap (now start m) (omega arith) (omega arith)

      abbrev F : Facts key val start m q (fixing l h p)
      F = its (fixing l h p) e

      on_now : (p ≡ head) ⊎ Given start p log
      on_now = rw (up_to_all start (now start m) m.log (omega arith)) F.1

      abbrev S : Fixed key val start f log snap l h F.0.0 F.0.1 F.0.2 p
      S = fixed key val start f log snap l h F.0.0 F.0.1 F.0.2 p on_now F.2

      abbrev φ : Phase
      φ = following l h p (now start m) []

      fixed_stage : (I' : Inv key val start (after start m q stays φ)) →
          stage_of key val start (after start m q stays φ) I' q ≡ Reader.following S.ahead
      fixed_stage I' = after_in φ I' ∙ ap Reader.following
          (ahead_unique key f h p (its_after φ I').ahead S.ahead (its_after φ I').reads S.reads)

      member_given : (x : ℕ) → Memᴰ x (members key start log) → Memᴰ x given
      member_given x k = given_covered key val start m I given C x
          (given_first start x (now start m - start.base) m.log (members_given key start x log k))

      -- a removed node leads to the head, so it is not in the set, and not the head
      removed_out : Removed p log → ¬ Memᴰ p (head ∷ members key start log)
      removed_out r k = let a = divided key start f log snap p k in go a.back a.behind
        where
          go : (B : List ℕ) → Chain key f p (B ++ (tail ∷ [])) → ⊥
          go [] c = omega (arith, ap key (some_same c.0 (snap.gone p r)), c.1, zeroth)
          go (n ∷ B) c = omega (arith, ap key (some_same c.0 (snap.gone p r)), c.1, zeroth)

      fixes_kind : (ns : List ℕ) → InSet key val start f log snap l h F.0.0 F.0.1 F.0.2 ns
          ⊎ ((ms : List ℕ) × (ns ≡ head ∷ ms) × Removed p log
          × InSet key val start f log snap l h F.0.0 F.0.1 F.0.2 ms) →
          l ≡ low → Fixes key low given Reader.arrived (Reader.following ns)
      fixes_kind ns (inl k) l≡ = behind k.0 (λ x a. member_given x (k.1 x a))
      fixes_kind ns (inr (ms, ns≡, removed, k)) l≡ =
          let out = removed_out removed in
          let p_given : Memᴰ p given = ⊎_elim (λ z. absurd (out (mathlib.Core.List.Memᴰ.head z)))
          (λ g. given_covered key val start m I given C p
          (given_first start p (now start m - start.base) m.log g)) on_now in
          rw ns≡ (by_head head p (omega (arith, F.0.0)) (omega (arith, F.2))
          (λ a. out (mathlib.Core.List.Memᴰ.tail (k.1 p a)), k.0)
          (λ x a. ⊎_elim (λ z. rw z p_given) (λ b. member_given x (k.1 x b)) (mathlib.Core.List.Memᴰ.cases_cons a)))

      fix_turn : Stayed (following l h p (now start m) []) I
      fix_turn I' = own_fix Reader.arrived (Reader.following S.ahead)
          (here_in (fixing l h p) e) (fixed_stage I')
          (fixes_kind S.ahead S.kind (same_low (sym (ap task e) ∙ is_open))) refl

    -- Follow and Hand: one node less, or none
    on_turn : (l h x s c : ℕ) (handed : List Pair) → m.phase q ≡ following l h x s handed →
        read_at s (shown (m.bundle x)) ≡ found (some c) → key c < l → Stayed (following l h c s handed) I
    unfolding owing debt
    on_turn l h x s c handed e answer c<l I' =
        let F = its (following l h x s handed) e in
        let F' = its_after (following l h c s handed) I' in
        let a = ahead_on key (next m.rows s) h x c F.ahead
        (read_right key val start m I s x (some c) answer) (omega (arith, F.fine.1)) F.reads in
        own_move (Reader.following (c ∷ a.0)) (Reader.following a.0)
        (here_in (following l h x s handed) e ∙ ap Reader.following a.1)
        (after_in (following l h c s handed) I' ∙ ap Reader.following
        (ahead_unique key (next m.rows s) h c F'.ahead a.0 F'.reads a.2))
        (skips c (omega (arith, same_low (sym (ap task e) ∙ is_open)))) refl
        (same_owed s (following l h x s handed) (following l h c s handed) e (λ _. refl) (λ _. refl) refl)

    in_turn : (l h x s c : ℕ) (handed : List Pair) → m.phase q ≡ following l h x s handed →
        read_at s (shown (m.bundle x)) ≡ found (some c) → l ≤ key c → key c ≤ h → Stayed (handing l h c s handed) I
    unfolding owing debt
    in_turn l h x s c handed e answer l≤c c≤h I' =
        let F = its (following l h x s handed) e in
        let F' = its_after (handing l h c s handed) I' in
        let a = ahead_on key (next m.rows s) h x c F.ahead
        (read_right key val start m I s x (some c) answer) c≤h F.reads in
        own_move (Reader.following (c ∷ a.0)) (Reader.handing a.0)
        (here_in (following l h x s handed) e ∙ ap Reader.following a.1)
        (after_in (handing l h c s handed) I' ∙ ap Reader.handing
        (ahead_unique key (next m.rows s) h c F'.2.ahead a.0 F'.2.reads a.2))
        (finds c (omega (arith, same_low (sym (ap task e) ∙ is_open)))) refl
        (same_owed s (following l h x s handed) (handing l h c s handed) e (λ _. refl) (λ _. refl) refl)

    hand_turn : (l h x s : ℕ) (handed : List Pair) → m.phase q ≡ handing l h x s handed →
        Stayed (following l h x s (handed ++ (entry key val x ∷ []))) I
    unfolding owing debt
    hand_turn l h x s handed e I' =
        let φ = following l h x s (handed ++ (entry key val x ∷ [])) in
        let F = its (handing l h x s handed) e in
        let F' = its_after φ I' in
        own_move (Reader.handing F.2.ahead) (Reader.following F.2.ahead)
        (here_in (handing l h x s handed) e)
        (after_in φ I' ∙ ap Reader.following
        (ahead_unique key (next m.rows s) h x F'.ahead F.2.ahead F'.reads F.2.reads))
        hands refl
        (same_owed s (handing l h x s handed) φ e (λ _. refl) (λ _. refl) refl)

    own_step : {o : Out} {f : Effect} {φ : Phase} → Step key val start q m o f φ →
        (I' : Inv key val start (after start m q f φ)) → Open q low high (after start m q f φ) →
        OwnTurn given here (stage_of key val start (after start m q f φ) I' q) (given_by f given)
        (owes_in m) (owes_in (after start m q f φ))
    own_step (walk_on op p c e h) I' _ = walk_turn op p c e h I'
    own_step (walk_arrive op p c e h) I' _ = arrive_turn op p c e I'
    own_step (lock_pred u p c e l) I' _ = not_update (sym (ap task e) ∙ is_open)
    own_step (lock_curr k p c e l) I' _ = not_update (sym (ap task e) ∙ is_open)
    own_step (check_again u p c e s) I' _ = not_update (sym (ap task e) ∙ is_open)
    own_step (check_present k v p c e g h) I' _ = not_update (sym (ap task e) ∙ is_open)
    own_step (check_absent k p c e g h) I' _ = not_update (sym (ap task e) ∙ is_open)
    own_step (check_pass u p c e g h) I' _ = not_update (sym (ap task e) ∙ is_open)
    own_step (prepare_full k v p c r e b) I' _ = not_update (sym (ap task e) ∙ is_open)
    own_step (prepare_insert k v p c r n e bp bn n≢tail nk nv) I' _ = not_update (sym (ap task e) ∙ is_open)
    own_step (prepare_remove k p c r r₂ e bp bq) I' _ = not_update (sym (ap task e) ∙ is_open)
    own_step (number_it u p y z c e) I' _ = not_update (sym (ap task e) ∙ is_open)
    own_step (link_it u p y z c n e) I' _ = not_update (sym (ap task e) ∙ is_open)
    own_step (finish_it u p y z c n r r₂ e bp by) I' _ = not_update (sym (ap task e) ∙ is_open)
    own_step (seek_on k x c e answer h) I' _ = not_has (sym (ap task e) ∙ is_open)
    own_step (seek_present k x c e answer h) I' _ = not_has (sym (ap task e) ∙ is_open)
    own_step (seek_absent k x c e answer h) I' _ = not_has (sym (ap task e) ∙ is_open)
    own_step (fix_it l h p e) I' _ = fix_turn l h p e I'
    own_step (follow_on l h x s c handed e answer k) I' _ = on_turn l h x s c handed e answer k I'
    own_step (follow_in l h x s c handed e answer k j) I' _ = in_turn l h x s c handed e answer k j I'
    own_step (follow_end l h x s c handed e answer k j) I' still =
        none_some (sym (ap task (change_same m.phase q idle)) ∙ still)
    own_step (hand_out l h x s handed e) I' _ = hand_turn l h x s handed e I'

    -- ---- A STEP OF THE READER'S OWN
    pub own_turn : {o : Option ℕ} {m' : Drawing} {given' : List ℕ} → Turn key val start m given o m' given' →
        (I' : Inv key val start m') → o ≡ some q → Open q low high m' →
        OwnTurn given here (stage_of key val start m' I' q) given' (owes_in m) (owes_in m')
    own_turn refused I' e still = none_some e
    own_turn (starting t s) I' e still = none_some e
    own_turn (waiting t w) I' e still =
        let w' : HeldUp q m (m.phase q) = rw (some_same refl e) at w in
        let d = waits_for (m.phase q) is_open w' in
        own_wait (stage_kept key val start m m (λ s _. refl) q I I' refl) refl (λ i. omega arith) d.0 d.1
    own_turn (stepping t {o = a} {f = f} {φ = φ} s) I' e still = subst
        (λ w. Step key val start w m a f φ → (J : Inv key val start (after start m w f φ)) →
        Open q low high (after start m w f φ) →
        OwnTurn given here (stage_of key val start (after start m w f φ) J q) (given_by f given)
        (owes_in m) (owes_in (after start m w f φ)))
        (sym (some_same refl e)) own_step s I' still
