-- What refutes Damaged: the nodes that phases name are in use, links lead to nodes in use, and numbers stay in bounds.
-- In order: counting lists without repetition; nodes in use; the nodes that a phase names; where links lead; keys
-- handed out; the length of the log.
-- `all` are the nodes in use, the head and the tail left out. Not here: numbers of entries (Laid). Assumes nothing.
use mathlib.Core.Path.{◌≡◌, refl, sym, ap, subst}
use mathlib.Core.Logic.{◌⊎◌, inl, inr, ⊎_elim, ⊎_map, ◌≢◌}
use mathlib.Core.Option.{Option, some}
use mathlib.Core.List.Memᴰ
use mathlib.Core.List.{List, [], ◌∷◌, ◌++◌, map, Memᴰ}
use Prim.Native.Nat.{ℕ, suc, ◌+◌, ◌-◌, ◌*◌, ◌≤◌, ◌<◌}
use native.Mathlib.Decide.{dec_lt}
use native.Mathlib.Omega.{arith}
use lib.ListN.{length, length-append, length-map}
use Rattle.order.specs.Set.{Pair, key_of, within, Update}
use Rattle.order.specs.Rows.{Row, found, read_at, read_newest}
use Rattle.order.specs.History.{head, tail, ins, rem, Log, Removed, Start, up_to, Given, entry, set_of}
use Rattle.order.specs.History.{Chain, members, Snap}
use Rattle.order.proofs.Tests.{ltb_cases, leb_cases}
use Rattle.order.proofs.Rows.{some_same}
use Rattle.order.proofs.Chains.{chain_split, above_start}
use Rattle.order.proofs.Steps.{given_more}
use Rattle.order.proofs.Keeps.{current}
use Rattle.order.proofs.Reading.{set_is_members}
use Rattle.order.proofs.Frame.{members_given, given_first}
use Rattle.order.proofs.Near.{row_given}
use Rattle.drawing.specs.Phases.{Phase, idle, walking, locking, locking_curr, checking, preparing, numbering}
use Rattle.drawing.specs.Phases.{linking, finishing, seeking, fixing, following, handing}
use Rattle.drawing.specs.Drawing.{final, pending, shown, Drawing, now}
use Rattle.drawing.specs.Effects.{numbers, after}
use Rattle.drawing.specs.Steps.{number_it}
use Rattle.drawing.proofs.Change.{final_pending}
use Rattle.drawing.proofs.Ahead.{Distinct, chain_distinct}
use Rattle.drawing.proofs.Inv.{On, At, Once, Facts, Inv}
use Rattle.drawing.proofs.Keeps.{read_right, newest_right, past_target, now_target}
use Rattle.drawing.proofs.Shape.{stepped_inv}

-- ---- counting
split : {A : Type 0} (x : A) (l : List A) → Memᴰ x l → (a : List A) × (b : List A) × (l ≡ a ++ (x ∷ b))
split x [] m = absurd (Memᴰ.not-nil m)
split x (y ∷ l) m = ⊎_elim (λ e. ([], l, ap (λ z. z ∷ l) (sym e)))
    (λ n. let s = split x l n in (y ∷ s.0, s.1, ap (λ z. y ∷ z) s.2)) (Memᴰ.cases_cons m)

-- a list without repetition is no longer than one that has all its elements
pub distinct_length : {A : Type 0} (ns l : List A) → Distinct ns → ((x : A) → Memᴰ x ns → Memᴰ x l) →
    length ns ≤ length l
distinct_length [] l d h = omega arith
distinct_length {A} (x ∷ ns) l d h =
    let s = split x l (h x (Memᴰ.head refl)) in
    let rest : (y : A) → Memᴰ y ns → Memᴰ y (s.0 ++ s.1) = λ y m. ⊎_elim
    (λ a. Memᴰ.append_left s.1 a)
    (λ b. ⊎_elim (λ e. absurd (d.0 (subst (λ (z : A). Memᴰ z ns) e m)))
    (λ c. Memᴰ.append_right s.0 c) (Memᴰ.cases_cons b))
    (Memᴰ.append_cases s.0 (subst (Memᴰ y) s.2 (h y (Memᴰ.tail m)))) in
    omega (
      arith,
      ap length s.2,
      length-append s.0 (x ∷ s.1),
      length-append s.0 s.1,
      distinct_length ns (s.0 ++ s.1) d.1 rest,
    )

within_length : {A : Type 0} (key : A → ℕ) (low high : ℕ) (l : List A) → length (within key low high l) ≤ length l
unfolding within
within_length key low high [] = omega arith
within_length {A} key low high (y ∷ l) =
    let Short : List A → Type 0 = λ r. length r ≤ suc (length l) in
    let shorter = within_length key low high l in
    ltb_cases Short (key y) low _ _ (λ _. omega (arith, shorter))
    (λ _. leb_cases Short (key y) high _ _ (λ _. omega (arith, shorter)) (λ _. omega (arith, shorter)))

-- ---- nodes in use: with an entry, or the tail
abbrev pub Used : Drawing → ℕ → Type 0
Used m x = (m.bundle x ≢ final []) ⊎ (x ≡ tail)

-- where no node from `n` on has an entry, the nodes in use are below `n`
pub used_below : (m : Drawing) (n : ℕ) → 2 ≤ n → ((x : ℕ) → n ≤ x → m.bundle x ≡ final []) →
    (x : ℕ) → Used m x → x < n
used_below m n 2≤n beyond x (inl used) = elim (dec_lt x n) [
  | yes x<n ↦ x<n
  | no x≮n ↦ absurd (used (beyond x (omega arith)))
]
used_below m n 2≤n beyond x (inr x≡tail) = omega (arith, x≡tail)

-- `all` has every node in use, but for the head and the tail
abbrev pub Covers : List ℕ → Drawing → Type 0
Covers all m = (x : ℕ) → x ≢ head → m.bundle x ≢ final [] → Memᴰ x all

-- ---- the nodes that a phase names
abbrev pub Names : Phase → ℕ → Type 0
Names idle x = ⊥
Names (walking op p q) x = (x ≡ p) ⊎ (x ≡ q)
Names (locking u p q) x = (x ≡ p) ⊎ (x ≡ q)
Names (locking_curr k p q) x = (x ≡ p) ⊎ (x ≡ q)
Names (checking u p q) x = (x ≡ p) ⊎ (x ≡ q)
Names (preparing u p q) x = (x ≡ p) ⊎ (x ≡ q)
Names (numbering u p y z c) x = (x ≡ p) ⊎ (x ≡ y)
Names (linking u p y z c n) x = (x ≡ p) ⊎ (x ≡ y)
Names (finishing u p y z c n) x = (x ≡ p) ⊎ (x ≡ y)
Names (seeking k y) x = x ≡ y
Names (fixing low high p) x = x ≡ p
Names (following low high y s handed) x = x ≡ y
Names (handing low high y s handed) x = x ≡ y

-- ---- the log's inserts and removes, by their nodes
abbrev inserts : Log → List ℕ
inserts [] = []
inserts (ins x ∷ log) = x ∷ inserts log
inserts (rem x ∷ log) = inserts log

abbrev removes : Log → List ℕ
removes [] = []
removes (ins x ∷ log) = removes log
removes (rem x ∷ log) = x ∷ removes log

log_length : (log : Log) → length log ≡ length (inserts log) + length (removes log)
log_length [] = omega arith
log_length (ins x ∷ log) = omega (arith, log_length log)
log_length (rem x ∷ log) = omega (arith, log_length log)

module _ (start : Start) where
  inserts_given : (x : ℕ) (log : Log) → Memᴰ x (inserts log) → Given start x log
  inserts_given x [] m = absurd (Memᴰ.not-nil m)
  inserts_given x (ins y ∷ log) m = ⊎_elim (λ e. inr (Memᴰ.head (ap ins e)))
      (λ k. given_more start x y log (ins y) (inserts_given x log k)) (Memᴰ.cases_cons m)
  inserts_given x (rem y ∷ log) m = given_more start x y log (rem y) (inserts_given x log m)

  removes_removed : (x : ℕ) (log : Log) → Memᴰ x (removes log) → Removed x log
  removes_removed x [] m = absurd (Memᴰ.not-nil m)
  removes_removed x (ins y ∷ log) m = Memᴰ.tail (removes_removed x log m)
  removes_removed x (rem y ∷ log) m = ⊎_elim (λ e. Memᴰ.head (ap rem e))
      (λ k. Memᴰ.tail (removes_removed x log k)) (Memᴰ.cases_cons m)

  removes_given : (x : ℕ) (log : Log) → Once start log → Memᴰ x (removes log) → Given start x log
  removes_given x [] o m = absurd (Memᴰ.not-nil m)
  removes_given x (ins y ∷ log) o m = given_more start x y log (ins y) (removes_given x log o.1 m)
  removes_given x (rem y ∷ log) o m = given_more start x y log (rem y)
      (⊎_elim (λ e. rw e o.0) (removes_given x log o.2) (Memᴰ.cases_cons m))

  inserts_distinct : (log : Log) → Once start log → Distinct (inserts log)
  inserts_distinct [] o = tt
  inserts_distinct (ins x ∷ log) o = (λ m. o.0 (inserts_given x log m), inserts_distinct log o.1)
  inserts_distinct (rem x ∷ log) o = inserts_distinct log o.2

  removes_distinct : (log : Log) → Once start log → Distinct (removes log)
  removes_distinct [] o = tt
  removes_distinct (ins x ∷ log) o = removes_distinct log o.1
  removes_distinct (rem x ∷ log) o = (λ m. o.1 (removes_removed x log m), removes_distinct log o.2)

-- ---- the head is no given node
module _ (key : ℕ → ℕ) (start : Start) (f : ℕ → Option ℕ) (log : Log) (snap : Snap key start f log) where
  pub walk_from_head : Chain key f head (members key start log)
  walk_from_head = (chain_split key f head (members key start log) (tail ∷ []) snap.walk).0

  pub no_way_back : (ns : List ℕ) → Chain key f head (ns ++ (tail ∷ [])) → f head ≢ some head
  no_way_back [] c e = omega (arith, ap key (some_same c.0 e), c.1)
  no_way_back (n ∷ ns) c e = omega (arith, ap key (some_same c.0 e), c.1)

  pub head_not_given : ¬ Given start head log
  head_not_given g = ⊎_elim
      (λ m. omega (arith, above_start key f head head (members key start log) walk_from_head m))
      (λ r. no_way_back (members key start log) snap.walk (snap.gone head r)) (snap.kept head g)

module _ (key val : ℕ → ℕ) (start : Start) (m : Drawing) (I : Inv key val start m) where
  -- ---- a given node has an entry
  pub on_used : (x : ℕ) → On start m x → m.bundle x ≢ final []
  on_used x on empty = row_given key start m.rows m.log I.hist x on (I.own.settled x [] empty)

  pub at_used : (x : ℕ) → At start m x → Used m x
  at_used x = ⊎_map (on_used x) (λ e. e)

  pub given_covered : (all : List ℕ) → Covers all m → (x : ℕ) → Given start x m.log → Memᴰ x all
  given_covered all C x g = C x
      (λ e. head_not_given key start _ m.log (current key start m.rows m.log I.hist) (rw e at g))
      (on_used x (inr g))

  -- a node of an earlier snapshot is given now
  pub past_on : (s x : ℕ) → (x ≡ head) ⊎ Given start x (up_to start s m.log) → On start m x
  past_on s x = ⊎_map (λ e. e) (given_first start x (s - start.base) m.log)

  pub pends_used : (w x c g : ℕ) (r : Row) → m.bundle x ≡ pending w c g r → m.bundle x ≢ final []
  pends_used w x c g r b empty = final_pending (m.bundle x) w c g [] r empty b

  -- ---- EVERY NODE THAT A PHASE NAMES IS IN USE
  stand_used : (p q x : ℕ) → On start m p → At start m q → (x ≡ p) ⊎ (x ≡ q) → Used m x
  stand_used p q x on at_q = ⊎_elim (λ e. rw e (inl (on_used p on))) (λ e. rw e (at_used q at_q))

  two_used : (w p y x : ℕ) (c g : ℕ) (r : Row) (c₂ g₂ : ℕ) (r₂ : Row) → m.bundle p ≡ pending w c g r →
      m.bundle y ≡ pending w c₂ g₂ r₂ → (x ≡ p) ⊎ (x ≡ y) → Used m x
  two_used w p y x c g r c₂ g₂ r₂ bp by =
      ⊎_elim (λ e. rw e (inl (pends_used w p c g r bp))) (λ e. rw e (inl (pends_used w y c₂ g₂ r₂ by)))

  names_in : (t : ℕ) (φ : Phase) → Facts key val start m t φ → (x : ℕ) → Names φ x → Used m x
  names_in t idle F x n = absurd n
  names_in t (walking op p q) F x n = stand_used p q x F.1.pred_on F.1.curr_at n
  names_in t (locking u p q) F x n = stand_used p q x F.stand.pred_on F.stand.curr_at n
  names_in t (locking_curr k p q) F x n = stand_used p q x F.0.stand.pred_on F.0.stand.curr_at n
  names_in t (checking u p q) F x n = stand_used p q x F.0.stand.pred_on F.0.stand.curr_at n
  names_in t (preparing u p q) F x n = stand_used p q x F.0.stand.pred_on F.0.stand.curr_at n
  names_in t (numbering u p y z c) F x n = two_used t p y x _ _ _ _ _ _ F.2.pend_p F.2.pend_y n
  names_in t (linking u p y z c k) F x n = two_used t p y x _ _ _ _ _ _ F.1.pend_p F.1.pend_y n
  names_in t (finishing u p y z c k) F x n = two_used t p y x _ _ _ _ _ _ F.2.pend_p F.2.pend_y n
  names_in t (seeking k y) F x n = rw n (inl (on_used y F.1))
  names_in t (fixing low high p) F x n = rw n (inl (on_used p F.1))
  names_in t (following low high y s handed) F x n = rw n (inl (on_used y (past_on s y F.on)))
  names_in t (handing low high y s handed) F x n = rw n (inl (on_used y (past_on s y F.2.on)))

  pub names_used : (t x : ℕ) → Names (m.phase t) x → Used m x
  names_used t x n = names_in t (m.phase t) (I.own.facts t) x n

  -- ---- AND SO IS WHERE THEIR LINKS LEAD: a plain link, the newest entry, the entry taken at a snapshot
  pub plain_used : (x : ℕ) → On start m x → Used m (m.plain x)
  plain_used x on = at_used (m.plain x) (I.own.links x on).1

  pub newest_used : (t k x q : ℕ) → m.phase t ≡ seeking k x → read_newest (shown (m.bundle x)) ≡ found (some q) →
      Used m q
  newest_used t k x q e answer =
      let F : Facts key val start m t (seeking k x) = rw e at (I.own.facts t) in
      at_used q (now_target key val start m I x q F.1 (newest_right key val start m I x (some q) answer))

  pub follow_used : (t low high x s q : ℕ) (handed : List Pair) → m.phase t ≡ following low high x s handed →
      read_at s (shown (m.bundle x)) ≡ found (some q) → Used m q
  follow_used t low high x s q handed e answer =
      let F : Facts key val start m t (following low high x s handed) = rw e at (I.own.facts t) in
      let link = read_right key val start m I s x (some q) answer in
      at_used q (⊎_map (past_on s q) (λ z. z)
      (past_target key val start m I s x q F.from_base F.in_past F.on link))

  -- ---- the set at a snapshot has at most a key for each node in use
  members_covered : (all : List ℕ) → Covers all m → (s : ℕ) → start.base ≤ s → s ≤ now start m →
      length (members key start (up_to start s m.log)) ≤ length all
  members_covered all C s base≤s s≤now =
      let snap = I.hist.snap s base≤s s≤now in
      let log = up_to start s m.log in
      distinct_length (members key start log) all
      (chain_distinct key _ head (members key start log) (walk_from_head key start _ log snap))
      (λ x k. given_covered all C x (given_first start x (s - start.base) m.log (members_given key start x log k)))

  set_covered : (all : List ℕ) → Covers all m → (low high s : ℕ) → start.base ≤ s → s ≤ now start m →
      length (within key_of low high (set_of key val start (up_to start s m.log))) ≤ length all
  set_covered all C low high s base≤s s≤now =
      let log = up_to start s m.log in
      omega (
        arith,
        within_length key_of low high (set_of key val start log),
        ap length (set_is_members key val start log),
        length-map (members key start log) (entry key val),
        members_covered all C s base≤s s≤now,
      )

  -- ---- A HAND HAS HANDED OUT FEWER KEYS THAN THERE ARE NODES IN USE
  pub hand_room : (all : List ℕ) → Covers all m → (t low high x s : ℕ) (handed : List Pair) →
      m.phase t ≡ handing low high x s handed → length handed < length all
  hand_room all C t low high x s handed e =
      let F : Facts key val start m t (handing low high x s handed) = rw e at (I.own.facts t) in
      let rest = map (entry key val) (within key low high F.2.ahead) in
      omega (
        arith,
        ap length F.2.whole,
        length-append (handed ++ (entry key val x ∷ [])) rest,
        length-append handed (entry key val x ∷ []),
        set_covered all C low high s F.2.from_base F.2.in_past,
      )

  -- ---- THE LOG HAS AT MOST TWO UPDATES FOR EACH NODE IN USE
  pub log_room : (all : List ℕ) → Covers all m → length m.log ≤ 2 * length all
  log_room all C =
      let log = m.log in
      omega (
        arith,
        log_length log,
        distinct_length (inserts log) all (inserts_distinct start log I.own.once)
            (λ x k. given_covered all C x (inserts_given start x log k)),
        distinct_length (removes log) all (removes_distinct start log I.own.once)
            (λ x k. given_covered all C x (removes_given start x log I.own.once k)),
      )

-- before a Number there is room for one more
pub number_room : (key val : ℕ → ℕ) (start : Start) (m : Drawing) (I : Inv key val start m) (all : List ℕ) →
    Covers all m → (t : ℕ) (u : Update) (p y z c : ℕ) → m.phase t ≡ numbering u p y z c →
    length m.log < 2 * length all
number_room key val start m I all C t u p y z c e =
    let J = stepped_inv key val start I t (number_it u p y z c e) in
    omega (
      arith,
      log_room key val start
          (after start m t (numbers u p y z) (linking u p y z c (suc (now start m)))) J all C,
    )
