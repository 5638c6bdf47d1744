-- The history that the calls gave, by the drawing's log; and what each answer says of it.
-- In order: a session's operation; a record in its snapshot; the sets of the history; an update's number; a range's
-- keys and values; each answer; the bounds. All of it of words that show a drawing.
-- Not here: that a reached register's words show one (Whole). Assumes nothing.
use Prim.Native.Nat.{ℕ, suc, ◌-◌, ◌≤◌, ◌<◌}
use mathlib.Core.Path.{◌≡◌, refl, sym, ◌∙◌, ap, subst}
use mathlib.Core.Bool.{Bool, true, false}
use mathlib.Core.Option.{some}
use mathlib.Core.List.{List, [], ◌∷◌, ◌++◌, map, append_assoc}
use native.Mathlib.Decide.{dec_lt}
use native.Mathlib.Omega.{arith}
use lib.ListN.{length, length-map, length-drop, get_or-eq_default}
use Rattle.order.specs.Set.{Pair, key_of, within, member, Update, insert, remove, set_after, first}
use Rattle.order.specs.History.{empty, up_to, entry, said, set_of}
use Rattle.order.proofs.Reading.{map_first}
use Rattle.terms.specs.Terms.{small, sought_of}
use Rattle.terms.specs.declared.Op
use Rattle.terms.specs.declared.Answer.{Answer}
use Rattle.steps.specs.declared.Phase
use Rattle.steps.specs.declared.Session.{Session}
use Rattle.steps.specs.Steps
use Rattle.sixteen.specs.declared.Call.{Call}
use Rattle.reached.specs.Reached.{State, stamp_of, record_of, who_of, answer, Past}
use Rattle.reached.specs.Answers.{set_at, set_now, Nth, RangeIs, Fixed, follows, hands}
use Rattle.drawing.specs.Phases.{Op, upd, has, range, sought, Phase, idle, walking, locking, locking_curr}
use Rattle.drawing.specs.Phases.{checking, preparing, numbering, linking, finishing, seeking, fixing, following}
use Rattle.drawing.specs.Phases.{handing, task}
use Rattle.drawing.specs.Drawing.{Drawing}
use Rattle.drawing.specs.Answers.{Numbered}
use Rattle.drawing.proofs.Inv.{Facts}
use Rattle.drawing.proofs.Room.{log_room}
use Rattle.drawing.proofs.Answers.{handed_first}
use Rattle.words.proofs.Show.{op_word, task_word, Runs, HandedIn, Shown, shown_inv}
use Rattle.words.proofs.Land.{handed_at}
use Rattle.words.proofs.Use.{in_use, in_use_covers, in_use_length}
use Rattle.words.proofs.Says.{Says}

-- ---- a session's operation
sought_is : (op : Op) → sought_of (op_word op) ≡ sought op
sought_is (upd (insert k v)) = refl
sought_is (upd (remove k)) = refl
sought_is (has k) = refl
sought_is (range low high) = refl

same_range : (a b c d : ℕ) → Op.Op.Range a b ≡ Op.Op.Range c d → (a ≡ c) × (b ≡ d)
same_range a b c d e = (cc, cc)

-- ---- a record in its snapshot
abbrev Snapped : Phase.Phase → ℕ → Type 0
Snapped Phase.Phase.Idle s = ⊥
Snapped (Phase.Phase.Walk p q) s = ⊥
Snapped (Phase.Phase.Lock p q) s = ⊥
Snapped (Phase.Phase.LockCurr p q) s = ⊥
Snapped (Phase.Phase.Check p q) s = ⊥
Snapped (Phase.Phase.Prepare p q) s = ⊥
Snapped (Phase.Phase.Number p y lo hi) s = ⊥
Snapped (Phase.Phase.Link p y lo hi n) s = ⊥
Snapped (Phase.Phase.Finish p y lo hi n) s = ⊥
Snapped (Phase.Phase.Newest x) s = ⊥
Snapped (Phase.Phase.Fix p) s = ⊥
Snapped (Phase.Phase.Follow x t n) s = t ≡ s
Snapped (Phase.Phase.Hand x t n) s = t ≡ s

fixed_snapped : (ph : Phase.Phase) (s : ℕ) → Fixed ph s → Snapped ph s
fixed_snapped ph s follows = refl
fixed_snapped ph s hands = refl

at_record : (a b : Session) (s : ℕ) → a ≡ b → Snapped a.phase s → Snapped b.phase s
at_record a b s e k = subst (λ r. Snapped r.phase s) e k

module _ (key val : ℕ → ℕ) (σ : State) (h : Past) (m : Drawing) (S : Shown small key val σ h m) where
  -- ---- the sets of the history, by the log
  first_is : (n : ℕ) → first n h.updates ≡ map (said key val) (up_to empty n m.log)
  first_is n = ap (first n) S.tells.updates ∙ sym (map_first (said key val) n m.log)
      ∙ ap (λ k. map (said key val) (first k m.log)) (let e : n ≡ n - 0 = omega arith in e)

  set_at_is : (n : ℕ) → set_at h n ≡ set_of key val empty (up_to empty n m.log)
  set_at_is n = ap (set_after []) (first_is n)

  set_now_is : set_now h ≡ set_of key val empty m.log
  set_now_is = ap (set_after []) S.tells.updates

  updates_count : length h.updates ≡ length m.log
  updates_count = ap length S.tells.updates ∙ length-map m.log (said key val)

  -- the operation of a session in its task
  op_is : (t : ℕ) (op : Op) → task (m.phase t) ≡ some op → h.under t ≡ op_word op
  op_is t op e = S.tells.under t ∙ ap task_word e

  -- ---- an update with its number, and the updates before it
  abbrev before : ℕ → List Update
  before n = map (said key val) (up_to empty (n - 1) m.log)

  before_length : (n : ℕ) → 0 < n → n ≤ length m.log → n ≡ suc (length (before n))
  before_length n some_update n≤log = omega (
    arith,
    length-map (up_to empty (n - 1) m.log) (said key val),
    length-drop (length m.log - (n - 1 - 0)) m.log,
  )

  nth_is : (t : ℕ) (u : Update) (n : ℕ) → Numbered key val empty m t u n → Nth h t n u (before n)
  nth_is t u n N = record {
    nth = first_is n ∙ ap (map (said key val)) N.there ∙ ap (λ a. a ∷ before n) N.this;
    number = before_length n (omega (arith, N.late)) (omega (arith, N.in_log));
    after_start = omega (arith, N.late, S.tells.since t);
    numbered = omega (arith, N.in_log, updates_count);
  }

  -- ---- a range's keys and values: by the log and by the history
  same_set : (low high s : ℕ) (l : List Pair)
      → l ≡ within key_of low high (set_of key val empty (up_to empty s m.log))
      → l ≡ within key_of low high (set_at h s)
  same_set low high s l e = e ∙ ap (within key_of low high) (sym (set_at_is s))

  handed_is : (t : ℕ) (φ : Phase) → m.phase t ≡ φ → HandedIn φ (h.handed t)
  handed_is t φ e = handed_at (m.phase t) φ _ _ (sym e) refl (S.tells.handed t)

  fact : (t : ℕ) (φ : Phase) → m.phase t ≡ φ → Facts key val empty m t φ
  fact t φ e = rw e at ((shown_inv S).own.facts t)

  -- what session t was handed is a first part of the keys within bounds after s updates
  abbrev Part : (t low high s : ℕ) → Type 0
  Part t low high s = (rest : List Pair) × (h.handed t ++ rest ≡ within key_of low high (set_at h s))

  follow_part : (t low high x s : ℕ) (given : List Pair) → m.phase t ≡ following low high x s given
      → Part t low high s
  follow_part t low high x s given e =
      let f = handed_first key val empty m (shown_inv S) t low high x s given
      (fact t (following low high x s given) e) in (
        f.0,
        ap (λ l. l ++ f.0) (handed_is t (following low high x s given) e)
            ∙ same_set low high s (given ++ f.0) f.1.right,
      )

  hand_part : (t low high x s : ℕ) (given : List Pair) → m.phase t ≡ handing low high x s given → Part t low high s
  hand_part t low high x s given e =
      let one = entry key val x ∷ [] in
      let f = handed_first key val empty m (shown_inv S) t low high x s (given ++ one)
      (fact t (handing low high x s given) e).2 in (
        one ++ f.0,
        ap (λ l. l ++ (one ++ f.0)) (handed_is t (handing low high x s given) e)
            ∙ sym (append_assoc given one f.0) ∙ same_set low high s ((given ++ one) ++ f.0) f.1.right,
      )

  module _ (t low high s : ℕ) (op : h.under t ≡ Op.Op.Range low high) where
    range_part : (a b n : ℕ) → h.under t ≡ Op.Op.Range a b → n ≡ s → Part t a b n → Part t low high s
    range_part a b n o same part =
        let d = same_range a b low high (sym o ∙ op) in rw (← d.0, ← d.1, ← same) part

    part_in : (φ : Phase) → m.phase t ≡ φ → Runs S.own φ (record_of σ t) → Snapped (record_of σ t).phase s
        → Part t low high s
    part_in idle e r k = absurd (at_record _ _ s r k)
    part_in (walking o p q) e r k = absurd (at_record _ _ s r k)
    part_in (locking u p q) e r k = absurd (at_record _ _ s r k)
    part_in (locking_curr j p q) e r k = absurd (at_record _ _ s r k)
    part_in (checking u p q) e r k = absurd (at_record _ _ s r k)
    part_in (preparing u p q) e r k = absurd (at_record _ _ s r k)
    part_in (numbering u p y z c) e (lo, hi, _, _, r) k = absurd (at_record _ _ s r k)
    part_in (linking u p y z c n) e (lo, hi, _, _, r) k = absurd (at_record _ _ s r k)
    part_in (finishing u p y z c n) e (lo, hi, _, _, r) k = absurd (at_record _ _ s r k)
    part_in (seeking j x) e r k = absurd (at_record _ _ s r k)
    part_in (fixing a b p) e r k = absurd (at_record _ _ s r k)
    part_in (following a b x n given) e r k =
        range_part a b n (op_is t (range a b) (ap task e)) (at_record _ _ s r k) (follow_part t a b x n given e)
    part_in (handing a b x n given) e r k =
        range_part a b n (op_is t (range a b) (ap task e)) (at_record _ _ s r k) (hand_part t a b x n given e)

    pub part : Fixed (record_of σ t).phase s → Part t low high s
    part fixed = let k = fixed_snapped (record_of σ t).phase s fixed in elim (dec_lt t 16) [
      | yes below ↦ part_in (m.phase t) refl (S.runs t below) k
      | no above ↦ absurd (at_record (record_of σ t) Steps.idle s (get_or-eq_default σ.register.sessions
          Steps.idle (omega (arith, S.sixteen))) k)
    ]

  -- ---- each answer, to call c
  module _ (c : Call) (says : Says key val σ m (who_of c) (answer small σ c)) where
    pub says_of : (a : Answer) → answer small σ c ≡ a → Says key val σ m (who_of c) a
    says_of a e = subst (Says key val σ m (who_of c)) e says

    pub inserted_is : (n : ℕ) → answer small σ c ≡ Answer.Inserted n
        → (k v : ℕ) × (before : List Update) × (h.under (who_of c) ≡ Op.Op.Insert k v)
        × Nth h (who_of c) n (insert k v) before × (member key_of k (set_after [] before) ≡ false)
    inserted_is n a =
        let d = says_of (Answer.Inserted n) a in
        let k = d.1.0 in
        let v = d.1.1 in
        let N = d.1.3 in (
          k,
          v,
          before n,
          op_is (who_of c) (upd (insert k v)) d.1.2,
          nth_is (who_of c) (insert k v) n N,
          N.was,
        )

    pub removed_is : (n : ℕ) → answer small σ c ≡ Answer.Removed n
        → (k : ℕ) × (before : List Update) × (h.under (who_of c) ≡ Op.Op.Remove k)
        × Nth h (who_of c) n (remove k) before × (member key_of k (set_after [] before) ≡ true)
    removed_is n a =
        let d = says_of (Answer.Removed n) a in
        let k = d.1.0 in
        let N = d.1.2 in
        (k, before n, op_is (who_of c) (upd (remove k)) d.1.1, nth_is (who_of c) (remove k) n N, N.was)

    -- the key that the operation looks for, in the set now
    member_now : (b : Bool) (op : Op) → task (m.phase (who_of c)) ≡ some op
        → member key_of (sought op) (set_of key val empty m.log) ≡ b
        → member key_of (sought_of (h.under (who_of c))) (set_now h) ≡ b
    member_now b op e there =
        ap (λ o. member key_of (sought_of o) (set_now h)) (op_is (who_of c) op e)
        ∙ ap (λ k. member key_of k (set_now h)) (sought_is op) ∙ ap (member key_of (sought op)) set_now_is ∙ there

    pub present_is : answer small σ c ≡ Answer.Present
        → member key_of (sought_of (h.under (who_of c))) (set_now h) ≡ true
    present_is a = let d = says_of Answer.Present a in member_now true d.1.0 d.1.1 d.1.2

    pub absent_is : answer small σ c ≡ Answer.Absent
        → member key_of (sought_of (h.under (who_of c))) (set_now h) ≡ false
    absent_is a = let d = says_of Answer.Absent a in member_now false d.1.0 d.1.1 d.1.2

    -- a session that stands in its snapshot runs a range
    range_is : (low high : ℕ) → task (m.phase (who_of c)) ≡ some (range low high)
        → h.under (who_of c) ≡ Op.Op.Range low high
    range_is low high e = op_is (who_of c) (range low high) e

    pub end_is : (t n : ℕ) → answer small σ c ≡ Answer.End t n
        → (low high : ℕ) × (h.under (who_of c) ≡ Op.Op.Range low high) × RangeIs σ h (who_of c) low high t n
    end_is t n a = go (says_of (Answer.End t n) a)
      where
        go : Says key val σ m (who_of c) (Answer.End t n)
            → (low high : ℕ) × (h.under (who_of c) ≡ Op.Op.Range low high) × RangeIs σ h (who_of c) low high t n
        go (below, (given, many, (low, high, x, here, A))) =
            let handed : h.handed (who_of c) ≡ given = handed_is (who_of c) (following low high x t given) here in (
              low,
              high,
              range_is low high (ap task here),
              record {
                since_start = omega (arith, A.late, S.tells.since (who_of c));
                by_now = omega (arith, A.in_past, S.stamp);
                keys = handed ∙ same_set low high t given A.right;
                count = many ∙ ap length (sym handed);
              },
            )

    pub key_is : (k v : ℕ) → answer small σ c ≡ Answer.Key k v
        → (low high s : ℕ) × (rest : List Pair) × (h.under (who_of c) ≡ Op.Op.Range low high)
        × (h.since (who_of c) ≤ s) × (s ≤ stamp_of σ)
        × (h.handed (who_of c) ++ ((k, v) ∷ rest) ≡ within key_of low high (set_at h s))
    key_is k v a = go (says_of (Answer.Key k v) a)
      where
        go : Says key val σ m (who_of c) (Answer.Key k v) → (low high s : ℕ) × (rest : List Pair)
            × (h.under (who_of c) ≡ Op.Op.Range low high) × (h.since (who_of c) ≤ s) × (s ≤ stamp_of σ)
            × (h.handed (who_of c) ++ ((k, v) ∷ rest) ≡ within key_of low high (set_at h s))
        go (below, (low, high, x, s, given, rest, here, A)) = (
          low,
          high,
          s,
          rest,
          range_is low high (ap task here),
          omega (arith, A.late, S.tells.since (who_of c)),
          omega (arith, A.in_past, S.stamp),
          ap (λ l. l ++ ((k, v) ∷ rest)) (handed_is (who_of c) (handing low high x s given) here)
              ∙ same_set low high s (given ++ ((k, v) ∷ rest)) A.right,
        )

  -- ---- the stamp
  pub stamp_is : stamp_of σ ≡ length h.updates
  stamp_is = omega (arith, S.stamp, updates_count)

  pub stamp_most : stamp_of σ ≤ 1020
  stamp_most = omega (
    arith,
    S.stamp,
    S.most,
    in_use_length key val σ h m S,
    log_room key val empty m (shown_inv S) (in_use key val σ h m S) (in_use_covers key val σ h m S),
  )
