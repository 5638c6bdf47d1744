-- Demand 2 in the mission's own words, proved.
-- In order: first parts of lists; a reached register's set has keys in bounds only; a run meets each stamp on its way;
-- a query's moment; only working makes an update count; keys handed out rise; the three records.
-- Not here: the statements (specs/Mission.antt). Assumes nothing.
use Prim.Native.Nat.{ℕ, zero, suc, ◌+◌, ◌-◌, ◌≤◌, ◌<◌}
use mathlib.Core.Path.{◌≡◌, refl, sym, ◌∙◌, ap, subst}
use mathlib.Core.Logic.{◌⊎◌, ⊎_elim, ◌≢◌}
use mathlib.Core.Bool.{Bool, true, false, cond}
use mathlib.Core.Option.{Option}
use mathlib.Core.List.{List, [], ◌∷◌, ◌++◌, map}
use native.Mathlib.Decide.{dec_le}
use native.Mathlib.Omega.{arith}
use lib.Dec.{ltb, eqb}
use lib.ListN.{length, drop, length-append}
use borrow.Author.Tests.{le-ltb, le-leb}
use Rattle.order.specs.Set.{Pair, key_of, Over, Rises, put, within, member, Update, insert, set_after, first}
use Rattle.order.specs.History.{tail, Log, empty, up_to, said, set_of, entry, Chain, members, next}
use Rattle.order.proofs.Tests.{cond_cases, eqb_cases}
use Rattle.order.proofs.Sets.{set_rises, within_rises}
use Rattle.order.proofs.Chains.{to_tail}
use Rattle.order.proofs.Keeps.{first_all}
use Rattle.order.proofs.Reading.{set_is_members, set_within, map_first}
use Rattle.nodes.specs.Nodes.{key_at, value_at}
use Rattle.terms.specs.Terms.{small, sought_of}
use Rattle.terms.specs.declared.Op
use Rattle.terms.specs.declared.Answer.{Answer}
use Rattle.sixteen.specs.declared.Call.{Call}
use Rattle.reached.proofs.History.{at_same}
use Rattle.reached.specs.Reached.{State, stamp_of, who_of, state_in, go, answer, Past, update_of, at}
use Rattle.reached.specs.Reached.{since_by, handed_by, note, InWords, Reached, fresh, on}
use Rattle.reached.specs.Answers.{set_at, set_now}
use Rattle.reached.specs.Fair.{AllInWords}
use Rattle.drawing.specs.Phases.{Phase}
use Rattle.drawing.specs.Drawing.{Drawing, now}
use Rattle.drawing.specs.Effects.{Effect, after}
use Rattle.drawing.specs.Steps.{Out, working, Step, walk_on, walk_arrive, lock_pred, lock_curr, check_again}
use Rattle.drawing.specs.Steps.{check_present, check_absent, check_pass, prepare_full, prepare_insert, prepare_remove}
use Rattle.drawing.specs.Steps.{number_it, link_it, finish_it, seek_on, seek_present, seek_absent, fix_it, follow_on}
use Rattle.drawing.specs.Steps.{follow_in, follow_end, hand_out}
use Rattle.words.proofs.Show.{Agrees, Shown, out_word, Advance, waited, stepped, Advanced, shown_inv}
use Rattle.words.proofs.Land.{used_of, no_update}
use Rattle.words.proofs.Back.{agree_back}
use Rattle.words.proofs.Starts.{idle_refused}
use Rattle.words.proofs.Whole.{step_advances, reached_shown}
use Rattle.words.proofs.Demand2.{demand_2, seen, range_end}
use Rattle.mission.specs.Mission.{whole, Moment, stamp_then, set_then, begun, begun_past, Ends, list}
use Rattle.mission.specs.Mission.{HadMoment, HandedAll, Quiet, Unmoved, Added}
use Rattle.mission.specs.Mission.{OneMoment, OneKey, Handed}
use Rattle.mission.specs.Runs.{run, past_of}

-- ---- the first n of a list that has the newest in front
drop_behind : {A : Type 0} (j : ℕ) (l : List A) (u : A) (b : List A) → drop j l ≡ u ∷ b → drop (suc j) l ≡ b
drop_behind zero [] u b e = let z : ◌≡◌ {A = ℕ} 0 1 = cc in absurd (omega arith)
drop_behind zero (x ∷ l) u b e = cc
drop_behind (suc j) [] u b e = let z : ◌≡◌ {A = ℕ} 0 1 = cc in absurd (omega arith)
drop_behind (suc j) (x ∷ l) u b e = drop_behind j l u b e

first_before : {A : Type 0} (n : ℕ) (l : List A) (u : A) (b : List A) → first n l ≡ u ∷ b → 0 < n → n ≤ length l
    → first (n - 1) l ≡ b
first_before n l u b e some_update in_list =
    let z : length l - (n - 1) ≡ suc (length l - n) = omega arith in
    rw z (drop_behind (length l - n) l u b e)

drop_past : {A : Type 0} (a l : List A) (n : ℕ) → drop (length a + n) (a ++ l) ≡ drop n l
drop_past [] l n = let z : 0 + n ≡ n = omega arith in rw z
drop_past (x ∷ a) l n = let z : suc (length a) + n ≡ suc (length a + n) = omega arith in rw z (drop_past a l n)

first_older : {A : Type 0} (n : ℕ) (a l : List A) → n ≤ length l → first n (a ++ l) ≡ first n l
first_older n a l n≤l =
    let z : length (a ++ l) - n ≡ length a + (length l - n) = omega (arith, length-append a l) in
    rw z (drop_past a l (length l - n))

-- ---- KEYS OUT OF BOUNDS ARE IN NO SET: the links of a snapshot rise from the head's key to the tail's
chain_whole : (key : ℕ → ℕ) (f : ℕ → Option ℕ) (low high p : ℕ) (ns : List ℕ) → low ≤ key p + 1
    → key tail ≤ high + 1 → Chain key f p (ns ++ (tail ∷ [])) → within key low high ns ≡ ns
unfolding within
chain_whole key f low high p [] from to c = refl
chain_whole key f low high p (n ∷ ns) from to c =
    let below : key n < key tail = to_tail key f n ns c.2 in
    rw (le-ltb (key n) low (omega (arith, c.1)), le-leb (key n) high (omega arith))
    (ap (λ l. n ∷ l) (chain_whole key f low high n ns (omega (arith, c.1)) to c.2))

module _ (key val : ℕ → ℕ) (σ : State) (h : Past) (m : Drawing) (S : Shown small key val σ h m) where
  log_whole : (t : ℕ) → t ≤ stamp_of σ
      → within key_of 1 4294967294 (set_of key val empty (up_to empty t m.log))
      ≡ set_of key val empty (up_to empty t m.log)
  log_whole t t≤now =
      let log = up_to empty t m.log in
      let snap = (shown_inv S).hist.snap t (omega arith) (omega (arith, S.stamp)) in
      sym (set_within key val empty 1 4294967294 log)
      ∙ ap (map (entry key val)) (chain_whole key (next m.rows t) 1 4294967294 0 (members key empty log)
      (omega (arith, S.head_key)) (omega (arith, S.tail_key)) snap.walk)
      ∙ set_is_members key val empty log

  pub set_log : (t : ℕ) → set_at h t ≡ set_of key val empty (up_to empty t m.log)
  set_log t = ap (λ us. set_after [] (first t us)) S.tells.updates
      ∙ ap (set_after []) (sym (map_first (said key val) t m.log))
      ∙ ap (λ k. set_after [] (map (said key val) (first k m.log))) (let e : t ≡ t - 0 = omega arith in e)

  shown_whole : (t : ℕ) → t ≤ stamp_of σ → within key_of 1 4294967294 (set_at h t) ≡ set_at h t
  shown_whole t t≤now = rw (set_log t) (log_whole t t≤now)

pub bounded : (σ : State) (h : Past) → Reached small σ h → (t : ℕ) → t ≤ stamp_of σ
    → within key_of 1 4294967294 (set_at h t) ≡ set_at h t
bounded σ h R t t≤now = let d = seen σ h R in shown_whole _ _ σ h d.0 d.1 t t≤now

-- ---- a whole range's end
whole_end : (σ : State) (h : Past) → Reached small σ h → (c : Call) (t n : ℕ) → h.under (who_of c) ≡ whole
    → answer small σ c ≡ Answer.End t n → HandedAll σ h (who_of c) t n
whole_end σ h R c t n op e =
    let d = range_end σ h R c 1 4294967294 t n op e in
    let all : h.handed (who_of c) ≡ set_at h t = d.keys ∙ bounded σ h R t d.by_now in
    (all, d.count ∙ ap length all, d.since_start, d.by_now)

-- ---- A RUN MEETS EACH STAMP ON ITS WAY: no call makes more than one update count
update_one : (op : Op.Op) → length (update_of op) ≤ 1
update_one Op.Op.None = omega arith
update_one (Op.Op.Insert k v) = omega arith
update_one (Op.Op.Remove k) = omega arith
update_one (Op.Op.Has k) = omega arith
update_one (Op.Op.Range low high) = omega arith

abbrev OneMore : List Update → List Update → Type 0
OneMore old new = (front : List Update) × (new ≡ front ++ old) × (length front ≤ 1)

note_more : (σ : State) (h : Past) (c : Call) → OneMore h.updates (note small σ c h).updates
note_more σ h c = cond_cases (OneMore h.updates) (ltb (stamp_of σ) (stamp_of (go small σ c))) _ _
    (λ _. (update_of (h.under (who_of c)), refl, update_one (h.under (who_of c)))) (λ _. ([], refl, omega arith))

-- one call's stamp: as before, or one more
stamp_more : (σ : State) (h : Past) → Reached small σ h → (c : Call) → InWords c
    → (stamp_of σ ≤ stamp_of (go small σ c)) × (stamp_of (go small σ c) ≤ suc (stamp_of σ))
stamp_more σ h R c words =
    let d = note_more σ h c in
    let count = ap length d.1 ∙ length-append d.0 h.updates in (
      omega (arith, demand_2.stamp σ h R, demand_2.stamp _ _ (on R c words), count),
      omega (arith, demand_2.stamp σ h R, demand_2.stamp _ _ (on R c words), count, d.2),
    )

-- calls leave the updates so far as they are
runs_older : (σ : State) (h : Past) (calls : List Call) (t : ℕ) → t ≤ length h.updates
    → first t (past_of σ h calls).updates ≡ first t h.updates
runs_older σ h [] t old = refl
runs_older σ h (c ∷ calls) t old =
    let d = note_more σ h c in
    let longer = ap length d.1 ∙ length-append d.0 h.updates in
    runs_older (go small σ c) (note small σ c h) calls t (omega (arith, longer)) ∙ ap (first t) d.1
    ∙ first_older t d.0 h.updates old

pub run_reached : (σ : State) (h : Past) → Reached small σ h → (calls : List Call) → AllInWords calls
    → Reached small (run σ calls) (past_of σ h calls)
run_reached σ h R [] words = R
run_reached σ h R (c ∷ calls) words =
    run_reached (go small σ c) (note small σ c h) (on R c words.0) calls words.1

-- so a stamp between the first and the last one is met, and there the set is the one after as many updates
abbrev Met : (σ : State) (h : Past) (calls : List Call) (t : ℕ) → Type 0
Met σ h calls t = (m : Moment σ h calls) × (stamp_then σ h calls m ≡ t)
    × (set_at (past_of σ h calls) t ≡ set_then σ h calls m)

met_now : (σ : State) (h : Past) → Reached small σ h → (calls : List Call) (t : ℕ) → t ≡ stamp_of σ → Met σ h calls t
met_now σ h R calls t e =
    let many = demand_2.stamp σ h R in (
      record { before = []; rest = calls; split = refl },
      sym e,
      ap (set_after []) (runs_older σ h calls t (omega arith) ∙ first_all t h.updates (omega arith)),
    )

met : (σ : State) (h : Past) → Reached small σ h → (calls : List Call) → AllInWords calls → (t : ℕ) → stamp_of σ ≤ t
    → t ≤ stamp_of (run σ calls) → Met σ h calls t
met σ h R [] words t from to = met_now σ h R [] t (omega arith)
met σ h R (c ∷ calls) words t from to = elim (dec_le t (stamp_of σ)) [
  | yes here ↦ met_now σ h R (c ∷ calls) t (omega arith)
  | no above ↦
      let one = stamp_more σ h R c words.0 in
      let d = met (go small σ c) (note small σ c h) (on R c words.0) calls words.1 t (omega (arith, one.1)) to
      in
      (record { before = c ∷ d.0.before; rest = d.0.rest; split = ap (λ l. c ∷ l) d.0.split }, d.1, d.2)
]

-- ---- A QUERY'S MOMENT: a start's stamp stays at or above what it was
at_least : (f : ℕ → ℕ) (who a w b : ℕ) → b ≤ a → b ≤ f w → b ≤ at f who a w
unfolding at
at_least f who a w b new old = eqb_cases (λ n. b ≤ n) w who _ _ (λ _. new) (λ _. old)

since_by_lem : (a : Answer) (who stamp : ℕ) (f : ℕ → ℕ) (w b : ℕ) → b ≤ stamp → b ≤ f w → b ≤ since_by a who stamp f w
since_by_lem Answer.Started who stamp f w b new old = at_least f who stamp w b new old
since_by_lem Answer.Working who stamp f w b new old = old
since_by_lem Answer.Waiting who stamp f w b new old = old
since_by_lem (Answer.Key k v) who stamp f w b new old = old
since_by_lem (Answer.Inserted n) who stamp f w b new old = old
since_by_lem (Answer.Removed n) who stamp f w b new old = old
since_by_lem Answer.Present who stamp f w b new old = old
since_by_lem Answer.Absent who stamp f w b new old = old
since_by_lem (Answer.End t n) who stamp f w b new old = old
since_by_lem (Answer.Refused why) who stamp f w b new old = old

since_stays : (σ : State) (h : Past) → Reached small σ h → (calls : List Call) → AllInWords calls → (w b : ℕ)
    → b ≤ stamp_of σ → b ≤ h.since w → b ≤ (past_of σ h calls).since w
since_stays σ h R [] words w b low old = old
since_stays σ h R (c ∷ calls) words w b low old =
    since_stays (go small σ c) (note small σ c h) (on R c words.0) calls words.1 w b
    (omega (arith, (stamp_more σ h R c words.0).0))
    (since_by_lem (answer small σ c) (who_of c) (stamp_of σ) h.since w b low old)

-- a start that is accepted records the stamp
start_since : (σ : State) (h : Past) (q : ℕ) (op : Op.Op) (a : Answer) → a ≡ Answer.Started
    → since_by a q (stamp_of σ) h.since q ≡ stamp_of σ
start_since σ h q op a e =
    ap (λ b. since_by b q (stamp_of σ) h.since q) e ∙ at_same h.since q (stamp_of σ)

module _ (σ : State) (h : Past) (q low high : ℕ) (calls : List Call) (t n : ℕ)
    (E : Ends σ h q low high calls t n) where
  abbrev σ₁ : State
  σ₁ = begun σ h q low high calls

  abbrev h₁ : Past
  h₁ = begun_past σ h q low high calls

  start_reached : Reached small σ₁ h₁
  start_reached = on E.reached (Call.Start q (Op.Op.Range low high)) E.in_words.0

  end_reached : Reached small (run σ₁ calls) (past_of σ₁ h₁ calls)
  end_reached = run_reached σ₁ h₁ start_reached calls E.in_words.1

  began_by : stamp_of σ ≤ (past_of σ₁ h₁ calls).since q
  began_by = since_stays σ₁ h₁ start_reached calls E.in_words.1 q (stamp_of σ) (omega arith)
      (omega (arith, start_since σ h q (Op.Op.Range low high) _ E.started))

  query_moment : HadMoment σ h q low high calls t
  query_moment =
      let d = range_end (run σ₁ calls) (past_of σ₁ h₁ calls) end_reached (Call.Step q) low high t n E.still
      E.ended in
      let w = met σ₁ h₁ start_reached calls E.in_words.1 t (omega (arith, began_by, d.since_start)) d.by_now in
      (w.0, w.1, d.keys ∙ ap (within key_of low high) w.2)

-- ---- ONLY WORKING MAKES AN UPDATE COUNT
module _ (key val : ℕ → ℕ) (m : Drawing) (t : ℕ) where
  step_still : {o : Out} {f : Effect} {φ : Phase} → Step key val empty t m o f φ → o ≢ working
      → now empty (after empty m t f φ) ≡ now empty m
  step_still (walk_on op p q e h) other = refl
  step_still (walk_arrive op p q e h) other = refl
  step_still (lock_pred u p q e l) other = refl
  step_still (lock_curr k p q e l) other = refl
  step_still (check_again u p q e s) other = refl
  step_still (check_present k v p q e g h) other = refl
  step_still (check_absent k p q e g h) other = refl
  step_still (check_pass u p q e g h) other = refl
  step_still (prepare_full k v p q r e b) other = refl
  step_still (prepare_insert k v p q r n e bp bn n≢tail nk nv) other = refl
  step_still (prepare_remove k p q r r₂ e bp bq) other = refl
  step_still (number_it u p y z c e) other = absurd (other refl)
  step_still (link_it u p y z c n e) other = refl
  step_still (finish_it u p y z c n r r₂ e bp by) other = refl
  step_still (seek_on k x q e a h) other = refl
  step_still (seek_present k x q e a h) other = refl
  step_still (seek_absent k x q e a h) other = refl
  step_still (fix_it low high p e) other = refl
  step_still (follow_on low high x s q given e a h) other = refl
  step_still (follow_in low high x s q given e a h k) other = refl
  step_still (follow_end low high x s q given e a h k) other = refl
  step_still (hand_out low high x s given e) other = refl

  advance_still : (m' : Drawing) (a : Answer) → Quiet a → Advance key val t m m' a
      → now empty m' ≡ now empty m
  advance_still m' a other (waited w e _) = ap (now empty) e
  advance_still m' a other (stepped o f φ step e b) =
      ap (now empty) e ∙ step_still step (λ z. other (b ∙ ap out_word z))

module _ (key val : ℕ → ℕ) (σ : State) (h : Past) (m : Drawing) (S : Shown small key val σ h m) (t : ℕ)
    (agrees : Agrees key val (used_of (go small σ (Call.Step t))) (go small σ (Call.Step t)).nodes)
    (other : Quiet (answer small σ (Call.Step t))) where
  shown_still : stamp_of (go small σ (Call.Step t)) ≡ stamp_of σ
  shown_still = ⊎_elim (λ quiet. ap (λ l. stamp_of (state_in l)) (idle_refused key val σ h m S t quiet).2)
      (λ a. a.1.1.stamp ∙ advance_still key val m t a.1.0 _ other a.1.2 ∙ sym S.stamp)
      (step_advances key val σ h m S t agrees)

stamp_still : (σ : State) (h : Past) → Reached small σ h → (c : Call) → Quiet (answer small σ c)
    → stamp_of (go small σ c) ≡ stamp_of σ
stamp_still σ h R (Call.Start who op) other = refl
stamp_still σ h R (Call.Step t) other =
    let ns = (go small σ (Call.Step t)).nodes in
    let own : Agrees (key_at ns) (value_at ns) (used_of (go small σ (Call.Step t))) ns
    = record { keyed = λ x _. refl; valued = λ x _. refl } in
    let d = reached_shown R (key_at ns) (value_at ns) (agree_back small _ _ σ (Call.Step t) own) in
    shown_still (key_at ns) (value_at ns) σ h d.0 d.1 t own other

still : (σ : State) (h : Past) → Reached small σ h → (c : Call) → Quiet (answer small σ c)
    → Unmoved σ h c
still σ h R c other =
    let same_stamp = stamp_still σ h R c other in
    (no_update (stamp_of σ) (stamp_of (go small σ c)) _ h.updates same_stamp, same_stamp)

-- ---- one key
filed_present : (σ : State) (h : Past) → Reached small σ h → (c : Call) (k v : ℕ)
    → h.under (who_of c) ≡ Op.Op.Insert k v → answer small σ c ≡ Answer.Present
    → (member key_of k (set_now h) ≡ true) × Unmoved σ h c
filed_present σ h R c k v op a = (
  ap (λ o. member key_of (sought_of o) (set_now h)) (sym op) ∙ demand_2.present σ h R c a,
  still σ h R c (λ e. let z : ◌≡◌ {A = ℕ} 0 1 = cc in omega arith),
)

same_insert : (a b c d : ℕ) → Op.Op.Insert a b ≡ Op.Op.Insert c d → (a ≡ c) × (b ≡ d)
same_insert a b c d e = (cc, cc)

filed_inserted : (σ : State) (h : Past) → Reached small σ h → (c : Call) (k v n : ℕ)
    → h.under (who_of c) ≡ Op.Op.Insert k v → answer small σ c ≡ Answer.Inserted n → Added h k v n
unfolding set_after
filed_inserted σ h R c k v n op a =
    let d = demand_2.inserted σ h R c n a in
    let s = same_insert d.0 d.1 k v (sym d.3 ∙ op) in
    let N = d.4 in
    let earlier = first_before n h.updates _ d.2 N.nth (omega (arith, N.number)) N.numbered in (
      ap (λ us. member key_of k (set_after [] us)) earlier ∙ ap (λ j. member key_of j (set_after [] d.2)) (sym s.0)
          ∙ d.5,
      ap (set_after []) N.nth ∙ ap (λ j. put key_of (j, d.1) (set_after [] d.2)) s.0
          ∙ ap (λ w. put key_of (k, w) (set_after [] d.2)) s.1
          ∙ ap (λ us. put key_of (k, v) (set_after [] us)) (sym earlier),
    )

-- ---- KEYS HANDED OUT RISE
over_front : (b : ℕ) (l rest : List Pair) → Over key_of b (l ++ rest) → Over key_of b l
over_front b [] rest over = tt
over_front b (x ∷ l) rest over = (over.0, over_front (key_of x) l rest over.1)

rises_front : (l rest : List Pair) → Rises key_of (l ++ rest) → Rises key_of l
rises_front [] rest rises = tt
rises_front (x ∷ l) rest rises = over_front (key_of x) l rest rises

set_at_rises : (h : Past) (n : ℕ) → Rises key_of (set_at h n)
set_at_rises h n = set_rises [] (first n h.updates) tt

append_one : {A : Type 0} (l : List A) (x : A) (rest : List A) → (l ++ (x ∷ [])) ++ rest ≡ l ++ (x ∷ rest)
append_one [] x rest = refl
append_one (y ∷ l) x rest = ap (λ a. y ∷ a) (append_one l x rest)

at_rises : (f : ℕ → List Pair) (who : ℕ) (l : List Pair) (w : ℕ) → Rises key_of l → Rises key_of (f w)
    → Rises key_of (at f who l w)
unfolding at
at_rises f who l w new old = eqb_cases (Rises key_of) w who _ _ (λ _. new) (λ _. old)

module _ (σ : State) (h : Past) (R : Reached small σ h) (c : Call) where
  next_rises : (k v : ℕ) → answer small σ c ≡ Answer.Key k v
      → Rises key_of (h.handed (who_of c) ++ ((k, v) ∷ []))
  next_rises k v a =
      let d = demand_2.next_key σ h R c k v a in
      rises_front (h.handed (who_of c) ++ ((k, v) ∷ [])) d.3
      (rw (append_one (h.handed (who_of c)) (k, v) d.3, d.7)
      (within_rises key_of d.0 d.1 (set_at h d.2) (set_at_rises h d.2)))

  handed_by_lem : (a : Answer) → answer small σ c ≡ a → ((w : ℕ) → Rises key_of (h.handed w)) → (w : ℕ)
      → Rises key_of (handed_by a (who_of c) h.handed w)
  handed_by_lem Answer.Started e old w = at_rises h.handed (who_of c) [] w tt (old w)
  handed_by_lem Answer.Working e old w = old w
  handed_by_lem Answer.Waiting e old w = old w
  handed_by_lem (Answer.Key k v) e old w = at_rises h.handed (who_of c) _ w (next_rises k v e) (old w)
  handed_by_lem (Answer.Inserted n) e old w = old w
  handed_by_lem (Answer.Removed n) e old w = old w
  handed_by_lem Answer.Present e old w = old w
  handed_by_lem Answer.Absent e old w = old w
  handed_by_lem (Answer.End t n) e old w = old w
  handed_by_lem (Answer.Refused why) e old w = old w

handed_rises : {σ : State} {h : Past} → Reached small σ h → (who : ℕ) → Rises key_of (h.handed who)
handed_rises (fresh ns es ns' es' c e) who = tt
handed_rises (on {σ} {h} r c words) who = handed_by_lem σ h r c (answer small σ c) refl (λ w. handed_rises r w) who

-- ---- THE THREE RECORDS
pub one_moment : OneMoment
one_moment = record { whole_set = whole_end; moment = query_moment }

pub one_key : OneKey
one_key = record {
  present = filed_present;
  inserted = filed_inserted;
  once = λ σ h R n. set_at_rises h n;
  quiet = still;
}

pub handed : Handed
handed = record { rising = λ σ h R. handed_rises R }
