-- Calls that begin an operation or are refused: a start, accepted or not; a step of an idle session or of none.
-- In order: what a start answers; a start refused; the drawing's operation; a start accepted; any start, and what it
-- leaves of the drawing; a step refused.
-- Not here: a busy session's step. Assumes nothing.
use Prim.Native.Nat.{ℕ, ◌≤◌, ◌<◌}
use mathlib.Core.Path.{◌≡◌, refl, sym, ◌∙◌, ap, subst}
use mathlib.Core.Logic.{⊎_elim, ◌≢◌}
use mathlib.Core.Bool.{Bool, true, false, ◌||◌}
use mathlib.Core.List.{List, []}
use native.Mathlib.Decide.{ℕ_discrete, dec_lt}
use native.Mathlib.Omega.{arith}
use lib.ListN.{set, length-set}
use lib.Seq.{get_or-set_same, get_or-set_other}
use lib.Dec.{eqb}
use borrow.Author.Tests.{lt-ltb, le-ltb, eqb-false}
use Rattle.order.specs.Set.{insert, remove}
use Rattle.order.specs.History.{head, tail, empty}
use Rattle.order.specs.Shape.{gone_on}
use Rattle.order.proofs.Tests.{cond_cases, ltb_cases, eqb_cases}
use Rattle.nodes.specs.Nodes.{next_at}
use Rattle.terms.specs.Terms.{small, sought_of, high_of, tail_key, out_of_bounds}
use Rattle.terms.specs.declared.Size.{Size}
use Rattle.terms.specs.declared.Op
use Rattle.terms.specs.declared.Refusal.{Refusal}
use Rattle.terms.specs.declared.Answer.{Answer}
use Rattle.steps.specs.declared.Phase
use Rattle.steps.specs.declared.Session.{Session}
use Rattle.steps.specs.Steps
use Rattle.steps.specs.Steps.{done, busy_of, refuses}
use Rattle.register.specs.declared.Started.{Started}
use Rattle.register.specs.Register.{fits, keeps, bad_key, began, start_of, step_of}
use Rattle.sixteen.specs.declared.Call.{Call}
use Rattle.sixteen.specs.Sixteen.{Left, served, with, after_step, session_of}
use Rattle.reached.specs.Reached.{State, stamp_of, record_of, state_in, called, go, answer, Past, note, at, InWords}
use Rattle.reached.proofs.History.{at_same, at_other}
use Rattle.drawing.specs.Phases.{Op, upd, has, range, Phase, idle, walking, task}
use Rattle.drawing.specs.Drawing.{change, Drawing, now}
use Rattle.drawing.specs.Effects.{stays, begun}
use Rattle.drawing.specs.Steps.{Fine, Starts, starts, starting}
use Rattle.drawing.proofs.Change.{change_same, change_other}
use Rattle.words.proofs.Show.{op_word, task_word, running, Runs, Cuts, HandedIn, Shown}
use Rattle.words.proofs.Land.{note_of, Busy, busy_record, fits_whole, Early, refused, kept, kept_state}
use Rattle.words.proofs.Land.{no_update, kept_past, unchanged, runs_at, handed_at}
use Rattle.words.proofs.Land.{cuts_kept, no_number, busy_or_idle}

-- ---- what a start answers, whatever the words: started, or a refusal that is neither full nor damaged
pub data Begins : Answer → Type 0 where
  begins : Begins Answer.Started
  refuses_early : (why : Refusal) → Early why → Begins (Answer.Refused why)

-- how a start ends: it is refused, or the key is in bounds and the range is in order
began_cases : (P : Started → Type 0) (ns : List ℕ) (s : Session) (op : Op.Op)
    → ((why : Refusal) → Early why → P (keeps s why))
    → (bad_key op ≡ false → sought_of op ≤ high_of op
    → P (record { session = record { op = op; phase = Phase.Phase.Walk 0 (next_at ns 0) }; answer = Answer.Started }))
    → P (began ns s op)
unfolding began
began_cases P ns s op refuse well =
    cond_cases P (bad_key op) _ _ (λ _. refuse Refusal.BadKey tt)
    (λ good. ltb_cases P (high_of op) (sought_of op) _ _ (λ _. refuse Refusal.BadRange tt) (λ order. well good order))

start_cases : (P : Started → Type 0) (z : Size) (ns es : List ℕ) (who : ℕ) (s : Session) (op : Op.Op)
    → ((why : Refusal) → Early why → P (keeps s why)) → (who < 16 → busy_of s ≡ false → P (began ns s op))
    → P (start_of z ns es who s op)
unfolding start_of
start_cases P z ns es who s op refuse well =
    cond_cases P (fits z ns es) _ _
    (λ _. ltb_cases P who 16 _ _ (λ low. cond_cases P (busy_of s) _ _ (λ _. refuse Refusal.Busy tt) (well low))
    (λ _. refuse Refusal.BadSession tt))
    (λ _. refuse Refusal.BadTable tt)

pub start_says : (z : Size) (σ : State) (who : ℕ) (op : Op.Op) → Begins (answer z σ (Call.Start who op))
start_says z σ who op =
    let P : Started → Type 0 = λ r. Begins r.answer in
    start_cases P z σ.nodes σ.entries who (record_of σ who) op (λ why e. refuses_early why e)
    (λ _ _. began_cases P σ.nodes (record_of σ who) op (λ why e. refuses_early why e) (λ _ _. begins))

-- ---- a key in bounds
true_false : {P : Type 0} → true ≡ false → P
true_false e = let z : ◌≡◌ {A = ℕ} 0 1 = cc in absurd (omega arith)

or_false : (a b : Bool) → (a || b) ≡ false → (a ≡ false) × (b ≡ false)
or_false true b e = true_false e
or_false false b e = (refl, e)

in_bounds : (k : ℕ) → out_of_bounds k ≡ false → (0 < k) × (k ≢ tail_key)
unfolding out_of_bounds
in_bounds k = eqb_cases (λ b. b ≡ false → (0 < k) × (k ≢ tail_key)) k 0 true (eqb k tail_key) (λ _ e. true_false e)
    (λ some_key e. (omega arith, eqb-false k tail_key e))

key_bounds : (op : Op.Op) → bad_key op ≡ false
    → ((0 < sought_of op) × (sought_of op ≢ tail_key)) × ((0 < high_of op) × (high_of op ≢ tail_key))
unfolding bad_key
key_bounds op e = let d = or_false _ _ e in (in_bounds (sought_of op) d.0, in_bounds (high_of op) d.1)

-- ---- the drawing's operation
module _ (key val : ℕ → ℕ) (low : key head ≡ 0) (high : key tail ≡ tail_key) where
  abbrev Drawn : Op.Op → Type 0
  Drawn op = (d : Op) × (op_word d ≡ op) × Fine key val d

  drawn : (op : Op.Op) → bad_key op ≡ false → sought_of op ≤ high_of op → sought_of op ≤ tail_key
      → high_of op ≤ tail_key → Drawn op
  drawn Op.Op.None bad order w w₂ = let b = key_bounds Op.Op.None bad in absurd (omega (arith, b.0.0))
  drawn (Op.Op.Insert k v) bad order w w₂ = let b = key_bounds (Op.Op.Insert k v) bad in
      (upd (insert k v), refl, (omega (arith, b.0.0, low), omega (arith, b.0.1, w, high)))
  drawn (Op.Op.Remove k) bad order w w₂ = let b = key_bounds (Op.Op.Remove k) bad in
      (upd (remove k), refl, (omega (arith, b.0.0, low), omega (arith, b.0.1, w, high)))
  drawn (Op.Op.Has k) bad order w w₂ = let b = key_bounds (Op.Op.Has k) bad in
      (has k, refl, (omega (arith, b.0.0, low), omega (arith, b.0.1, w, high)))
  drawn (Op.Op.Range a b) bad order w w₂ = let c = key_bounds (Op.Op.Range a b) bad in
      (range a b, refl, (omega (arith, c.0.0, low), order, omega (arith, c.1.1, w₂, high)))

-- ---- a start in the drawing: refused without effect, or the session begins its walk
pub data Begun (key val : ℕ → ℕ) (t : ℕ) (op : Op.Op) (m m' : Drawing) (a : Answer) : Type 0 where
  not_begun : (why : Refusal) → m' ≡ m → a ≡ Answer.Refused why → Begun key val t op m m' a
  has_begun : (d : Op) → op_word d ≡ op → Starts key val t m (walking d head (m.plain head))
      → m' ≡ begun empty m t (walking d head (m.plain head)) → Begun key val t op m m' a

-- nothing is handed out yet
handed_walk : (d : Op) (p q : ℕ) → HandedIn (walking d p q) []
handed_walk (upd u) p q = tt
handed_walk (has k) p q = tt
handed_walk (range low high) p q = refl

module _ (key val : ℕ → ℕ) (σ : State) (h : Past) (m : Drawing) (S : Shown small key val σ h m) (who : ℕ) where
  abbrev leaves : Started → Left
  leaves r = served σ.nodes σ.entries (with σ.register σ.register.counters who r.session r.answer)

  abbrev Shows : Op.Op → Started → Type 0
  Shows op r = (m' : Drawing)
      × Shown small key val (state_in (leaves r)) (note_of σ (Call.Start who op) h (leaves r)) m'
      × Begun key val who op m m' r.answer

  -- ---- refused
  refused_shows : (op : Op.Op) (why : Refusal) → Early why → Shows op (keeps (record_of σ who) why)
  refused_shows op why early = (
    m,
    rw (
      kept_state σ who (Answer.Refused why),
      kept_past σ (Call.Start who op) h (Answer.Refused why) (refused why early),
    ) S,
    not_begun why refl refl,
  )

  -- ---- accepted: pred is the head, and curr its plain next
  module _ (low : who < 16) (quiet : m.phase who ≡ idle) (d : Op) (fine : Fine key val d) where
    abbrev φ : Phase
    φ = walking d head (m.plain head)

    abbrev session : Session
    session = record { op = op_word d; phase = Phase.Phase.Walk 0 (next_at σ.nodes 0) }

    abbrev start : Started
    start = record { session = session; answer = Answer.Started }

    session_runs : Runs S.own φ session
    session_runs = ap (λ q. running d (Phase.Phase.Walk 0 q)) (S.nodes.plain 0 (omega (arith, S.two)))

    start_runs : (w : ℕ) → w < 16
        → Runs S.own (change m.phase who φ w) (session_of (set σ.register.sessions who session) w)
    start_runs w w<16 = elim (ℕ_discrete w who) [
      | yes e ↦ rw e (runs_at S.own φ _ session _ (change_same m.phase who φ)
          (get_or-set_same σ.register.sessions who session Steps.idle (omega (arith, S.sixteen))) session_runs)
      | no other ↦ runs_at S.own (m.phase w) _ (record_of σ w) _ (change_other m.phase who φ w other)
          (get_or-set_other σ.register.sessions who w session Steps.idle other) (S.runs w w<16)
    ]

    start_under : (w : ℕ) → at h.under who (op_word d) w ≡ task_word (task (change m.phase who φ w))
    start_under w = elim (ℕ_discrete w who) [
      | yes e ↦ rw e (at_same h.under who (op_word d)
          ∙ ap (λ x. task_word (task x)) (sym (change_same m.phase who φ)))
      | no other ↦ at_other h.under who (op_word d) w other ∙ S.tells.under w
          ∙ ap (λ x. task_word (task x)) (sym (change_other m.phase who φ w other))
    ]

    start_since : (w : ℕ) → at h.since who (stamp_of σ) w ≡ change m.since who (now empty m) w
    start_since w = elim (ℕ_discrete w who) [
      | yes e ↦ rw e (at_same h.since who (stamp_of σ) ∙ S.stamp ∙ sym (change_same m.since who (now empty m)))
      | no other ↦ at_other h.since who (stamp_of σ) w other ∙ S.tells.since w
          ∙ sym (change_other m.since who (now empty m) w other)
    ]

    start_handed : (w : ℕ) → HandedIn (change m.phase who φ w) (at h.handed who [] w)
    start_handed w = elim (ℕ_discrete w who) [
      | yes e ↦ rw e (handed_at φ _ [] _ (change_same m.phase who φ) (at_same h.handed who [])
          (handed_walk d head (m.plain head)))
      | no other ↦ handed_at (m.phase w) _ (h.handed w) _ (change_other m.phase who φ w other)
          (at_other h.handed who [] w other) (S.tells.handed w)
    ]

    start_cuts : Cuts σ.register.counters.nodes σ.register.counters.entries (begun empty m who φ)
    start_cuts =
        let C = cuts_kept m who stays φ _ _ S.cuts (λ x r. r)
        (λ k p x z c e. absurd (no_number idle (remove k) p x z c (sym quiet ∙ e) tt)) in
        record { cuts = C.cuts; once = C.once; in_use = C.in_use; cut = C.cut; count = C.count }

    start_shows : (op : Op.Op) → op_word d ≡ op → Shows op start
    start_shows op e = (
      begun empty m who φ,
      record {
        reached = gone_on S.reached (starting who (starts d quiet fine));
        head_key = S.head_key;
        tail_key = S.tail_key;
        agrees = S.agrees;
        whole_nodes = S.whole_nodes;
        whole_entries = S.whole_entries;
        two = S.two;
        most = S.most;
        nodes = record { plain = S.nodes.plain; lock = S.nodes.lock; gone = S.nodes.gone };
        own = S.own;
        rows = record {
          shows = S.rows.shows;
          sinks = S.rows.sinks;
          apart = S.rows.apart;
          blank = S.rows.blank;
        };
        stamp = S.stamp;
        sixteen = length-set σ.register.sessions who session ∙ S.sixteen;
        runs = start_runs;
        others = λ w high. change_other m.phase who φ w (λ e. omega (arith, e)) ∙ S.others w high;
        cuts = start_cuts;
        tells = record {
          updates = no_update (stamp_of σ) (stamp_of σ) _ h.updates refl ∙ S.tells.updates;
          under = λ w. ap (λ o. at h.under who o w) (sym e) ∙ start_under w;
          since = start_since;
          handed = start_handed;
        };
      },
      has_begun d e (starts d quiet fine) refl,
    )

  -- a session whose record is not busy is idle
  phase_idle : who < 16 → busy_of (record_of σ who) ≡ false → m.phase who ≡ idle
  phase_idle low calm = ⊎_elim
      (λ b. true_false (sym (busy_record S.own (m.phase who) (record_of σ who) b (S.runs who low)) ∙ calm))
      (λ e. e) (busy_or_idle (m.phase who))

  began_shows : (op : Op.Op) → InWords (Call.Start who op) → who < 16 → busy_of (record_of σ who) ≡ false
      → Shows op (began σ.nodes (record_of σ who) op)
  began_shows op words low calm = began_cases (Shows op) σ.nodes (record_of σ who) op
      (refused_shows op) (λ bad order.
      let d = drawn key val S.head_key S.tail_key op bad order words.0 words.1 in
      subst (λ o. Shows op (record {
        session = record { op = o; phase = Phase.Phase.Walk 0 (next_at σ.nodes 0) };
        answer = Answer.Started;
      })) d.1 (start_shows low (phase_idle low calm) d.0 d.2 op d.1))

  -- ---- ANY START
  pub start_begun : (op : Op.Op) → InWords (Call.Start who op) → (m' : Drawing)
      × Shown small key val (go small σ (Call.Start who op)) (note small σ (Call.Start who op) h) m'
      × Begun key val who op m m' (answer small σ (Call.Start who op))
  start_begun op words = start_cases (Shows op) small σ.nodes σ.entries who (record_of σ who) op
      (refused_shows op) (began_shows op words)

  pub start_shown : (op : Op.Op) → InWords (Call.Start who op) → (m' : Drawing)
      × Shown small key val (go small σ (Call.Start who op)) (note small σ (Call.Start who op) h) m'
  start_shown op words = let d = start_begun op words in (d.0, d.1)

  -- ---- A STEP OF AN IDLE SESSION, OR OF NONE
  idle_record : who < 16 → m.phase who ≡ idle → busy_of (record_of σ who) ≡ false
  idle_record low quiet = ap busy_of (runs_at S.own (m.phase who) idle _ _ (sym quiet) refl (S.runs who low))

  idle_step : m.phase who ≡ idle → (why : Refusal) × Early why
      × (step_of small σ.nodes σ.entries σ.register.counters who (record_of σ who)
      ≡ done σ.nodes σ.entries
      (refuses σ.register.counters (record_of σ who).op (record_of σ who).phase why))
  unfolding step_of
  idle_step quiet =
      let fit = fits_whole small σ.nodes σ.entries S.whole_nodes S.whole_entries in
      elim (dec_lt who 16) [
        | yes low ↦ (Refusal.Idle, tt, rw (fit, lt-ltb who 16 low, idle_record low quiet) refl)
        | no high ↦ (Refusal.BadSession, tt, rw (fit, le-ltb who 16 (omega arith)) refl)
      ]

  pub idle_refused : m.phase who ≡ idle → (why : Refusal) × Early why
      × (called small σ (Call.Step who) ≡ kept σ who (Answer.Refused why))
  idle_refused quiet = let d = idle_step quiet in (d.0, d.1, ap (after_step σ.register who) d.2)

  pub idle_shown : m.phase who ≡ idle
      → Shown small key val (go small σ (Call.Step who)) (note small σ (Call.Step who) h) m
  idle_shown quiet = let d = idle_refused quiet in
      unchanged small key val σ h m (Call.Step who) (Answer.Refused d.0) d.2 (refused d.0 d.1) S
