-- A register that shows a drawing, and what each call to it is there: refused, a start, a wait or a step.
-- In order: whose counted step an answer tells; the head is not given; a register with its drawing and the nodes
-- given, and how many they are; the next one, by call; reached registers; a range at its start.
-- Not here: what words show a drawing, and that calls keep it (crate words); turns (crate pace). Assumes nothing.
use Prim.Native.Nat.{ℕ, ◌≤◌, ◌<◌}
use mathlib.Core.Path.{◌≡◌, refl, sym, ◌∙◌, ap, subst}
use mathlib.Core.Logic.{inl, ⊎_elim, ◌≢◌}
use mathlib.Core.Option.{Option, none, some}
use mathlib.Core.List.Memᴰ
use mathlib.Core.List.{List, [], Memᴰ}
use native.Mathlib.Decide.{ℕ_discrete}
use native.Mathlib.Omega.{arith}
use lib.ListN.{length}
use Rattle.order.specs.Set.{insert, remove}
use Rattle.order.specs.History.{head, tail, empty}
use Rattle.terms.specs.Terms.{small}
use Rattle.terms.specs.declared.Op
use Rattle.terms.specs.declared.Refusal.{Refusal}
use Rattle.terms.specs.declared.Answer.{Answer}
use Rattle.sixteen.specs.declared.Call.{Call}
use Rattle.reached.specs.Reached.{State, answer_in, go, Past, note, InWords, Reached, fresh, on}
use Rattle.reached.specs.Fair.{Lived, go_on, reply, counted, whose, given}
use Rattle.drawing.specs.Phases.{Op, upd, has, range, Phase, idle, walking, task}
use Rattle.drawing.specs.Drawing.{Drawing, beginning}
use Rattle.drawing.specs.Effects.{Effect, given_by, after}
use Rattle.drawing.specs.Steps.{Out, working, present, absent, full, inserted, removed, key_value, ended, Step}
use Rattle.drawing.specs.Steps.{walk_on, walk_arrive, lock_pred, lock_curr, check_again, check_present}
use Rattle.drawing.specs.Steps.{check_absent, check_pass, prepare_full, prepare_insert, prepare_remove}
use Rattle.drawing.specs.Steps.{number_it, link_it, finish_it, seek_on, seek_present, seek_absent, fix_it}
use Rattle.drawing.specs.Steps.{follow_on, follow_in, follow_end, hand_out}
use Rattle.drawing.proofs.Change.{change_same, change_other}
use Rattle.drawing.proofs.Inv.{Inv}
use Rattle.drawing.proofs.Room.{distinct_length, used_below, on_used}
use Rattle.drawing.proofs.Given.{Listed, listed_step, listed_start, listed_beginning, nodes_of, nodes_length}
use Rattle.drawing.proofs.Given.{nodes_mem}
use Rattle.words.proofs.Show.{Agrees, op_word, Shown, out_word, waited, stepped, Advanced, shown_inv}
use Rattle.words.proofs.Land.{used_of, Early}
use Rattle.words.proofs.Back.{agree_back}
use Rattle.words.proofs.Fresh.{fresh_shows}
use Rattle.words.proofs.Starts.{Begun, not_begun, has_begun, start_begun, idle_refused, idle_shown}
use Rattle.words.proofs.Whole.{step_advances}
use Rattle.pace.specs.Turns.{Turn, refused, starting, waiting, stepping, Open}
use Rattle.pace.proofs.Turns.{none_some}
use Rattle.pace.proofs.Ends.{end_turn, end_step}

-- ---- whose counted step an answer tells: none's where it is refused early, the session's where the drawing steps
early_none : (t : ℕ) (why : Refusal) → Early why → counted t (Answer.Refused why) ≡ none
early_none t Refusal.BadSession e = refl
early_none t Refusal.Busy e = refl
early_none t Refusal.BadKey e = refl
early_none t Refusal.BadRange e = refl
early_none t Refusal.Idle e = refl
early_none t Refusal.Full e = absurd e
early_none t Refusal.BadTable e = refl
early_none t Refusal.Damaged e = absurd e

pub out_some : (t : ℕ) (o : Out) → counted t (out_word o) ≡ some t
out_some t working = refl
out_some t present = refl
out_some t absent = refl
out_some t full = refl
out_some t (inserted n) = refl
out_some t (removed n) = refl
out_some t (key_value k v) = refl
out_some t (ended s handed) = refl

started_refused : {P : Type 0} {why : Refusal} → Answer.Started ≡ Answer.Refused why → P
started_refused e = let z : ◌≡◌ {A = ℕ} 0 1 = cc in absurd (omega arith)

-- ---- the head is never given: an insert's Prepare takes a node without entries
module _ (key val : ℕ → ℕ) (m : Drawing) (I : Inv key val empty m) (t : ℕ) (nodes : List ℕ)
    (no_head : ¬ Memᴰ head nodes) where
  headless : {o : Out} {f : Effect} {φ : Phase} → Step key val empty t m o f φ → ¬ Memᴰ head (given_by f nodes)
  headless (walk_on op p q e h) = no_head
  headless (walk_arrive op p q e h) = no_head
  headless (lock_pred u p q e l) = no_head
  headless (lock_curr k p q e l) = no_head
  headless (check_again u p q e s) = no_head
  headless (check_present k v p q e g h) = no_head
  headless (check_absent k p q e g h) = no_head
  headless (check_pass u p q e g h) = no_head
  headless (prepare_full k v p q r e b) = no_head
  headless (prepare_insert k v p q r n e bp bn n≢tail nk nv) = λ mem. ⊎_elim
      (λ z. on_used key val empty m I head (inl refl) (ap m.bundle z ∙ bn)) no_head (Memᴰ.cases_cons mem)
  headless (prepare_remove k p q r r₂ e bp bq) = no_head
  headless (number_it u p y z c e) = no_head
  headless (link_it u p y z c n e) = no_head
  headless (finish_it u p y z c n r r₂ e bp by) = no_head
  headless (seek_on k x q e a h) = no_head
  headless (seek_present k x q e a h) = no_head
  headless (seek_absent k x q e a h) = no_head
  headless (fix_it low high p e) = no_head
  headless (follow_on low high x s q handed e a h) = no_head
  headless (follow_in low high x s q handed e a h k) = no_head
  headless (follow_end low high x s q handed e a h k) = no_head
  headless (hand_out low high x s handed e) = no_head

-- ---- a register with a drawing that its words show, and the nodes given in it
pub record Live (key val : ℕ → ℕ) (l : Lived) : Type 0 where
  pub drawing : Drawing
  pub shown : Shown small key val l.state l.past drawing
  pub nodes : List ℕ
  pub listed : Listed nodes drawing
  pub no_head : ¬ Memᴰ head nodes

module _ (key val : ℕ → ℕ) where
  -- they are no more than the node counter says
  node_bounds : {l : Lived} (L : Live key val l) (x : ℕ) → Memᴰ x L.nodes
      → (2 ≤ x) × (x < used_of l.state)
  node_bounds {l} L x k =
      let m = L.drawing in
      let S = L.shown in
      let used = L.listed.used x k in
      let x≢head : x ≢ head = λ e. L.no_head (subst (λ y. Memᴰ y L.nodes) e k) in
      let x≢tail : x ≢ tail = λ e. used (ap m.bundle e ∙ (shown_inv S).own.ends) in
      (omega (arith, x≢head, x≢tail), used_below m (used_of l.state) S.two S.rows.blank x (inl used))

  pub few_nodes : {l : Lived} (L : Live key val l) → length L.nodes ≤ given l.state
  few_nodes {l} L = omega (
    arith,
    nodes_length (given l.state),
    distinct_length L.nodes (nodes_of (given l.state)) L.listed.distinct (λ x k.
        let b = node_bounds L x k in nodes_mem x (given l.state) b.0 (omega (arith, b.0, b.1))),
  )

  -- ---- the next register, by the call: whose turn it was; and if it ended a range, it answered end
  pub record Next {l : Lived} (L : Live key val l) (c : Call) : Type 0 where
    pub live : Live key val (go_on l c)
    pub turn : Turn key val empty L.drawing L.nodes (whose l c) live.drawing live.nodes
    pub ends : (q low high : ℕ) → Open q low high L.drawing → ¬ Open q low high live.drawing
        → (s n : ℕ) × (reply l c ≡ Answer.End s n)

  module _ {l : Lived} (L : Live key val l) where
    abbrev m : Drawing
    m = L.drawing

    abbrev σ : State
    σ = l.state

    abbrev h : Past
    h = l.past

    abbrev Told : Option ℕ → Drawing → List ℕ → Type 0
    Told o m' nodes' = Turn key val empty m L.nodes o m' nodes'

    turn_is : {o o' : Option ℕ} {m' m'' : Drawing} {nodes' : List ℕ} → o ≡ o' → m' ≡ m'' → Told o' m'' nodes'
        → Told o m' nodes'
    turn_is a b turn = rw (a, b) turn

    -- the same drawing
    stays : (c : Call) (m' : Drawing) → m' ≡ m → Shown small key val (go small σ c) (note small σ c h) m'
        → Told (whose l c) m' L.nodes → Next L c
    stays c m' e S turn = record {
      live = record {
        drawing = m';
        shown = S;
        nodes = L.nodes;
        listed = rw e L.listed;
        no_head = L.no_head;
      };
      turn = turn;
      ends = λ q low high is_open shut. absurd (shut (rw e is_open));
    }

    -- a step of an idle session, or of none
    idle_next : (t : ℕ) → m.phase t ≡ idle → Next L (Call.Step t)
    idle_next t e =
        let d = idle_refused key val σ h m L.shown t e in
        let nobody = ap (λ left. counted t (answer_in left)) d.2 ∙ early_none t d.0 d.1 in
        stays (Call.Step t) m refl (idle_shown key val σ h m L.shown t e) (turn_is nobody refl refused)

    -- a step of a busy one: a range that it ends is its own
    answers_end : (t : ℕ) {o : Out} {f : Effect} {φ : Phase} → Step key val empty t m o f φ
        → reply l (Call.Step t) ≡ out_word o → (q low high : ℕ) → Open q low high m
        → ¬ Open q low high (after empty m t f φ) → (s n : ℕ) × (reply l (Call.Step t) ≡ Answer.End s n)
    answers_end t {o = o} {f = f} {φ = φ} step a q low high is_open shut = elim (ℕ_discrete q t) [
      | no q≢t ↦ absurd (shut (ap task (change_other m.phase t φ q q≢t) ∙ is_open))
      | yes q≡t ↦
          let there : Open t low high m = subst (λ w. Open w low high m) q≡t is_open in
          let d = end_step key val empty m t low high there step
          (subst (λ w. ¬ Open w low high (after empty m t f φ)) q≡t shut) in
          (d.0, length d.1, a ∙ ap out_word d.2)
    ]

    busy_next : (t : ℕ) → Advanced key val σ h m t → Next L (Call.Step t)
    busy_next t (m', S, waited w e a) = stays (Call.Step t) m' e S (turn_is (ap (counted t) a) e (waiting t w))
    busy_next t (m', S, stepped o f φ step e a) = record {
      live = record {
        drawing = m';
        shown = S;
        nodes = given_by f L.nodes;
        listed = rw e (listed_step key val empty m (shown_inv L.shown) L.nodes L.listed t step);
        no_head = headless key val m (shown_inv L.shown) t L.nodes L.no_head step;
      };
      turn = turn_is (ap (counted t) a ∙ out_some t o) e (stepping t step);
      ends = λ q low high is_open shut.
          answers_end t step a q low high is_open (λ still. shut (rw e still));
    }

    -- a start
    begun_next : (t : ℕ) (op : Op.Op) (m' : Drawing)
        → Shown small key val (go small σ (Call.Start t op)) (note small σ (Call.Start t op) h) m'
        → Begun key val t op m m' (reply l (Call.Start t op)) → Next L (Call.Start t op)
    begun_next t op m' S (not_begun why e a) = stays (Call.Start t op) m' e S (turn_is refl e refused)
    begun_next t op m' S (has_begun d word s e) =
        let turn : Told none m' L.nodes = turn_is refl e (starting t s) in record {
          live = record {
            drawing = m';
            shown = S;
            nodes = L.nodes;
            listed = rw e (listed_start empty m L.nodes L.listed t _);
            no_head = L.no_head;
          };
          turn = turn;
          ends = λ q low high is_open shut. none_some
              (end_turn key val empty m q low high is_open L.nodes turn (shown_inv L.shown) shut).its_own;
        }

    pub next : (c : Call) → InWords c → Agrees key val (used_of (go small σ c)) (go small σ c).nodes → Next L c
    next (Call.Start t op) words agrees =
        let d = start_begun key val σ h m L.shown t op words in begun_next t op d.0 d.1 d.2
    next (Call.Step t) words agrees = ⊎_elim (idle_next t) (λ a. busy_next t a.1)
        (step_advances key val σ h m L.shown t agrees)

  -- ---- EVERY REACHED REGISTER IS ONE, for key and value functions that agree with its words
  pub reached_live : {σ : State} {h : Past} → Reached small σ h → Agrees key val (used_of σ) σ.nodes
      → Live key val (record { state = σ; past = h })
  reached_live (fresh ns es ns' es' c e) agrees =
      let S = fresh_shows ns es ns' es' c e key val agrees in record {
        drawing = beginning empty;
        shown = S;
        nodes = [];
        listed = listed_beginning key val empty (omega (arith, S.head_key, S.tail_key), tt);
        no_head = Memᴰ.not-nil;
      }
  reached_live (on {σ} {h} r c words) agrees =
      (next (reached_live r (agree_back small key val σ c agrees)) c words agrees).live

  -- ---- a range at its start: it walks from the head
  range_word : (d : Op) (low high : ℕ) → op_word d ≡ Op.Op.Range low high → d ≡ range low high
  range_word (upd (insert k v)) low high e = let z : ◌≡◌ {A = ℕ} 0 1 = cc in absurd (omega arith)
  range_word (upd (remove k)) low high e = let z : ◌≡◌ {A = ℕ} 0 1 = cc in absurd (omega arith)
  range_word (has k) low high e = let z : ◌≡◌ {A = ℕ} 0 1 = cc in absurd (omega arith)
  range_word (range a b) low high e = cc

  module _ {l : Lived} (L : Live key val l) (q low high : ℕ) where
    abbrev call : Call
    call = Call.Start q (Op.Op.Range low high)

    abbrev pub Walks : Type 0
    Walks = (L' : Live key val (go_on l call)) × (curr : ℕ)
        × (L'.drawing.phase q ≡ walking (range low high) head curr)

    pub begins : InWords call → reply l call ≡ Answer.Started → Walks
    unfolding begun_next
    begins words started =
        let d = start_begun key val l.state l.past L.drawing L.shown q (Op.Op.Range low high) words in
        walks d.0 d.1 d.2
      where
        walks : (m' : Drawing) → Shown small key val (go_on l call).state (go_on l call).past m'
            → Begun key val q (Op.Op.Range low high) L.drawing m' (reply l call) → Walks
        walks m' S (not_begun why e a) = started_refused (sym started ∙ a)
        walks m' S (has_begun d word s e) = (
          (begun_next L q (Op.Op.Range low high) m' S (has_begun d word s e)).live,
          L.drawing.plain head,
          ap (λ (n : Drawing). n.phase q) e ∙ change_same L.drawing.phase q _
              ∙ ap (λ op. walking op head (L.drawing.plain head)) (range_word d low high word),
        )
