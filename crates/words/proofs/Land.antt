-- What a call leaves, told by the step of its session: the plumbing between `act_step` and `Shown`.
-- In order: calls told by what they leave; a busy session's step; a call that leaves all as it was; the pieces of a
-- step, and `land`, which puts them together; steps that change the session's record alone.
-- Not here: which step it is, phase by phase. Assumes nothing.
use Prim.Native.Nat.{ℕ, ◌*◌, ◌≤◌, ◌<◌}
use mathlib.Core.Path.{◌≡◌, refl, sym, ◌∙◌, ap, subst}
use mathlib.Core.Logic.{◌⊎◌, inl, inr, ⊎_elim, ◌≢◌}
use mathlib.Core.Bool.{true, cond}
use mathlib.Core.List.{List, ◌++◌, map}
use native.Mathlib.Decide.{ℕ_discrete}
use native.Mathlib.Omega.{arith}
use lib.ListN.{length, set, length-set}
use lib.Seq.{get_or-set_same, get_or-set_other, set-get_or}
use lib.Dec.{ltb}
use borrow.Author.Tests.{lt-ltb, le-ltb, eq-eqb}
use Rattle.order.specs.Set.{Pair, Update, insert, remove}
use Rattle.order.specs.History.{Removed, empty, said}
use Rattle.order.specs.Shape.{gone_on}
use Rattle.terms.specs.Terms.{small}
use Rattle.terms.specs.declared.Size.{Size}
use Rattle.terms.specs.declared.Counters.{Counters}
use Rattle.terms.specs.declared.Op
use Rattle.terms.specs.declared.Refusal.{Refusal}
use Rattle.terms.specs.declared.Answer.{Answer}
use Rattle.steps.specs.declared.Phase
use Rattle.steps.specs.declared.Session.{Session}
use Rattle.steps.specs.declared.Stepped.{Stepped}
use Rattle.steps.specs.Steps
use Rattle.steps.specs.Steps.{done, act_step, busy_of, under_way}
use Rattle.register.specs.Register.{fits, step_of}
use Rattle.sixteen.specs.declared.Call.{Call}
use Rattle.sixteen.specs.Sixteen.{Left, served, with, after_step, session_of}
use Rattle.reached.specs.Reached.{State, stamp_of, record_of, op_of, who_of, asked_of, state_in, answer_in, called, go}
use Rattle.reached.specs.Reached.{answer, Past, update_of, under_by, since_by, handed_by, note}
use Rattle.reached.proofs.History.{at_same, at_other, under_other}
use Rattle.drawing.specs.Phases.{Op, upd, has, range, Phase, idle, walking, locking, locking_curr, checking, preparing}
use Rattle.drawing.specs.Phases.{numbering, linking, finishing, seeking, fixing, following, handing, task}
use Rattle.drawing.specs.Drawing.{change, Drawing, now}
use Rattle.drawing.specs.Effects.{Effect, stays, log_by, after}
use Rattle.drawing.specs.Steps.{Out, working, present, absent, full, inserted, removed, key_value, ended, Step, Waits}
use Rattle.drawing.specs.Steps.{stepping}
use Rattle.drawing.proofs.Change.{change_same, change_other}
use Rattle.drawing.proofs.Tasks.{Next, task_stays}
use Rattle.words.proofs.Show.{Agrees, Nodes, Rows, task_word, running, Runs, BeingCut, Cuts, HandedIn, Tells}
use Rattle.words.proofs.Show.{Shown, out_word, waited, stepped, Advanced}

-- ---- a call told by what it leaves
abbrev pub used_of : State → ℕ
used_of σ = σ.register.counters.nodes

abbrev pub note_of : State → Call → Past → Left → Past
note_of σ c h l = record {
  updates = cond (ltb (stamp_of σ) (stamp_of (state_in l))) (update_of (h.under (who_of c)) ++ h.updates) h.updates;
  under = under_by (answer_in l) (who_of c) (asked_of c) h.under;
  since = since_by (answer_in l) (who_of c) (stamp_of σ) h.since;
  handed = handed_by (answer_in l) (who_of c) h.handed;
}

-- the step of session t leaves this
abbrev pub left_by : State → ℕ → List ℕ → List ℕ → Stepped → Left
left_by σ t ns es r = served ns es (with σ.register r.counters t r.session r.answer)

abbrev pub Acts : State → ℕ → List ℕ → List ℕ → Stepped → Type 0
Acts σ t ns es r =
    act_step small σ.nodes σ.entries σ.register.counters t (op_of σ t) (record_of σ t).phase ≡ done ns es r

-- ---- a busy session's record
abbrev pub Busy : Phase → Type 0
Busy idle = ⊥
Busy (walking op p q) = Unit {0}
Busy (locking u p q) = Unit {0}
Busy (locking_curr k p q) = Unit {0}
Busy (checking u p q) = Unit {0}
Busy (preparing u p q) = Unit {0}
Busy (numbering u p y z c) = Unit {0}
Busy (linking u p y z c n) = Unit {0}
Busy (finishing u p y z c n) = Unit {0}
Busy (seeking k x) = Unit {0}
Busy (fixing low high p) = Unit {0}
Busy (following low high x s given) = Unit {0}
Busy (handing low high x s given) = Unit {0}

pub busy_or_idle : (φ : Phase) → Busy φ ⊎ (φ ≡ idle)
busy_or_idle idle = inr refl
busy_or_idle (walking op p q) = inl tt
busy_or_idle (locking u p q) = inl tt
busy_or_idle (locking_curr k p q) = inl tt
busy_or_idle (checking u p q) = inl tt
busy_or_idle (preparing u p q) = inl tt
busy_or_idle (numbering u p y z c) = inl tt
busy_or_idle (linking u p y z c n) = inl tt
busy_or_idle (finishing u p y z c n) = inl tt
busy_or_idle (seeking k x) = inl tt
busy_or_idle (fixing low high p) = inl tt
busy_or_idle (following low high x s given) = inl tt
busy_or_idle (handing low high x s given) = inl tt

pub running_busy : (op : Op) (ph : Phase.Phase) → under_way ph ≡ true → busy_of (running op ph) ≡ true
running_busy (upd (insert k v)) ph e = e
running_busy (upd (remove k)) ph e = e
running_busy (has k) ph e = e
running_busy (range low high) ph e = e

pub busy_record : (own : ℕ → List ℕ) (φ : Phase) (s : Session) → Busy φ → Runs own φ s → busy_of s ≡ true
busy_record own idle s b r = absurd b
busy_record own (walking op p q) s b r = ap busy_of r ∙ running_busy op (Phase.Phase.Walk p q) refl
busy_record own (locking u p q) s b r = ap busy_of r ∙ running_busy (upd u) (Phase.Phase.Lock p q) refl
busy_record own (locking_curr k p q) s b r =
    ap busy_of r ∙ running_busy (upd (remove k)) (Phase.Phase.LockCurr p q) refl
busy_record own (checking u p q) s b r = ap busy_of r ∙ running_busy (upd u) (Phase.Phase.Check p q) refl
busy_record own (preparing u p q) s b r = ap busy_of r ∙ running_busy (upd u) (Phase.Phase.Prepare p q) refl
busy_record own (numbering u p y z c) s b (lo, hi, _, _, r) =
    ap busy_of r ∙ running_busy (upd u) (Phase.Phase.Number p y lo hi) refl
busy_record own (linking u p y z c n) s b (lo, hi, _, _, r) =
    ap busy_of r ∙ running_busy (upd u) (Phase.Phase.Link p y lo hi n) refl
busy_record own (finishing u p y z c n) s b (lo, hi, _, _, r) =
    ap busy_of r ∙ running_busy (upd u) (Phase.Phase.Finish p y lo hi n) refl
busy_record own (seeking k x) s b r = ap busy_of r ∙ running_busy (has k) (Phase.Phase.Newest x) refl
busy_record own (fixing low high p) s b r = ap busy_of r ∙ running_busy (range low high) (Phase.Phase.Fix p) refl
busy_record own (following low high x t given) s b r =
    ap busy_of r ∙ running_busy (range low high) (Phase.Phase.Follow x t (length given)) refl
busy_record own (handing low high x t given) s b r =
    ap busy_of r ∙ running_busy (range low high) (Phase.Phase.Hand x t (length given)) refl

-- ---- its step, past the checks
pub fits_whole : (z : Size) (ns es : List ℕ) → length ns ≡ z.nodes * 6 → length es ≡ z.entries * 4
    → fits z ns es ≡ true
unfolding fits
fits_whole z ns es a b = rw (eq-eqb _ _ a, eq-eqb _ _ b)

pub step_acts : (z : Size) (ns es : List ℕ) (c : Counters) (t : ℕ) (s : Session) → fits z ns es ≡ true → t < 16
    → busy_of s ≡ true → step_of z ns es c t s ≡ act_step z ns es c t s.op s.phase
unfolding step_of
step_acts z ns es c t s whole t<16 busy = rw (whole, lt-ltb t 16 t<16, busy) refl

module _ (key val : ℕ → ℕ) (σ : State) (h : Past) (m : Drawing) (S : Shown small key val σ h m) (t : ℕ) where
  pub call_acts : (φ : Phase) → t < 16 → m.phase t ≡ φ → Busy φ → (ns es : List ℕ) (r : Stepped) → Acts σ t ns es r
      → called small σ (Call.Step t) ≡ left_by σ t ns es r
  call_acts φ t<16 e b ns es r acts = ap (after_step σ.register t)
      (step_acts small σ.nodes σ.entries σ.register.counters t (record_of σ t)
      (fits_whole small σ.nodes σ.entries S.whole_nodes S.whole_entries) t<16
      (busy_record S.own φ (record_of σ t) b (rw e at (S.runs t t<16))) ∙ acts)

-- ---- a call that leaves all as it was: it waits, or is refused by a reason that is neither full nor damaged
abbrev pub Early : Refusal → Type 0
Early Refusal.BadSession = Unit {0}
Early Refusal.Busy = Unit {0}
Early Refusal.BadKey = Unit {0}
Early Refusal.BadRange = Unit {0}
Early Refusal.Idle = Unit {0}
Early Refusal.Full = ⊥
Early Refusal.BadTable = Unit {0}
Early Refusal.Damaged = ⊥

pub data Silent : Answer → Type 0 where
  waiting : Silent Answer.Waiting
  refused : (why : Refusal) → Early why → Silent (Answer.Refused why)

early_under : (why : Refusal) → Early why → (who : ℕ) (op : Op.Op) (f : ℕ → Op.Op)
    → under_by (Answer.Refused why) who op f ≡ f
early_under Refusal.BadSession e who op f = refl
early_under Refusal.Busy e who op f = refl
early_under Refusal.BadKey e who op f = refl
early_under Refusal.BadRange e who op f = refl
early_under Refusal.Idle e who op f = refl
early_under Refusal.Full e who op f = absurd e
early_under Refusal.BadTable e who op f = refl
early_under Refusal.Damaged e who op f = absurd e

abbrev pub kept : State → ℕ → Answer → Left
kept σ t a = served σ.nodes σ.entries (with σ.register σ.register.counters t (record_of σ t) a)

pub kept_state : (σ : State) (t : ℕ) (a : Answer) → state_in (kept σ t a) ≡ σ
kept_state σ t a = ap (λ all. record {
  nodes = σ.nodes;
  entries = σ.entries;
  register = record { counters = σ.register.counters; sessions = all };
}) (set-get_or σ.register.sessions t Steps.idle)

pub no_update : {A : Type 0} (a b : ℕ) (x y : A) → b ≡ a → cond (ltb a b) x y ≡ y
no_update a b x y same = rw (le-ltb a b (omega arith)) refl

past_is : (h : Past) (us : List Update) (f : ℕ → Op.Op) → us ≡ h.updates → f ≡ h.under
    → record { updates = us; under = f; since = h.since; handed = h.handed } ≡ h
past_is h us f e d = rw (e, d) refl

pub kept_past : (σ : State) (c : Call) (h : Past) (a : Answer) → Silent a → note_of σ c h (kept σ (who_of c) a) ≡ h
kept_past σ c h a waiting = past_is h _ _ (no_update (stamp_of σ) (stamp_of σ) _ h.updates refl) refl
kept_past σ c h a (refused why early) = past_is h _ _ (no_update (stamp_of σ) (stamp_of σ) _ h.updates refl)
    (early_under why early (who_of c) (asked_of c) h.under)

pub unchanged : (z : Size) (key val : ℕ → ℕ) (σ : State) (h : Past) (m : Drawing) (c : Call) (a : Answer)
    → called z σ c ≡ kept σ (who_of c) a → Silent a → Shown z key val σ h m
    → Shown z key val (go z σ c) (note z σ c h) m
unchanged z key val σ h m c a left silent S =
    subst (λ l. Shown z key val (state_in l) (note_of σ c h l) m) (sym left)
    (rw (kept_state σ (who_of c) a, kept_past σ c h a silent) S)

-- a step that waits
pub wait : (key val : ℕ → ℕ) (σ : State) (h : Past) (m : Drawing) → Shown small key val σ h m → (t : ℕ) (φ : Phase)
    → t < 16 → m.phase t ≡ φ → Busy φ → Waits t m
    → Acts σ t σ.nodes σ.entries
    (Steps.waits σ.register.counters (op_of σ t) (record_of σ t).phase) → Advanced key val σ h m t
wait key val σ h m S t φ t<16 e b waits acts =
    let left = call_acts key val σ h m S t φ t<16 e b _ _ _ acts in (
      m,
      unchanged small key val σ h m (Call.Step t) Answer.Waiting left waiting S,
      waited waits refl (ap answer_in left),
    )

-- ---- what a step that answers adds to the history
pub since_out : (o : Out) (t stamp : ℕ) (f : ℕ → ℕ) → since_by (out_word o) t stamp f ≡ f
since_out working t stamp f = refl
since_out present t stamp f = refl
since_out absent t stamp f = refl
since_out full t stamp f = refl
since_out (inserted n) t stamp f = refl
since_out (removed n) t stamp f = refl
since_out (key_value k v) t stamp f = refl
since_out (ended s given) t stamp f = refl

-- a step ends its own session's operation where the drawing does
under_own : (o : Out) (ψ φ : Phase) → Next o ψ φ → (t : ℕ) (op : Op.Op) (f : ℕ → Op.Op)
    → f t ≡ task_word (task ψ) → under_by (out_word o) t op f t ≡ task_word (task φ)
under_own working ψ φ next t op f e = e ∙ ap task_word (sym next)
under_own present ψ φ next t op f e = at_same f t _ ∙ ap (λ x. task_word (task x)) (sym next)
under_own absent ψ φ next t op f e = at_same f t _ ∙ ap (λ x. task_word (task x)) (sym next)
under_own full ψ φ next t op f e = at_same f t _ ∙ ap (λ x. task_word (task x)) (sym next)
under_own (inserted n) ψ φ next t op f e = at_same f t _ ∙ ap (λ x. task_word (task x)) (sym next)
under_own (removed n) ψ φ next t op f e = at_same f t _ ∙ ap (λ x. task_word (task x)) (sym next)
under_own (key_value k v) ψ φ next t op f e = e ∙ ap task_word (sym next)
under_own (ended s given) ψ φ next t op f e = at_same f t _ ∙ ap (λ x. task_word (task x)) (sym next)

pub handed_other : (o : Out) (t : ℕ) (f : ℕ → List Pair) (w : ℕ) → w ≢ t → handed_by (out_word o) t f w ≡ f w
handed_other working t f w w≢t = refl
handed_other present t f w w≢t = refl
handed_other absent t f w w≢t = refl
handed_other full t f w w≢t = refl
handed_other (inserted n) t f w w≢t = refl
handed_other (removed n) t f w w≢t = refl
handed_other (key_value k v) t f w w≢t = at_other f t _ w w≢t
handed_other (ended s given) t f w w≢t = refl

-- ---- the pieces of a step of session t that leaves ns, es and r in the words, and has out o, effect f and next
-- phase
-- φ in the drawing
pub record Landing (key val : ℕ → ℕ) (σ : State) (h : Past) (m : Drawing) (t : ℕ) (ns es : List ℕ) (r : Stepped)
    (o : Out) (f : Effect) (φ : Phase) : Type 0 where
  pub acts : Acts σ t ns es r
  pub step : Step key val empty t m o f φ
  pub answers : r.answer ≡ out_word o
  pub whole_nodes : length ns ≡ small.nodes * 6
  pub whole_entries : length es ≡ small.entries * 4
  pub two : 2 ≤ r.counters.nodes
  pub most : r.counters.nodes ≤ small.nodes
  pub nodes : Nodes r.counters.nodes ns (after empty m t f φ)
  pub own : ℕ → List ℕ
  pub rows : Rows small.entries r.counters.nodes r.counters.entries ns es own (after empty m t f φ)
  pub stamp : r.counters.stamp ≡ now empty (after empty m t f φ)
  pub runs : Runs own φ r.session
  pub others : (w : ℕ) → w < 16 → w ≢ t → Runs own (m.phase w) (record_of σ w)
  pub cuts : Cuts r.counters.nodes r.counters.entries (after empty m t f φ)
  pub updates : cond (ltb (stamp_of σ) r.counters.stamp) (update_of (h.under t) ++ h.updates) h.updates
      ≡ map (said key val) (log_by f m.log)
  pub handed : HandedIn φ (handed_by r.answer t h.handed t)

pub runs_at : (own : ℕ → List ℕ) (φ φ' : Phase) (s s' : Session) → φ' ≡ φ → s' ≡ s → Runs own φ s → Runs own φ' s'
runs_at own φ φ' s s' e d r = rw (e, d) r

pub handed_at : (φ φ' : Phase) (l l' : List Pair) → φ' ≡ φ → l' ≡ l → HandedIn φ l → HandedIn φ' l'
handed_at φ φ' l l' e d r = rw (e, d) r

module _ (key val : ℕ → ℕ) (σ : State) (h : Past) (m : Drawing) (S : Shown small key val σ h m) (t : ℕ)
    (t<16 : t < 16)
    (ns es : List ℕ) (r : Stepped) (o : Out) (f : Effect) (φ : Phase)
    (L : Landing key val σ h m t ns es r o f φ) where
  abbrev next : Drawing
  next = after empty m t f φ

  runs_after : (w : ℕ) → w < 16
      → Runs L.own (change m.phase t φ w) (session_of (set σ.register.sessions t r.session) w)
  runs_after w w<16 = elim (ℕ_discrete w t) [
    | yes e ↦ rw e (runs_at L.own φ _ r.session _ (change_same m.phase t φ)
        (get_or-set_same σ.register.sessions t r.session Steps.idle (omega (arith, S.sixteen))) L.runs)
    | no w≢t ↦ runs_at L.own (m.phase w) _ (record_of σ w) _ (change_other m.phase t φ w w≢t)
        (get_or-set_other σ.register.sessions t w r.session Steps.idle w≢t) (L.others w w<16 w≢t)
  ]

  under_next : (w : ℕ) → under_by (out_word o) t Op.Op.None h.under w ≡ task_word (task (next.phase w))
  under_next w = elim (ℕ_discrete w t) [
    | yes e ↦ rw e (under_own o (m.phase t) φ (task_stays key val empty m t L.step) t _ h.under
        (S.tells.under t) ∙ ap (λ x. task_word (task x)) (sym (change_same m.phase t φ)))
    | no w≢t ↦ under_other (out_word o) t _ h.under w w≢t ∙ S.tells.under w
        ∙ ap (λ x. task_word (task x)) (sym (change_other m.phase t φ w w≢t))
  ]

  tells_after : Tells key val (note_of σ (Call.Step t) h (left_by σ t ns es r)) next
  tells_after = record {
    updates = L.updates;
    under = λ w. ap (λ a. under_by a t Op.Op.None h.under w) L.answers ∙ under_next w;
    since = λ w. ap (λ a. since_by a t (stamp_of σ) h.since w) L.answers
        ∙ ap (λ g. g w) (since_out o t (stamp_of σ) h.since) ∙ S.tells.since w;
    handed = λ w. elim (ℕ_discrete w t) [
      | yes e ↦ rw e (handed_at φ _ _ _ (change_same m.phase t φ) refl L.handed)
      | no w≢t ↦ handed_at (m.phase w) _ (h.handed w) _ (change_other m.phase t φ w w≢t)
          (ap (λ a. handed_by a t h.handed w) L.answers ∙ handed_other o t h.handed w w≢t)
          (S.tells.handed w)
    ];
  }

  shown_after : Agrees key val r.counters.nodes ns
      → Shown small key val (state_in (left_by σ t ns es r)) (note_of σ (Call.Step t) h (left_by σ t ns es r)) next
  shown_after agrees = record {
    reached = gone_on S.reached (stepping t L.step);
    head_key = S.head_key;
    tail_key = S.tail_key;
    agrees = agrees;
    whole_nodes = L.whole_nodes;
    whole_entries = L.whole_entries;
    two = L.two;
    most = L.most;
    nodes = L.nodes;
    own = L.own;
    rows = L.rows;
    stamp = L.stamp;
    sixteen = length-set σ.register.sessions t r.session ∙ S.sixteen;
    runs = runs_after;
    others = λ w high. change_other m.phase t φ w (λ e. omega (arith, e)) ∙ S.others w high;
    cuts = L.cuts;
    tells = tells_after;
  }

  -- THE WORDS AFTER IT SHOW THE DRAWING AFTER IT
  pub land : (φ₀ : Phase) → m.phase t ≡ φ₀ → Busy φ₀
      → Agrees key val (used_of (go small σ (Call.Step t))) (go small σ (Call.Step t)).nodes
      → Advanced key val σ h m t
  land φ₀ e b agrees =
      let left = call_acts key val σ h m S t φ₀ t<16 e b ns es r L.acts in
      let agree : Agrees key val r.counters.nodes ns =
      subst (λ l. Agrees key val (used_of (state_in l)) (state_in l).nodes) left agrees in (
        next,
        subst (λ l. Shown small key val (state_in l) (note_of σ (Call.Step t) h l) next) (sym left)
            (shown_after agree),
        stepped o f φ L.step refl (ap answer_in left ∙ L.answers),
      )

-- ---- the nodes being removed, where a step adds none: what it numbers itself is in the log afterwards
pub cuts_kept : (m : Drawing) (t : ℕ) (f : Effect) (φ : Phase) (used laid : ℕ) → Cuts used laid m
    → ((x : ℕ) → Removed x m.log → Removed x (log_by f m.log))
    → ((k p x z c : ℕ) → m.phase t ≡ numbering (remove k) p x z c → Removed x (log_by f m.log))
    → Cuts used laid (after empty m t f φ)
cuts_kept m t f φ used laid C grows own = record {
  cuts = C.cuts;
  once = C.once;
  in_use = C.in_use;
  cut = λ x i. ⊎_elim (λ r. inl (grows x r)) (being x) (C.cut x i);
  count = C.count;
}
  where
    being : (x : ℕ) → BeingCut m x → Removed x (log_by f m.log) ⊎ BeingCut (after empty m t f φ) x
    being x (w, k, p, z, c, e) = elim (ℕ_discrete w t) [
      | yes w≡t ↦ inl (own k p x z c (rw w≡t at e))
      | no w≢t ↦ inr (w, k, p, z, c, change_other m.phase t φ w w≢t ∙ e)
    ]

-- a phase that is no Number
abbrev pub NoNumber : Phase → Type 0
NoNumber idle = Unit {0}
NoNumber (walking op p q) = Unit {0}
NoNumber (locking u p q) = Unit {0}
NoNumber (locking_curr k p q) = Unit {0}
NoNumber (checking u p q) = Unit {0}
NoNumber (preparing u p q) = Unit {0}
NoNumber (numbering u p y z c) = ⊥
NoNumber (linking u p y z c n) = Unit {0}
NoNumber (finishing u p y z c n) = Unit {0}
NoNumber (seeking k x) = Unit {0}
NoNumber (fixing low high p) = Unit {0}
NoNumber (following low high x s given) = Unit {0}
NoNumber (handing low high x s given) = Unit {0}

pub no_number : (φ : Phase) (u : Update) (p y z c : ℕ) → φ ≡ numbering u p y z c → ¬ NoNumber φ
no_number φ u p y z c e n = rw e at n

-- ---- a step that changes the session's record alone
module _ (key val : ℕ → ℕ) (σ : State) (h : Past) (m : Drawing) (S : Shown small key val σ h m) (t : ℕ)
    (t<16 : t < 16)
    (φ₀ : Phase) (here : m.phase t ≡ φ₀) where
  abbrev pub Same : Session → Answer → Stepped
  Same s a = record { counters = σ.register.counters; session = s; answer = a }

  quiet_landing : NoNumber φ₀ → (s : Session) (a : Answer) (o : Out) (φ : Phase)
      → Acts σ t σ.nodes σ.entries (Same s a) → Step key val empty t m o stays φ → a ≡ out_word o
      → Runs S.own φ s → HandedIn φ (handed_by a t h.handed t)
      → Landing key val σ h m t σ.nodes σ.entries (Same s a) o stays φ
  quiet_landing other s a o φ acts step answers runs handed = record {
    acts = acts;
    step = step;
    answers = answers;
    whole_nodes = S.whole_nodes;
    whole_entries = S.whole_entries;
    two = S.two;
    most = S.most;
    nodes = record { plain = S.nodes.plain; lock = S.nodes.lock; gone = S.nodes.gone };
    own = S.own;
    rows = record {
      shows = S.rows.shows;
      sinks = S.rows.sinks;
      apart = S.rows.apart;
      blank = S.rows.blank;
    };
    stamp = S.stamp;
    runs = runs;
    others = λ w w<16 _. S.runs w w<16;
    cuts = cuts_kept m t stays φ _ _ S.cuts (λ x r. r)
        (λ k p x z c e. absurd (no_number φ₀ (remove k) p x z c (sym here ∙ e) other));
    updates = no_update (stamp_of σ) (stamp_of σ) _ h.updates refl ∙ S.tells.updates;
    handed = handed;
  }

  pub quiet : NoNumber φ₀ → Busy φ₀ → Agrees key val (used_of (go small σ (Call.Step t))) (go small σ (Call.Step t)
      ).nodes
      → (s : Session) (a : Answer) (o : Out) (φ : Phase)
      → Acts σ t σ.nodes σ.entries (Same s a) → Step key val empty t m o stays φ → a ≡ out_word o
      → Runs S.own φ s → HandedIn φ (handed_by a t h.handed t) → Advanced key val σ h m t
  quiet other busy agrees s a o φ acts step answers runs handed =
      land key val σ h m S t t<16 σ.nodes σ.entries (Same s a) o stays φ
      (quiet_landing other s a o φ acts step answers runs handed) φ₀ here busy agrees
