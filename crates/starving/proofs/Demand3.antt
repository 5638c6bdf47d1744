-- DEMAND 3: no range query is starved; and the sharper bound.
-- In order: calls to a register with its drawing, at a query's start: fair while it is open; while it is open, or by
-- its end; that the call that ends it answers end; the sharper bound. Then that register, by key and value functions
-- from the words at the end of the calls; its last call; the demand, and the sharper bound.
-- Not here: the demand's sentences (crate reached). Assumes nothing.
use Prim.Native.Nat.{ℕ, ◌+◌, ◌*◌, ◌≤◌, ◌<◌}
use mathlib.Core.Path.{◌≡◌, refl, sym, ◌∙◌, ap, subst}
use mathlib.Core.List.{List, [], ◌∷◌, append-nil}
use native.Mathlib.Nat.{mul-le-mul_left}
use native.Mathlib.Omega.{arith}
use lib.ListN.{length}
use Rattle.order.specs.History.{head, empty}
use Rattle.nodes.specs.Nodes.{key_at, value_at}
use Rattle.terms.specs.Terms.{small}
use Rattle.terms.specs.declared.Op.{Op}
use Rattle.terms.specs.declared.Answer.{Answer}
use Rattle.sixteen.specs.declared.Call.{Call}
use Rattle.reached.specs.Reached.{on}
use Rattle.reached.specs.Fair.{Lived, go_on, reply, whose, Busy, Open, given, AllInWords, begun, Begins, FairFor}
use Rattle.reached.specs.Fair.{InTime, EndsWell, Demand3, Sharper}
use Rattle.fairness.specs.Calls.{after, Along, steps, Fair, FairWhile, Ended, OpenOrEnded}
use Rattle.drawing.specs.Phases.{range, walking}
use Rattle.fairness.proofs.Along.{along_here, along_last, along_rest}
use Rattle.fairness.proofs.Ended.{fair_while}
use Rattle.words.proofs.Back.{agree_back}
use Rattle.pace.specs.Turns.{IsOpen, IsBusy}
use Rattle.pace.proofs.Demand.{range_demand, range_sharp}
use Rattle.pace.proofs.Project.{after_project, along_up, steps_project, fair_up, open_or_ended_down}
use Rattle.starving.proofs.Reaches.{Reaches, calls_reach, words_front}
use Rattle.starving.proofs.Last.{ends_right}
use Rattle.starving.proofs.Live.{Live, reached_live, Walks, begins}
use Rattle.starving.proofs.Where.{along_where, fair_where, open_or_ended_where}
use Rattle.starving.proofs.Above.{AgreesIn, Above, live, below, drawing_of, nodes_in, Good, goes, goes_below}
use Rattle.starving.proofs.Above.{whose_turn, draws, above_opens, opens_above, above_busy, above_few, above_ends}
use Rattle.starving.proofs.Above.{agrees_first, good_along}

more_nodes : (w a n : ℕ) → a ≤ n → w * (3 * a + 6) ≤ w * (3 * n + 6)
more_nodes w a n a≤n = mul-le-mul_left {m = 3 * a + 6} {n = 3 * n + 6} w (omega arith)

more_sharp : (w a n : ℕ) → a ≤ n → w * (2 * a + 6) ≤ w * (2 * n + 6)
more_sharp w a n a≤n = mul-le-mul_left {m = 2 * a + 6} {n = 2 * n + 6} w (omega arith)

-- ---- a register with its drawing, at the start of a range; calls during which it is not lost
module _ (key val : ℕ → ℕ) (zeroth : key head ≡ 0) (q low high w : ℕ) (a : Above key val) (curr : ℕ)
    (walks : (drawing_of key val a).phase q ≡ walking (range low high) head curr) (calls : List Call)
    (good : Along (goes key val) (Good key val) a calls) where
  abbrev start : Lived
  start = below key val a

  abbrev last : Lived
  last = after go_on start calls

  -- fair calls, in words and in drawings
  drawn_fair : FairWhile go_on whose (Open q low high) Busy w start calls
      → FairWhile (goes key val) (whose_turn key val) (IsOpen (draws key val) q low high) (IsBusy (draws key val)) w
      a calls
  drawn_fair fair = fair_where (goes key val) (whose_turn key val) (Good key val)
      (λ x. Open q low high (below key val x)) (IsOpen (draws key val) q low high)
      (λ x. Busy (below key val x)) (IsBusy (draws key val))
      (above_opens key val q low high) (above_busy key val) w a calls good
      (fair_up (goes key val) go_on (below key val) (goes_below key val) whose (Open q low high) Busy w a
      calls fair)

  -- ---- WHILE IT IS OPEN, OR BY ITS END
  in_time : FairWhile go_on whose (Open q low high) Busy w start calls
      → OpenOrEnded go_on (Open q low high) whose (λ τ. w * (3 * given τ.state + 6)) start calls
  in_time fair = open_or_ended_down (goes key val) go_on (below key val) (goes_below key val) whose
      (Open q low high) Busy (λ τ. w * (3 * given τ.state + 6)) a calls
      (open_or_ended_where (goes key val) (whose_turn key val) (Good key val)
      (IsOpen (draws key val) q low high) (λ x. Open q low high (below key val x))
      (λ x. w * (3 * length (nodes_in key val x) + 6)) (λ x. w * (3 * given (below key val x).state + 6))
      (above_opens key val q low high) (opens_above key val q low high)
      (λ x g. more_nodes w _ _ (above_few key val x g)) a calls good
      (range_demand (goes key val) (whose_turn key val) (Good key val) key val empty zeroth
      (draws key val) q low high a curr walks w calls good (drawn_fair fair)))

  -- ---- THE CALL THAT ENDS IT answers end
  module _ (d : Ended go_on (Open q low high) start calls) where
    abbrev there : Above key val
    there = after (goes key val) a d.lived

    there_below : below key val there ≡ after go_on start d.lived
    there_below = after_project (goes key val) go_on (below key val) (goes_below key val) a d.lived

    good_there : Along (goes key val) (Good key val) there (d.last ∷ d.later)
    good_there = along_rest (goes key val) (Good key val) a d.lived (d.last ∷ d.later)
        (rw d.whole at good)

    good_behind : Good key val (goes key val there d.last)
    good_behind = along_here (goes key val) (Good key val) (goes key val there d.last) d.later
        good_there.1

    open_there : IsOpen (draws key val) q low high there
    open_there = opens_above key val q low high there good_there.0
        (subst (Open q low high) (sym there_below)
        (along_last go_on (Open q low high) start d.lived d.open_till))

    behind_below : below key val (goes key val there d.last)
        ≡ go_on (after go_on start d.lived) d.last
    behind_below = goes_below key val there d.last ∙ ap (λ τ. go_on τ d.last) there_below

    shut_behind : ¬ IsOpen (draws key val) q low high (goes key val there d.last)
    shut_behind still = d.shut (subst (Open q low high) behind_below
        (above_opens key val q low high (goes key val there d.last) good_behind still))

    answers_end : (s n : ℕ) × (reply (after go_on start d.lived) d.last ≡ Answer.End s n)
    answers_end = subst (λ τ. (s n : ℕ) × (reply τ d.last ≡ Answer.End s n)) there_below
        (above_ends key val there d.last good_there.0 good_behind q low high open_there shut_behind)

  -- ---- the sharper bound
  module _ (still : Along go_on (Open q low high) start calls)
      (fair : Fair go_on whose Busy w start calls) where
    still_drawn : Along (goes key val) (IsOpen (draws key val) q low high) a calls
    still_drawn = along_where (goes key val) (whose_turn key val) (Good key val)
        (λ x. Open q low high (below key val x)) (IsOpen (draws key val) q low high)
        (opens_above key val q low high) a calls good
        (along_up (goes key val) go_on (below key val) (goes_below key val) (Open q low high) a calls still)

    fair_drawn : Fair (goes key val) (whose_turn key val) (IsBusy (draws key val)) w a calls
    fair_drawn = drawn_fair (fair_while go_on whose (Open q low high) Busy w start calls fair) calls []
        (sym (append-nil calls)) still_drawn

    abbrev end : Above key val
    end = after (goes key val) a calls

    sharp : steps go_on whose start calls < w * (2 * given last.state + 6)
    sharp = omega (
      arith,
      steps_project (goes key val) go_on (below key val) (goes_below key val) whose a calls,
      range_sharp (goes key val) (whose_turn key val) (Good key val) key val empty zeroth
          (draws key val) q low high a curr walks w calls good still_drawn fair_drawn,
      more_sharp w (length (nodes_in key val end)) (given (below key val end).state)
          (above_few key val end (along_last (goes key val) (Good key val) a calls good)),
      ap (λ τ. w * (2 * given τ.state + 6))
          (after_project (goes key val) go_on (below key val) (goes_below key val) a calls),
    )

-- ---- that register: key and value functions are the words at the end of the calls
module _ (l : Lived) (q low high : ℕ) (B : Begins l q low high) (w : ℕ) (calls : List Call)
    (all_words : AllInWords calls) where
  abbrev first : Lived
  first = begun l q low high

  abbrev key : ℕ → ℕ
  key = key_at (after go_on first calls).state.nodes

  abbrev val : ℕ → ℕ
  val = value_at (after go_on first calls).state.nodes

  agrees : AgreesIn key val (after go_on first calls).state
  agrees = record { keyed = λ x _. refl; valued = λ x _. refl }

  before : Live key val l
  before = reached_live key val B.reached (agree_back small key val l.state (Call.Start q (Op.Range low high))
      (agrees_first key val first calls agrees))

  walks : Walks key val before q low high
  walks = begins key val before q low high B.in_words B.started

  good : Along (goes key val) (Good key val) (live walks.0) calls
  good = good_along key val (live walks.0) calls tt all_words agrees

  -- its last call
  reached_till : (d : Ended go_on (Open q low high) first calls) → Reaches (after go_on first d.lived)
  reached_till d = calls_reach first (on B.reached (Call.Start q (Op.Range low high)) B.in_words) d.lived
      (words_front d.lived (d.last ∷ d.later) (rw d.whole at all_words))

  ended : EndsWell l q low high w calls
  ended d =
      let a = answers_end key val before.shown.head_key q low high w (live walks.0) walks.1 walks.2
      calls good d in
      let r = ends_right (after go_on first d.lived) q low high
      (along_last go_on (Open q low high) first d.lived d.open_till) (reached_till d) d.last d.shut
      a.0 a.1 a.2 in
      (r.0, a.0, a.1, a.2, r.1)

  meets : FairFor l q low high w calls → InTime l q low high w calls × EndsWell l q low high w calls
  meets fair = (
    in_time key val before.shown.head_key q low high w (live walks.0) walks.1 walks.2 calls good fair,
    ended,
  )

  few : Along go_on (Open q low high) first calls → Fair go_on whose Busy w first calls
      → steps go_on whose first calls < w * (2 * given (after go_on first calls).state + 6)
  few = sharp key val before.shown.head_key q low high w (live walks.0) walks.1 walks.2 calls good

-- ---- DEMAND 3
pub demand_3 : Demand3
demand_3 = record { in_time = meets }

pub sharper : Sharper
sharper = record { sharp = few }
