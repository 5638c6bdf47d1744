-- Calls to a machine, one after another, and when they are fair: demand 3's premise.
-- In order: what a call counts; after calls and along them; counted steps, and whose; fair calls; the call that ends.
-- Not here: what a call does, and to whom (Facts, Reader). Assumes nothing.
use Rattle.std.specs.Prelude.{◌≡◌, ◌⊎◌, List, [], ◌∷◌, ◌++◌, ℕ, suc, ◌+◌, ◌<◌}
use Rattle.std.proofs.Math.Option.{Option, none, some}

-- one, if it is a counted step of some session; a start or a call refused without effect is none
abbrev pub tell : Option ℕ → ℕ
tell none = 0
tell (some i) = 1

-- `go` makes a call
module _ {State Call : Type 0} (go : State → Call → State) where
  abbrev pub after : State → List Call → State
  after σ [] = σ
  after σ (c ∷ cs) = after (go σ c) cs

  -- `P` holds throughout: before each call and at both ends
  abbrev pub Along : (State → Type 0) → State → List Call → Type 0
  Along P σ [] = P σ
  Along P σ (c ∷ cs) = P σ × Along P (go σ c) cs

  -- `who` says whose counted step a call is, if it is one
  module _ (who : State → Call → Option ℕ) where
    -- the counted steps of all sessions
    abbrev pub steps : State → List Call → ℕ
    steps σ [] = 0
    steps σ (c ∷ cs) = tell (who σ c) + steps (go σ c) cs

    -- there is a counted step of session `i`
    abbrev pub Takes : ℕ → State → List Call → Type 0
    Takes i σ [] = ⊥
    Takes i σ (c ∷ cs) = (who σ c ≡ some i) ⊎ Takes i (go σ c) cs

    -- they include a counted step of each session busy throughout them
    abbrev pub Serves : (State → ℕ → Type 0) → State → List Call → Type 0
    Serves Busy σ row = (i : ℕ) → Along (λ x. Busy x i) σ row → Takes i σ row

    -- any `w` counted steps in a row include one of each session busy throughout them
    abbrev pub Fair : (State → ℕ → Type 0) → ℕ → State → List Call → Type 0
    Fair Busy w σ cs = (before row rest : List Call) → cs ≡ before ++ (row ++ rest)
        → steps (after σ before) row ≡ w → Serves Busy (after σ before) row

    -- the same asked only of the time in which it is `Open`
    abbrev pub FairWhile : (State → Type 0) → (State → ℕ → Type 0) → ℕ → State → List Call → Type 0
    FairWhile Open Busy w σ cs =
        (lived later : List Call) → cs ≡ lived ++ later → Along Open σ lived → Fair Busy w σ lived

  -- the call that ends what is `Open`: open along `lived`, and not behind `last`
  module _ (Open : State → Type 0) where
    pub record Ended (σ : State) (cs : List Call) : Type 0 where
      pub lived : List Call
      pub last : Call
      pub later : List Call
      pub whole : cs ≡ lived ++ (last ∷ later)
      pub open_till : Along Open σ lived
      pub shut : ¬ Open (go (after σ lived) last)

    -- `most` is the bound, by the state. Either it is still open and the counted steps, one more included, are below
    -- the bound; or it has ended, and the counted steps up to its end, that step included, were below it
    abbrev pub OpenOrEnded : (who : State → Call → Option ℕ) → (State → ℕ) → State → List Call → Type 0
    OpenOrEnded who most σ cs = (Along Open σ cs × (suc (steps who σ cs) < most (after σ cs)))
        ⊎ ((d : Ended σ cs) × (suc (steps who σ d.lived) < most (after σ d.lived)))
