-- What each answer says of the set (demand 2), against the log at that step.
-- In order: an update's number; what a range has handed out; each answer.
-- Not here: what full says of the room that is left (the words). Assumes nothing.
use Rattle.std.specs.Prelude.{Bool, true, false, ◌≡◌, List, ◌∷◌, ◌++◌, ℕ, ◌-◌, ◌≤◌, ◌<◌}
use Rattle.std.proofs.Math.Option.{some}
use Rattle.order.specs.Set.{Pair, key_of, within, member, Update, insert, remove}
use Rattle.order.specs.History.{Logged, Log, Start, up_to, said, set_of}
use Rattle.drawing.specs.Phases.{Op, upd, sought, key_in, following, handing, task}
use Rattle.drawing.specs.Drawing.{Drawing, now}
use Rattle.drawing.specs.Steps.{Out, working, present, absent, full, inserted, removed, key_value, ended}

-- an insert's key was absent, a remove's present
abbrev pub was_there : Update → Bool
was_there (insert k v) = false
was_there (remove k) = true

module _ (key val : ℕ → ℕ) (start : Start) where
  -- is the key in the set after these updates?
  abbrev pub in_set : ℕ → Log → Bool
  in_set k log = member key_of k (set_of key val start log)

  -- ---- update number `n` is `u`, the session began before it, and the set before it was as the answer says
  pub record Numbered (m : Drawing) (t : ℕ) (u : Update) (n : ℕ) : Type 0 where
    pub it : Logged
    pub this : said key val it ≡ u
    pub there : up_to start n m.log ≡ it ∷ up_to start (n - 1) m.log
    pub late : m.since t < n
    pub in_log : n ≤ now start m
    pub was : in_set (key_in u) (up_to start (n - 1) m.log) ≡ was_there u

  -- ---- at snapshot `s`, between the session's start and now, the range from `low` to `high` is `whole`
  pub record Answer (m : Drawing) (t low high s : ℕ) (whole : List Pair) : Type 0 where
    pub late : m.since t ≤ s
    pub in_past : s ≤ now start m
    pub right : whole ≡ within key_of low high (set_of key val start (up_to start s m.log))

  -- ---- each answer of a step of `t` in drawing `m`
  abbrev pub Right : Drawing → ℕ → Out → Type 0
  Right m t working = Unit {0}
  Right m t present = (op : Op) × (task (m.phase t) ≡ some op) × (in_set (sought op) m.log ≡ true)
  Right m t absent = (op : Op) × (task (m.phase t) ≡ some op) × (in_set (sought op) m.log ≡ false)
  Right m t full = (k v : ℕ) × (task (m.phase t) ≡ some (upd (insert k v)))
  Right m t (inserted n) = (k v : ℕ) × (task (m.phase t) ≡ some (upd (insert k v))) × Numbered m t (insert k v) n
  Right m t (removed n) = (k : ℕ) × (task (m.phase t) ≡ some (upd (remove k))) × Numbered m t (remove k) n
  Right m t (key_value k v) = (low high x s : ℕ) × (handed rest : List Pair)
      × (m.phase t ≡ handing low high x s handed) × Answer m t low high s (handed ++ ((k, v) ∷ rest))
  Right m t (ended s handed) = (low high x : ℕ) × (m.phase t ≡ following low high x s handed)
      × Answer m t low high s handed
