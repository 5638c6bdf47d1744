-- Demand 2 in one record: each answer of a reached register is the ordered set's, at the step that document 01 names.
-- In order: the set; an update with its number; a range at its end, and one in its snapshot; the fields, a sentence
-- each.
-- It speaks of calls, answers, the history that they give, counters, and document 002's set; `so_far` alone reads a
-- record, for the snapshot, which no answer tells before the end. Assumes nothing.
use Rattle.std.specs.Prelude.{ℕ, suc, ◌≤◌, ◌<◌, ◌≡◌, true, false, List, [], ◌∷◌, ◌++◌, length}
use Rattle.order.specs.Set.{Pair, key_of, within, member, Update, insert, remove, set_after, first}
use Rattle.terms.specs.Terms.{small, sought_of, Refuses}
use Rattle.terms.specs.declared.Op.{Op}
use Rattle.terms.specs.declared.Answer.{Answer}
use Rattle.steps.specs.declared.Phase.{Phase}
use Rattle.sixteen.specs.declared.Call.{Call}
use Rattle.reached.specs.Reached.{State, stamp_of, record_of, who_of, answer, Past, Reached}

-- ---- the set after the first n updates, and the set now
abbrev pub set_at : Past → ℕ → List Pair
set_at h n = set_after [] (first n h.updates)

abbrev pub set_now : Past → List Pair
set_now h = set_after [] h.updates

-- the n-th update is u, made after the session's start; `before` are the updates before it
pub record Nth (h : Past) (who n : ℕ) (u : Update) (before : List Update) : Type 0 where
  pub nth : first n h.updates ≡ u ∷ before
  pub number : n ≡ suc (length before)
  pub after_start : h.since who < n
  pub numbered : n ≤ length h.updates

-- end T, C to a range from low to high: the keys and values handed out are exactly those of the set after T updates
-- within low and high, in order, T lies between the stamps at the start and now, and C is their number
pub record RangeIs (σ : State) (h : Past) (who low high t n : ℕ) : Type 0 where
  pub since_start : h.since who ≤ t
  pub by_now : t ≤ stamp_of σ
  pub keys : h.handed who ≡ within key_of low high (set_at h t)
  pub count : n ≡ length (h.handed who)

-- a range in its snapshot
pub data Fixed : Phase → ℕ → Type 0 where
  follows : {at s n : ℕ} → Fixed (Phase.Follow at s n) s
  hands : {at s n : ℕ} → Fixed (Phase.Hand at s n) s

-- ---- what holds at a reached register, and of the answer to any call there
pub record Demand2 : Type 0 where
  -- the stamp is the number of updates so far
  pub stamp : (σ : State) (h : Past) → Reached small σ h → stamp_of σ ≡ length h.updates
  -- inserted N: the N-th update is this insert, made since its start, and the key was absent before it
  pub inserted : (σ : State) (h : Past) → Reached small σ h → (c : Call) (n : ℕ)
      → answer small σ c ≡ Answer.Inserted n
      → (k v : ℕ) × (before : List Update) × (h.under (who_of c) ≡ Op.Insert k v)
      × Nth h (who_of c) n (insert k v) before × (member key_of k (set_after [] before) ≡ false)
  -- removed N: likewise, and the key was present before it
  pub removed : (σ : State) (h : Past) → Reached small σ h → (c : Call) (n : ℕ) → answer small σ c ≡ Answer.Removed n
      → (k : ℕ) × (before : List Update) × (h.under (who_of c) ≡ Op.Remove k)
      × Nth h (who_of c) n (remove k) before × (member key_of k (set_after [] before) ≡ true)
  -- present and absent, of an update at its Check and of has at its last Follow: the set at that very step
  pub present : (σ : State) (h : Past) → Reached small σ h → (c : Call) → answer small σ c ≡ Answer.Present
      → member key_of (sought_of (h.under (who_of c))) (set_now h) ≡ true
  pub absent : (σ : State) (h : Past) → Reached small σ h → (c : Call) → answer small σ c ≡ Answer.Absent
      → member key_of (sought_of (h.under (who_of c))) (set_now h) ≡ false
  -- full at Prepare only when 510 nodes are given
  pub full : (σ : State) (h : Past) → Reached small σ h → (c : Call) → Refuses 6 (answer small σ c)
      → σ.register.counters.nodes ≡ 512
  -- end T, C
  pub end : (σ : State) (h : Past) → Reached small σ h → (c : Call) (t n : ℕ) → answer small σ c ≡ Answer.End t n
      → (low high : ℕ) × (h.under (who_of c) ≡ Op.Range low high) × RangeIs σ h (who_of c) low high t n
  -- and before the end: a first part of that
  pub so_far : (σ : State) (h : Past) → Reached small σ h → (who low high s : ℕ) → h.under who ≡ Op.Range low high
      → Fixed (record_of σ who).phase s
      → (rest : List Pair) × (h.handed who ++ rest ≡ within key_of low high (set_at h s))
  -- a key and value handed out is the next one of that
  pub next_key : (σ : State) (h : Past) → Reached small σ h → (c : Call) (k v : ℕ) → answer small σ c ≡ Answer.Key k v
      → (low high s : ℕ) × (rest : List Pair) × (h.under (who_of c) ≡ Op.Range low high) × (h.since (who_of c) ≤ s)
      × (s ≤ stamp_of σ) × (h.handed (who_of c) ++ ((k, v) ∷ rest) ≡ within key_of low high (set_at h s))
  -- no reached register is ever Damaged
  pub undamaged : (σ : State) (h : Past) → Reached small σ h → (c : Call) → ¬ Refuses 8 (answer small σ c)
  -- at most 510 inserts, 1,020 updates, 2,041 entries
  pub bounds : (σ : State) (h : Past) → Reached small σ h
      → (σ.register.counters.nodes ≤ 512) × (stamp_of σ ≤ 1020) × (σ.register.counters.entries ≤ 2041)
