-- The values of a reached register's sets are words of 32 bits: each came with the call that started its insert.
-- In order: what holds of all elements of a list; updates, and the set after them; a history in words; what a call
-- adds to it; reached.
-- Not here: any invariant of the tables, since the history is computed from calls and answers. Assumes nothing.
use Prim.Native.Nat.{ℕ, zero, suc, ◌-◌}
use mathlib.Core.List.{List, [], ◌∷◌, ◌++◌}
use native.Mathlib.Omega.{arith}
use lib.ListN.{length, drop}
use Rattle.order.specs.Set.{Pair, key_of, put, cut, within, Update, insert, remove, set_after, first}
use Rattle.order.proofs.Tests.{ltb_cases, leb_cases, eqb_cases}
use Rattle.terms.specs.Terms.{value_of}
use Rattle.terms.specs.declared.Size.{Size}
use Rattle.terms.specs.declared.Op.{Op}
use Rattle.sixteen.specs.declared.Call.{Call}
use Rattle.reached.specs.Reached.{State, stamp_of, who_of, asked_of, go, answer, Past, update_of, note}
use Rattle.reached.specs.Reached.{Word, InWords, Reached, fresh, on}
use Rattle.reached.specs.Answers.{set_at}
use Rattle.reached.proofs.History.{at_all, under_cases}

-- ---- all elements of a list
module _ {A : Type 0} (P : A → Type 0) where
  abbrev pub All : List A → Type 0
  All [] = Unit {0}
  All (x ∷ l) = P x × All l

  all_more : (l k : List A) → All l → All k → All (l ++ k)
  all_more [] k all more = more
  all_more (x ∷ l) k all more = (all.0, all_more l k all.1 more)

  all_drop : (n : ℕ) (l : List A) → All l → All (drop n l)
  all_drop zero l all = all
  all_drop (suc n) [] all = tt
  all_drop (suc n) (x ∷ l) all = all_drop n l all.1

  -- of a set with one more, with one less, and of a part of it
  module _ (key : A → ℕ) where
    all_put : (x : A) (l : List A) → P x → All l → All (put key x l)
    unfolding put
    all_put x [] here all = (here, tt)
    all_put x (y ∷ l) here all = ltb_cases All (key x) (key y) _ _ (λ _. (here, all))
        (λ _. eqb_cases All (key x) (key y) _ _ (λ _. all) (λ _. (all.0, all_put x l here all.1)))

    all_cut : (k : ℕ) (l : List A) → All l → All (cut key k l)
    unfolding cut
    all_cut k [] all = tt
    all_cut k (y ∷ l) all = eqb_cases All (key y) k _ _ (λ _. all.1) (λ _. (all.0, all_cut k l all.1))

    pub all_within : (low high : ℕ) (l : List A) → All l → All (within key low high l)
    unfolding within
    all_within low high [] all = tt
    all_within low high (y ∷ l) all = let rest = all_within low high l all.1 in
        ltb_cases All (key y) low _ _ (λ _. rest)
        (λ _. leb_cases All (key y) high _ _ (λ _. (all.0, rest)) (λ _. rest))

-- ---- an update's value, and a pair's
abbrev Files : Update → Type 0
Files (insert k v) = Word v
Files (remove k) = Unit {0}

abbrev pub Valued : Pair → Type 0
Valued p = Word p.1

set_valued : (us : List Update) → All Files us → All Valued (set_after [] us)
unfolding set_after
set_valued [] all = tt
set_valued (insert k v ∷ us) all = all_put Valued key_of (k, v) (set_after [] us) all.0 (set_valued us all.1)
set_valued (remove k ∷ us) all = all_cut Valued key_of k (set_after [] us) (set_valued us all.1)

-- ---- a history in words: of each operation under way, and of each update
record Worded (h : Past) : Type 0 where
  under : (who : ℕ) → Word (value_of (h.under who))
  updates : All Files h.updates

-- ---- what a call adds
asked_word : (c : Call) → InWords c → Word (value_of (asked_of c))
asked_word (Call.Start who op) words = words.2
asked_word (Call.Step who) words = omega arith

update_word : (op : Op) → Word (value_of op) → All Files (update_of op)
update_word Op.None word = tt
update_word (Op.Insert k v) word = (word, tt)
update_word (Op.Remove k) word = (tt, tt)
update_word (Op.Has k) word = tt
update_word (Op.Range low high) word = tt

note_worded : (z : Size) (σ : State) (c : Call) (h : Past) → InWords c → Worded h → Worded (note z σ c h)
note_worded z σ c h words W =
    let Fits : Op → Type 0 = λ op. Word (value_of op) in
    let op = h.under (who_of c) in
    record {
      under = under_cases (λ f. (who : ℕ) → Fits (f who)) (who_of c) (asked_of c) h.under W.under
          (at_all Fits h.under (who_of c) (asked_of c) W.under (asked_word c words))
          (at_all Fits h.under (who_of c) Op.None W.under (omega arith)) (answer z σ c);
      updates = ltb_cases (All Files) (stamp_of σ) (stamp_of (go z σ c)) _ _
          (λ _. all_more Files (update_of op) h.updates (update_word op (W.under (who_of c))) W.updates)
          (λ _. W.updates);
    }

-- ---- REACHED: every value of every set so far is a word
worded : {z : Size} {σ : State} {h : Past} → Reached z σ h → Worded h
worded (fresh ns es ns' es' c opens) = record { under = λ _. omega arith; updates = tt }
worded {z} (on {σ} {h} R c words) = note_worded z σ c h words (worded R)

pub reached_valued : {z : Size} {σ : State} {h : Past} → Reached z σ h → (n : ℕ) → All Valued (set_at h n)
reached_valued {z} {σ} {h} R n = set_valued (first n h.updates)
    (all_drop Files (length h.updates - n) h.updates (worded R).updates)
