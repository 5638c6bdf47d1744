-- The history holds at the beginning, and the numbering of an insert and of a remove keep it.
-- In order: the first updates of a longer log; the beginning; the snapshot at the stamp; old snapshots; the two steps.
-- Not here: one snapshot's links (Steps). Assumes nothing.
use mathlib.Core.Path.{◌≡◌, refl, ◌∙◌, ap, subst}
use mathlib.Core.Logic.{◌⊎◌, inl, inr, ⊎_elim, ◌≢◌}
use mathlib.Core.Option.{Option, some}
use mathlib.Core.List.Memᴰ
use mathlib.Core.List.{List, [], ◌∷◌, ◌++◌, Memᴰ}
use Prim.Native.Nat.{ℕ, suc, ◌-◌, ◌≤◌, ◌<◌}
use native.Mathlib.Decide.{dec_le}
use native.Mathlib.Omega.{arith}
use lib.ListN.{length}
use lib.Seq.{drop-nil}
use borrow.Author.Tests.{eq-eqb, ne_eqb}
use Rattle.order.specs.Set.{Over, first}
use Rattle.order.specs.Rows.{Row, Under, look}
use Rattle.order.specs.History.{head, tail, next, number, number_insert, number_remove, Logged, ins, rem, Log}
use Rattle.order.specs.History.{Start, InOrder, empty, stamp, up_to, Given, Chain, members, Snap, History}
use Rattle.order.specs.History.{linked, rows_from}
use Rattle.order.proofs.Tests.{eqb_cases}
use Rattle.order.proofs.Rows.{some_same, look_take, Relinked, number_old, number_links, number_under}
use Rattle.order.proofs.Chains.{Around, around, to_tail, agree_above}
use Rattle.order.proofs.Steps.{snap_insert, snap_remove}

-- ---- the first updates of a longer log
pub first_old : {A : Type 0} (n : ℕ) (u : A) (l : List A) → n ≤ length l → first n (u ∷ l) ≡ first n l
first_old n u l n≤l = let z : suc (length l) - n ≡ suc (length l - n) = omega arith in rw z

pub first_all : {A : Type 0} (n : ℕ) (l : List A) → length l ≤ n → first n l ≡ l
first_all n l l≤n = let z : length l - n ≡ 0 = omega arith in rw z

pub up_to_old : (start : Start) (s : ℕ) (u : Logged) (log : Log) → s ≤ stamp start log →
    up_to start s (u ∷ log) ≡ up_to start s log
up_to_old start s u log s≤stamp = first_old (s - start.base) u log (omega arith)

pub up_to_all : (start : Start) (s : ℕ) (log : Log) → stamp start log ≤ s → up_to start s log ≡ log
up_to_all start s log stamp≤s = first_all (s - start.base) log (omega arith)

pub stamp_next : (start : Start) (u : Logged) (log : Log) → stamp start (u ∷ log) ≡ suc (stamp start log)
stamp_next start u log = omega arith

pub stamp_empty : (log : Log) → stamp empty log ≡ length log
stamp_empty log = omega arith

-- ---- the beginning
pub linked_here : (base p n : ℕ) (ns : List ℕ) → linked base p (n ∷ ns) p ≡ (base, n) ∷ []
unfolding linked
linked_here base p n ns = rw (eq-eqb p p refl)

pub linked_there : (base p n x : ℕ) (ns : List ℕ) → x ≢ p → linked base p (n ∷ ns) x ≡ linked base n ns x
unfolding linked
linked_there base p n x ns x≢p = rw (ne_eqb x p x≢p)

pub linked_out : (base p x : ℕ) (ns : List ℕ) → x ≢ p → ¬ Memᴰ x ns → linked base p (ns ++ (tail ∷ [])) x ≡ []
unfolding linked
linked_out base p x [] x≢p out = linked_there base p tail x [] x≢p
linked_out base p x (n ∷ ns) x≢p out =
    linked_there base p n x (ns ++ (tail ∷ [])) x≢p
    ∙ linked_out base n x ns (λ e. out (Memᴰ.head e)) (λ m. out (Memᴰ.tail m))

pub linked_under : (base p x : ℕ) (ns : List ℕ) → Under (suc base) (linked base p ns x)
unfolding linked
linked_under base p x [] = tt
linked_under base p x (n ∷ ns) =
    eqb_cases (Under (suc base)) x p _ _ (λ _. (omega arith, tt)) (λ _. linked_under base n x ns)

pub linked_chain : (key : ℕ → ℕ) (base s p : ℕ) (ns : List ℕ) → base ≤ s → Over key (key p) ns →
    Chain key (next (linked base p ns) s) p ns
linked_chain key base s p [] base≤s over = tt
linked_chain key base s p (n ∷ ns) base≤s over = (
  ap (look s) (linked_here base p n ns) ∙ look_take s base n [] base≤s,
  over.0,
  agree_above key (next (linked base n ns) s) (next (linked base p (n ∷ ns)) s) n ns
      (λ x n≤x. ap (look s) (linked_there base p n x ns (λ e. omega (arith, ap key e))))
      (linked_chain key base s n ns base≤s over.1),
)

snap_begins : (key : ℕ → ℕ) (start : Start) (s : ℕ) → InOrder key start → start.base ≤ s →
    Snap key start (next (rows_from start) s) []
unfolding members look
snap_begins key start s in_order base≤s = record {
  walk = linked_chain key start.base s head (start.loaded ++ (tail ∷ [])) base≤s in_order;
  gone = λ x removed. absurd (Memᴰ.not-nil removed);
  kept = λ x given. ⊎_elim inl (λ m. absurd (Memᴰ.not-nil m)) given;
  fresh = λ x x≢head out. ap (look s) (linked_out start.base head x start.loaded x≢head (λ m. out (inl m)));
}

-- THE HISTORY BEGINS with any stamp, and with any nodes in order
pub history_begins : (key : ℕ → ℕ) (start : Start) → InOrder key start → History key start (rows_from start) []
history_begins key start in_order = record {
  snap = λ s base≤s s≤stamp. rw drop-nil (snap_begins key start s in_order base≤s);
  under = λ x.
      let z : suc start.base ≡ suc (stamp start []) = omega arith in
      subst (λ b. Under b (rows_from start x)) z (linked_under start.base head x (start.loaded ++ (tail ∷ [])));
}

-- the empty set at stamp 0
pub history_begins_empty : (key : ℕ → ℕ) → key head < key tail → History key empty (rows_from empty) []
history_begins_empty key head<tail = history_begins key empty (head<tail, tt)

-- ---- the snapshot at the stamp
module _ (key : ℕ → ℕ) (start : Start) where
  pub current : (rows : ℕ → Row) (log : Log) → History key start rows log →
      Snap key start (next rows (stamp start log)) log
  current rows log H =
      rw (up_to_all start (stamp start log) log (omega arith)) at
      (H.snap (stamp start log) (omega arith) (omega arith))

  -- the walk of a snapshot, divided behind a node of it
  pub divided : (f : ℕ → Option ℕ) (log : Log) → Snap key start f log → (x : ℕ) →
      Memᴰ x (head ∷ members key start log) → Around key f (members key start log) x
  divided f log snap x m = around key f x (members key start log) snap.walk m

  -- a node that was given, and the head, has a link
  first_link : (f : ℕ → Option ℕ) (p : ℕ) (ns : List ℕ) → Chain key f p (ns ++ (tail ∷ [])) → (t : ℕ) × (f p ≡ some t)
  first_link f p [] c = (tail, c.0)
  first_link f p (n ∷ ns) c = (n, c.0)

  pub defined : (f : ℕ → Option ℕ) (log : Log) → Snap key start f log → (x : ℕ) → (x ≡ head) ⊎ Given start x log →
      (t : ℕ) × (f x ≡ some t)
  defined f log snap x (inl x≡head) = rw x≡head (first_link f head (members key start log) snap.walk)
  defined f log snap x (inr given) = ⊎_elim
      (λ m. let a = divided f log snap x (Memᴰ.tail m) in first_link f x a.back a.behind)
      (λ r. (head, snap.gone x r))
      (snap.kept x given)

  -- ---- one more update: old snapshots read as before, and the new one as it should
  extend : (rows rows' : ℕ → Row) (u : Logged) (log : Log) → History key start rows log →
      ((s : ℕ) → s ≤ stamp start log → next rows' s ≡ next rows s) →
      Snap key start (next rows' (suc (stamp start log))) (u ∷ log) →
      ((x : ℕ) → Under (suc (suc (stamp start log))) (rows' x)) →
      History key start rows' (u ∷ log)
  extend rows rows' u log H old new under = record {
    snap = λ s base≤s s≤stamp. elim (dec_le s (stamp start log)) [
      | yes k ↦ rw (up_to_old start s u log k, old s k) (H.snap s base≤s k)
      | no k ↦
          let z : s ≡ suc (stamp start log) = omega arith in
          rw (up_to_all start s (u ∷ log) (omega arith), z) new
    ];
    under = λ x.
        let z : suc (suc (stamp start log)) ≡ suc (stamp start (u ∷ log)) = omega arith in
        subst (λ b. Under b (rows' x)) z (under x);
  }

-- snapshots up to the stamp `T` read as before, after either numbering
pub old_snapshots : (rows : ℕ → Row) (T s : ℕ) → s ≤ T → (pred curr z : ℕ) →
    (next (number_insert rows (suc T) pred curr z) s ≡ next rows s)
    × (next (number_remove rows (suc T) pred curr z) s ≡ next rows s)
old_snapshots rows T s s≤T pred curr z =
    (number_old rows T pred z z curr s s≤T, number_old rows T pred z curr head s s≤T)

module _ (key : ℕ → ℕ) (start : Start) (rows : ℕ → Row) (log : Log) (H : History key start rows log) where
  abbrev T : ℕ
  T = stamp start log

  abbrev f : ℕ → Option ℕ
  f = next rows T

  abbrev now : Snap key start f log
  now = current key start rows log H

  -- one more update, from the new snapshot's links
  extend_number : (x t y u : ℕ) → x ≢ y → (w : Logged) →
      (Relinked f (next (number rows (suc T) x t y u) (suc T)) x t y u →
      Snap key start (next (number rows (suc T) x t y u) (suc T)) (w ∷ log)) →
      History key start (number rows (suc T) x t y u) (w ∷ log)
  extend_number x t y u x≢y w new =
      extend key start rows (number rows (suc T) x t y u) w log H (number_old rows T x t y u)
      (new (number_links rows T x t y u x≢y H.under)) (number_under rows T x t y u x≢y H.under)

  -- the link of a node in the set leads to a higher key
  pub link_rises : (pred curr : ℕ) → Memᴰ pred (head ∷ members key start log) →
      next rows (stamp start log) pred ≡ some curr → key pred < key curr
  link_rises pred curr m link = let a = divided key start f log now pred m in go a.back a.behind
    where
      go : (B : List ℕ) → Chain key f pred (B ++ (tail ∷ [])) → key pred < key curr
      go [] c = omega (arith, c.1, ap key (some_same link c.0))
      go (n ∷ B) c = omega (arith, c.1, ap key (some_same link c.0))

  -- what stands behind `pred` begins with its link's target, if that is no tail
  begins : (pred curr : ℕ) (B : List ℕ) → f pred ≡ some curr → key curr < key tail →
      Chain key f pred (B ++ (tail ∷ [])) → (C : List ℕ) × (B ≡ curr ∷ C)
  begins pred curr [] link curr<tail c = absurd (omega (arith, ap key (some_same link c.0)))
  begins pred curr (n ∷ B) link curr<tail c = (B, ap (λ x. x ∷ B) (some_same c.0 link))

  -- ---- THE HISTORY IS KEPT by the numbering of an insert
  pub history_insert : (pred curr new : ℕ) → Memᴰ pred (head ∷ members key start log) →
      next rows (stamp start log) pred ≡ some curr → key pred < key new → key new < key curr → rows new ≡ [] →
      History key start (number_insert rows (suc (stamp start log)) pred curr new) (ins new ∷ log)
  unfolding look
  history_insert pred curr new m link pred<new new<curr unused =
      extend_number pred new new curr (λ e. omega (arith, ap key e)) (ins new)
      (snap_insert key start f (next (number_insert rows (suc T) pred curr new) (suc T)) log now
      pred curr new (divided key start f log now pred m) link pred<new new<curr (ap (look T) unused))

  -- and of a remove
  pub history_remove : (pred curr succ : ℕ) → Memᴰ pred (head ∷ members key start log) →
      next rows (stamp start log) pred ≡ some curr → Memᴰ curr (members key start log) →
      next rows (stamp start log) curr ≡ some succ →
      History key start (number_remove rows (suc (stamp start log)) pred curr succ) (rem curr ∷ log)
  history_remove pred curr succ m link m₂ link₂ =
      let a = divided key start f log now pred m in
      let a₂ = divided key start f log now curr (Memᴰ.tail m₂) in
      let b = begins pred curr a.back link (to_tail key f curr a₂.back a₂.behind) a.behind in
      extend_number pred succ curr head (λ e. omega (arith, ap key e, link_rises pred curr m link)) (rem curr)
      (snap_remove key start f (next (number_remove rows (suc T) pred curr succ) (suc T)) log now
      pred curr succ a b.0 b.1 link link₂)
