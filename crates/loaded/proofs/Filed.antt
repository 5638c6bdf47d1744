-- The register's tables with i keys filed: what an insert of a key above them all finds there.
-- In order: the node before the tail; the tables; fresh ones; one key more.
-- Not here: the calls (Filing). Assumes nothing.
use Prim.Native.Nat.{ℕ, ◌+◌, ◌*◌, ◌≤◌, ◌<◌}
use mathlib.Core.Path.{◌≡◌, sym, ◌∙◌}
use mathlib.Core.Logic.{◌≢◌}
use mathlib.Core.Bool.{true}
use mathlib.Core.List.{List}
use native.Mathlib.Decide.{dec_lt}
use native.Mathlib.Omega.{arith}
use lib.ListN.{length}
use Rattle.bundle.specs.Bundle.{word_at}
use Rattle.nodes.specs.Nodes.{node_at, key_at, next_at, lock_at, removed_at, newest_at}
use Rattle.terms.specs.Terms.{tail_key}
use Rattle.terms.specs.declared.Size.{Size}
use Rattle.register.specs.Register.{fits, fresh_nodes, fresh_entries}
use Rattle.loading.specs.Filing.{used, pred_of}
use Rattle.loading.proofs.Words.{pred_below, pred_key}
use Rattle.loading.proofs.Refusals.{lengths_fit}
use Rattle.loading.proofs.Stores.{nodes_with, entries_with, pred_next, filed_length, entries_length, filed_off}
use Rattle.loading.proofs.Stores.{filed_next, filed_own_newest, filed_own_key, filed_own_next, filed_own_lock}
use Rattle.loading.proofs.Stores.{filed_own_removed, entry_own_final, fresh_nodes_length, fresh_entries_length}
use Rattle.loading.proofs.Stores.{fresh_next, fresh_newest, fresh_tail, fresh_marks, fresh_final}

-- ---- the node before the tail
pub pred_rises : (j i : ℕ) → j < i → pred_of j < pred_of i
pred_rises j i h = omega (arith, pred_below j, pred_key i (λ e. omega arith))

-- ---- the tables: plain links from the head over nodes 2 to i + 1 to the tail, no key above `top`; the node before
-- the tail is free, not removed, and its newest entry, the last one used, is final
pub record Filed (z : Size) (i top : ℕ) (ns es : List ℕ) : Type 0 where
  pub fit : fits z ns es ≡ true
  pub next : (j : ℕ) → j < i → next_at ns (pred_of j) ≡ pred_of (j + 1)
  pub keys : (j : ℕ) → j < i → key_at ns (pred_of (j + 1)) ≤ top
  pub last : next_at ns (pred_of i) ≡ 1
  pub tail : key_at ns 1 ≡ tail_key
  pub lock : lock_at ns (pred_of i) ≡ 0
  pub removed : removed_at ns (pred_of i) ≡ 0
  pub newest : newest_at ns (pred_of i) ≡ 2 * i + 1
  pub final : word_at es (2 * i) 2 ≡ 0

pub fits_as : (z : Size) (ns es ns' es' : List ℕ) → length ns' ≡ length ns → length es' ≡ length es →
    fits z ns es ≡ true → fits z ns' es' ≡ true
unfolding fits
fits_as z ns es ns' es' e f h = rw (e, f) h

-- ---- fresh ones
pub fresh_filed : (z : Size) (ns es : List ℕ) → fits z ns es ≡ true → 2 ≤ z.nodes → 1 ≤ z.entries →
    Filed z 0 0 (fresh_nodes ns) (fresh_entries es)
unfolding pred_of
fresh_filed z ns es fit rn re =
    let ln = (lengths_fit z ns es fit).0 in
    let le = (lengths_fit z ns es fit).1 in
    let room : 12 ≤ length ns = omega arith in
    let space : 4 ≤ length es = omega arith in
    record {
      fit = fits_as z ns es _ _ (fresh_nodes_length ns) (fresh_entries_length es) fit;
      next = λ j h. absurd (omega arith);
      keys = λ j h. absurd (omega arith);
      last = fresh_next ns room;
      tail = fresh_tail ns room;
      lock = fresh_marks ns room 3 (omega arith) (omega arith);
      removed = fresh_marks ns room 4 (omega arith) (omega arith);
      newest = fresh_newest ns room;
      final = fresh_final es space;
    }

-- ---- one key more
module _ (z : Size) (i top k v : ℕ) (ns es : List ℕ) (F : Filed z i top ns es) (above : top < k)
    (rn : i + 3 ≤ z.nodes) (re : 2 * i + 3 ≤ z.entries) where
  low : pred_of i < i + 2
  low = omega (arith, pred_below i)

  room : (i + 2) * 6 + 5 < length ns
  room = omega (arith, (lengths_fit z ns es F.fit).0)

  space : (2 * i + 1 + 1) * 4 + 3 < length es
  space = omega (arith, (lengths_fit z ns es F.fit).1)

  -- nodes before pred, and the keys of all, stay
  stays : (j l : ℕ) → j < i + 2 → l < 6 → j * 6 + l ≢ pred_of i * 6 + 2 → j * 6 + l ≢ pred_of i * 6 + 3 →
      j * 6 + l ≢ pred_of i * 6 + 5 → node_at (nodes_with i k v ns) j l ≡ node_at ns j l
  stays j l below l<6 next lock newest =
      filed_off (used i) (pred_of i) k v ns low j l (omega arith) next lock newest

  next_stays : (j : ℕ) → j < i → next_at (nodes_with i k v ns) (pred_of j) ≡ pred_of (j + 1)
  next_stays j h =
      let r = pred_rises j i h in
      let b = low in
      stays (pred_of j) 2 (omega arith) (omega arith) (omega arith) (omega arith) (omega arith) ∙ F.next j h

  next_new : (j : ℕ) → j ≡ i → next_at (nodes_with i k v ns) (pred_of j) ≡ pred_of (j + 1)
  next_new j e = rw e (filed_next (used i) (pred_of i) k v ns low room ∙ sym (pred_next i))

  key_stays : (j : ℕ) → j < i → key_at (nodes_with i k v ns) (pred_of (j + 1)) ≤ k
  key_stays j h =
      let n = pred_next j in
      let same = stays (pred_of (j + 1)) 0 (omega arith) (omega arith) (omega arith) (omega arith) (omega arith) in
      let b = F.keys j h in rw same (omega arith)

  key_new : (j : ℕ) → j ≡ i → key_at (nodes_with i k v ns) (pred_of (j + 1)) ≤ k
  key_new j e = rw (e, pred_next i, filed_own_key (used i) (pred_of i) k v ns low room) (omega arith)

  final_new : word_at (entries_with i ns es) (2 * (i + 1)) 2 ≡ 0
  final_new =
      let e : 2 * (i + 1) ≡ 2 * i + 1 + 1 = omega arith in
      rw e (entry_own_final (used i) (newest_at ns (pred_of i)) es space)

  pub filed_on : Filed z (i + 1) k (nodes_with i k v ns) (entries_with i ns es)
  filed_on = record {
    fit = fits_as z ns es _ _ (filed_length (used i) (pred_of i) k v ns)
        (entries_length (used i) (newest_at ns (pred_of i)) es) F.fit;
    next = λ j h. elim (dec_lt j i) [
      | yes below ↦ next_stays j below
      | no above ↦ next_new j (omega arith)
    ];
    keys = λ j h. elim (dec_lt j i) [
      | yes below ↦ key_stays j below
      | no above ↦ key_new j (omega arith)
    ];
    last = rw (pred_next i) (filed_own_next (used i) (pred_of i) k v ns low room);
    tail = stays 1 0 (omega arith) (omega arith) (omega arith) (omega arith) (omega arith) ∙ F.tail;
    lock = rw (pred_next i) (filed_own_lock (used i) (pred_of i) k v ns low room);
    removed = rw (pred_next i) (filed_own_removed (used i) (pred_of i) k v ns low room);
    newest = rw (pred_next i) (filed_own_newest (used i) (pred_of i) k v ns low room ∙ omega arith);
    final = final_new;
  }
