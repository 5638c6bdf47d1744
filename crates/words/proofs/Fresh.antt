-- The words of a fresh register show the beginning of the drawing, with the empty set at stamp 0.
-- In order: what a fresh register's words are; its two nodes; its one entry; all of it.
-- Not here: any call. Assumes nothing.
use Rattle.std.specs.Prelude.{Result, Ok, Err}
use Prim.Native.Nat.{ℕ, ◌+◌, ◌*◌, ◌<◌}
use mathlib.Core.Path.{◌≡◌, refl, sym, ◌∙◌, ap}
use mathlib.Core.Logic.{◌⊎◌, inl, inr, ◌≢◌}
use mathlib.Core.Bool.{Bool, true, false, cond, ◌&&◌}
use mathlib.Core.List.Memᴰ
use mathlib.Core.List.{List, [], ◌∷◌, Memᴰ}
use native.Mathlib.Decide.{ℕ_discrete}
use native.Mathlib.Omega.{arith}
use lib.ListN.{length, length-replicate}
use lib.Dec.{eqb}
use borrow.Author.Tests.{ne_eqb, eqb-true}
use Rattle.table.specs.Table.{word_of, clear_of}
use Rattle.table.proofs.Laws.{word_stored, word_else, store_length}
use Rattle.order.specs.Rows
use Rattle.order.specs.History.{head, tail, empty, linked}
use Rattle.order.specs.Shape.{at_beginning}
use Rattle.bundle.specs.Bundle.{lay_of}
use Rattle.bundle.specs.Shows.{Shows}
use Rattle.bundle.proofs.Promise.{lay_length, finish_length, lay_front, finish_front}
use Rattle.nodes.specs.Nodes.{node_at, put_node, key_at, next_at, lock_at, removed_at, newest_at}
use Rattle.terms.specs.Terms.{small, tail_key}
use Rattle.terms.specs.declared.Size.{Size}
use Rattle.terms.specs.declared.Counters.{Counters}
use Rattle.terms.specs.declared.Refusal.{Refusal}
use Rattle.steps.specs.Steps
use Rattle.register.specs.Register.{fits, Fresh, opened, fresh_nodes, fresh_entries, fresh_counters, fresh_of}
use Rattle.sixteen.specs.Sixteen.{fresh_register}
use Rattle.reached.specs.Reached.{no_past}
use Rattle.reached.proofs.History.{get_d_default}
use Rattle.drawing.specs.Phases.{idle}
use Rattle.drawing.specs.Drawing.{plainly, final, shown, beginning}
use Rattle.order.proofs.Tests.{cond_cases, eqb_cases}
use Rattle.words.proofs.Show.{Agrees, Nodes, Sinks, Rows, Shown}

-- ---- what fresh_of leaves where it opens
abbrev nodes_in : Fresh → List ℕ
nodes_in (opened ns es o) = ns

abbrev entries_in : Fresh → List ℕ
entries_in (opened ns es o) = es

abbrev opened_in : Fresh → Result Counters Refusal
opened_in (opened ns es o) = o

pub record Ready (z : Size) (ns es ns' es' : List ℕ) (c : Counters) : Type 0 where
  pub whole_nodes : length ns ≡ z.nodes * 6
  pub whole_entries : length es ≡ z.entries * 4
  pub nodes : ns' ≡ fresh_nodes ns
  pub entries : es' ≡ fresh_entries es
  pub counters : c ≡ fresh_counters

and_true : (a b : Bool) → (a && b) ≡ true → (a ≡ true) × (b ≡ true)
and_true true true e = (refl, refl)
and_true true false e = (refl, e)
and_true false b e = (e, let z : ◌≡◌ {A = ℕ} 0 1 = cc in absurd (omega arith))

ready_is : (z : Size) (ns es ns' es' : List ℕ) (c : Counters) → fits z ns es ≡ true
    → opened (fresh_nodes ns) (fresh_entries es) (Ok fresh_counters) ≡ opened ns' es' (Ok c)
    → Ready z ns es ns' es' c
unfolding fits
ready_is z ns es ns' es' c fit e = let both = and_true _ _ fit in record {
  whole_nodes = eqb-true _ _ both.0;
  whole_entries = eqb-true _ _ both.1;
  nodes = sym (ap nodes_in e);
  entries = sym (ap entries_in e);
  counters = sym (let o : ◌≡◌ {A = Result Counters Refusal} (Ok fresh_counters) (Ok c) = ap opened_in e in cc);
}

not_ready : (z : Size) (ns es ns' es' : List ℕ) (c : Counters)
    → opened ns es (Err Refusal.BadTable) ≡ opened ns' es' (Ok c) → Ready z ns es ns' es' c
not_ready z ns es ns' es' c e =
    let o : ◌≡◌ {A = Result Counters Refusal} (Err Refusal.BadTable) (Ok c) = ap opened_in e in
    let z : ◌≡◌ {A = ℕ} 0 1 = cc in
    absurd (omega arith)

pub ready : (z : Size) (ns es ns' es' : List ℕ) (c : Counters) → fresh_of z ns es ≡ opened ns' es' (Ok c)
    → Ready z ns es ns' es' c
unfolding fresh_of
ready z ns es ns' es' c =
    cond_cases (λ o. o ≡ opened ns' es' (Ok c) → Ready z ns es ns' es' c) (fits z ns es) _ _
    (ready_is z ns es ns' es' c) (λ _. not_ready z ns es ns' es' c)

-- ---- cleared words
clear_word : (width : ℕ) (t : List ℕ) (i k : ℕ) → word_of width (clear_of t) i k ≡ 0
unfolding word_of
clear_word width t i k = get_d_default (length t) (i * width + k) 0

clear_length : (t : List ℕ) → length (clear_of t) ≡ length t
clear_length t = length-replicate (length t) 0

-- ---- the head and the tail
module _ (ns : List ℕ) (whole : length ns ≡ small.nodes * 6) where
  fresh_length : length (fresh_nodes ns) ≡ small.nodes * 6
  unfolding fresh_nodes
  fresh_length = store_length 6 _ 1 0 tail_key ∙ store_length 6 _ 0 5 1 ∙ store_length 6 _ 0 2 1 ∙ clear_length ns ∙
      whole

  -- the words that no store of a fresh register names
  fresh_zero : (x k : ℕ) → k < 6 → (x ≢ 0) ⊎ (k ≢ 2) → (x ≢ 0) ⊎ (k ≢ 5) → (x ≢ 1) ⊎ (k ≢ 0)
      → node_at (fresh_nodes ns) x k ≡ 0
  unfolding fresh_nodes
  fresh_zero x k k<6 a b c = word_else 6 _ 1 0 tail_key x k (omega arith) k<6 c
      ∙ word_else 6 _ 0 5 1 x k (omega arith) k<6 b ∙ word_else 6 _ 0 2 1 x k (omega arith) k<6 a
      ∙ clear_word 6 ns x k

  head_next : next_at (fresh_nodes ns) 0 ≡ 1
  unfolding fresh_nodes
  head_next = word_else 6 _ 1 0 tail_key 0 2 (omega arith) (omega arith) (inl (omega arith))
      ∙ word_else 6 _ 0 5 1 0 2 (omega arith) (omega arith) (inr (omega arith))
      ∙ word_stored 6 (clear_of ns) 0 2 1 (omega (arith, clear_length ns, whole))

  head_newest : newest_at (fresh_nodes ns) 0 ≡ 1
  unfolding fresh_nodes
  head_newest = word_else 6 _ 1 0 tail_key 0 5 (omega arith) (omega arith) (inl (omega arith))
      ∙ word_stored 6 (put_node (clear_of ns) 0 2 1) 0 5 1
      (omega (arith, store_length 6 (clear_of ns) 0 2 1, clear_length ns, whole))

  tail_word : key_at (fresh_nodes ns) 1 ≡ tail_key
  unfolding fresh_nodes
  tail_word = word_stored 6 (put_node (put_node (clear_of ns) 0 2 1) 0 5 1) 1 0 tail_key
      (omega (
        arith,
        store_length 6 (put_node (clear_of ns) 0 2 1) 0 5 1,
        store_length 6 (clear_of ns) 0 2 1,
        clear_length ns,
        whole,
      ))

  head_word : key_at (fresh_nodes ns) 0 ≡ 0
  head_word = fresh_zero 0 0 (omega arith) (inr (omega arith)) (inr (omega arith)) (inl (omega arith))

-- what holds of 0 and of 1 holds below 2
below_two : (P : ℕ → Type 0) → P 0 → P 1 → (x : ℕ) → x < 2 → P x
below_two P a b x x<2 = elim (ℕ_discrete x 0) [
  | yes e ↦ rw e a
  | no n ↦ let e : x ≡ 1 = omega arith in rw e b
]

fresh_shown : (ns : List ℕ) → length ns ≡ small.nodes * 6 → Nodes 2 (fresh_nodes ns) (beginning empty)
unfolding beginning plainly
fresh_shown ns whole = record {
  plain = below_two (λ x. next_at (fresh_nodes ns) x ≡ plainly head (tail ∷ []) x) (head_next ns whole)
      (fresh_zero ns whole 1 2 (omega arith) (inl (omega arith)) (inl (omega arith)) (inr (omega arith)));
  lock = below_two (λ x. lock_at (fresh_nodes ns) x ≡ 0)
      (fresh_zero ns whole 0 3 (omega arith) (inr (omega arith)) (inr (omega arith)) (inl (omega arith)))
      (fresh_zero ns whole 1 3 (omega arith) (inl (omega arith)) (inl (omega arith)) (inr (omega arith)));
  gone = below_two (λ x. removed_at (fresh_nodes ns) x ≡ 0)
      (fresh_zero ns whole 0 4 (omega arith) (inr (omega arith)) (inr (omega arith)) (inl (omega arith)))
      (fresh_zero ns whole 1 4 (omega arith) (inl (omega arith)) (inl (omega arith)) (inr (omega arith)));
}

-- ---- one entry, in the head's row
abbrev first_own : ℕ → List ℕ
first_own x = cond (eqb x 0) (0 ∷ []) []

entries_length : (es : List ℕ) → length es ≡ small.entries * 4 → length (fresh_entries es) ≡ small.entries * 4
unfolding fresh_entries
entries_length es whole =
    finish_length _ 0 0 ∙ lay_length (clear_of es) 0 1 0 0 ∙ clear_length es ∙ whole

first_entry : (es : List ℕ) → length es ≡ small.entries * 4
    → Shows small.entries (fresh_entries es) (Rows.final ((0, 1) ∷ [])) (0 ∷ []) 1
unfolding fresh_entries
first_entry es whole =
    let cleared : length (clear_of es) ≡ small.entries * 4 = clear_length es ∙ whole in
    finish_front small.entries (lay_of (clear_of es) 0 1 0 0) 0 0 [] 0 1 [] 1
    (lay_length (clear_of es) 0 1 0 0 ∙ cleared) Memᴰ.not-nil
    (lay_front small.entries (clear_of es) 0 1 0 [] [] 0 cleared (omega arith) Memᴰ.not-nil refl)

own_head : (x e : ℕ) → Memᴰ e (first_own x) → x ≡ 0
own_head x e = eqb_cases (λ l. Memᴰ e l → x ≡ 0) x 0 (0 ∷ []) [] (λ z _. z) (λ _ m. absurd (Memᴰ.not-nil m))

fresh_rows : (ns es : List ℕ) → length ns ≡ small.nodes * 6 → length es ≡ small.entries * 4
    → Rows small.entries 2 1 (fresh_nodes ns) (fresh_entries es) first_own (beginning empty)
unfolding beginning linked
fresh_rows ns es nodes entries = record {
  shows = below_two (λ x. Shows small.entries (fresh_entries es) (shown (final (linked 0 head (tail ∷ []) x)))
      (first_own x) (newest_at (fresh_nodes ns) x))
      (rw (head_newest ns nodes) (first_entry es entries))
      (fresh_zero ns nodes 1 5 (omega arith) (inl (omega arith)) (inl (omega arith)) (inr (omega arith)));
  sinks = below_two (λ x. Sinks 1 (first_own x)) (omega arith, tt) tt;
  apart = λ x y e _ _ a b. own_head x e a ∙ sym (own_head y e b);
  blank = λ x high. rw (ne_eqb x 0 (λ z. omega arith)) refl;
}

-- ---- ALL OF IT
fresh_is : (ns es : List ℕ) → length ns ≡ small.nodes * 6 → length es ≡ small.entries * 4 → (key val : ℕ → ℕ)
    → Agrees key val 2 (fresh_nodes ns) → Shown small key val
    (record { nodes = fresh_nodes ns; entries = fresh_entries es; register = fresh_register fresh_counters }) no_past
    (beginning empty)
unfolding beginning
fresh_is ns es nodes entries key val A =
    let low : key head ≡ 0 = sym (A.keyed 0 (omega arith)) ∙ head_word ns nodes in
    let high : key tail ≡ tail_key = sym (A.keyed 1 (omega arith)) ∙ tail_word ns nodes in record {
      reached = at_beginning refl;
      head_key = low;
      tail_key = high;
      agrees = A;
      whole_nodes = fresh_length ns nodes;
      whole_entries = entries_length es entries;
      two = omega arith;
      most = omega arith;
      nodes = fresh_shown ns nodes;
      own = first_own;
      rows = fresh_rows ns es nodes entries;
      stamp = refl;
      sixteen = refl;
      runs = λ t _. get_d_default 16 t Steps.idle;
      others = λ t _. refl;
      cuts = record {
        cuts = [];
        once = tt;
        in_use = λ x m. absurd (Memᴰ.not-nil m);
        cut = λ x m. absurd (Memᴰ.not-nil m);
        count = refl;
      };
      tells = record { updates = refl; under = λ t. refl; since = λ t. refl; handed = λ t. tt };
    }

pub fresh_shows : (ns es ns' es' : List ℕ) (c : Counters) → fresh_of small ns es ≡ opened ns' es' (Ok c)
    → (key val : ℕ → ℕ) → Agrees key val c.nodes ns'
    → Shown small key val (record { nodes = ns'; entries = es'; register = fresh_register c }) no_past
    (beginning empty)
fresh_shows ns es ns' es' c e key val A =
    let R = ready small ns es ns' es' c e in
    rw (R.nodes, R.entries, R.counters)
    (fresh_is ns es R.whole_nodes R.whole_entries key val (rw (R.counters, R.nodes) at A))
