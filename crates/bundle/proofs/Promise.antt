-- The bundle's promise: what the list may cite, and nothing else of the bundle.
-- In order: the words after laying and finishing; frames (a row that does not own an entry stays as it is); laying;
-- finishing; reading. That rows are apart is asked for (`¬ List.Memᴰ e own`), never assumed. Assumes nothing.
use Rattle.std.specs.Prelude.{Result, Ok, Err}
use Prim.Native.Nat.{ℕ, zero, suc, ◌+◌, ◌-◌, ◌*◌, ◌≤◌, ◌<◌}
use mathlib.Core.Path.{◌≡◌, refl, sym, ◌∙◌, subst}
use mathlib.Core.Logic.{inl, inr, ◌≢◌}
use mathlib.Core.Bool.{false}
use mathlib.Core.List.{List, [], ◌∷◌, Memᴰ}
use native.Mathlib.Decide.{dec_le, dec_lt}
use native.Mathlib.Omega.{arith}
use lib.ListN.{length}
use lib.Dec.{ltb}
use borrow.Author.Tests.{lt-ltb, le-ltb, le-leb, lt-leb}
use Rattle.table.proofs.Laws.{word_stored, word_else, store_length}
use Rattle.order.specs.Rows.{Row, look, Bundle, final, pending, found, read_at, read_newest}
use Rattle.bundle.specs.Bundle.{word_at, put_at, look_of, go_on, scan_of, holds_up, at_of, newest_of, held_of, lay_of}
use Rattle.bundle.specs.Bundle.{finish_of}
use Rattle.bundle.specs.Shows.{Entry, RowAt, Shows, as_read, as_held}
use Rattle.bundle.specs.declared.Held.{Held}
use Rattle.bundle.specs.declared.Look.{Look}
use Rattle.bundle.proofs.Ways.{look_none, look_taken, look_above, look_pending, up_none, up_final, up_pending}
use Rattle.bundle.proofs.Ways.{newest_none, newest_final, newest_pending, held_none, held_final, held_pending}

-- ---- the words after laying and finishing
module _ (es : List ℕ) (e : ℕ) where
  pub lay_length : (t c o : ℕ) → length (lay_of es e t c o) ≡ length es
  unfolding lay_of
  lay_length t c o =
      store_length 4 _ e 3 o ∙ store_length 4 _ e 2 1 ∙ store_length 4 _ e 1 c ∙ store_length 4 es e 0 t

  pub finish_length : (n : ℕ) → length (finish_of es e n) ≡ length es
  unfolding finish_of
  finish_length n = store_length 4 _ e 2 0 ∙ store_length 4 es e 1 n

  -- another entry
  pub lay_else : (t c o d k : ℕ) → k < 4 → d ≢ e → word_at (lay_of es e t c o) d k ≡ word_at es d k
  unfolding lay_of
  lay_else t c o d k k<4 apart =
      word_else 4 _ e 3 o d k (omega arith) k<4 (inl apart) ∙ word_else 4 _ e 2 1 d k (omega arith) k<4 (inl apart)
      ∙ word_else 4 _ e 1 c d k (omega arith) k<4 (inl apart) ∙ word_else 4 es e 0 t d k (omega arith) k<4 (inl apart)

  pub finish_else : (n d k : ℕ) → k < 4 → d ≢ e → word_at (finish_of es e n) d k ≡ word_at es d k
  unfolding finish_of
  finish_else n d k k<4 apart =
      word_else 4 _ e 2 0 d k (omega arith) k<4 (inl apart) ∙ word_else 4 es e 1 n d k (omega arith) k<4 (inl apart)

  -- the entry itself
  module _ (inside : e * 4 + 3 < length es) where
    module _ (t c o : ℕ) where
      pub lay_target : word_at (lay_of es e t c o) e 0 ≡ t
      unfolding lay_of
      lay_target =
          word_else 4 _ e 3 o e 0 (omega arith) (omega arith) (inr (omega arith))
          ∙ word_else 4 _ e 2 1 e 0 (omega arith) (omega arith) (inr (omega arith))
          ∙ word_else 4 _ e 1 c e 0 (omega arith) (omega arith) (inr (omega arith))
          ∙ word_stored 4 es e 0 t (omega arith)

      pub lay_stamp : word_at (lay_of es e t c o) e 1 ≡ c
      unfolding lay_of
      lay_stamp =
          word_else 4 _ e 3 o e 1 (omega arith) (omega arith) (inr (omega arith))
          ∙ word_else 4 _ e 2 1 e 1 (omega arith) (omega arith) (inr (omega arith))
          ∙ word_stored 4 _ e 1 c (omega (arith, store_length 4 es e 0 t))

      pub lay_pending : word_at (lay_of es e t c o) e 2 ≡ 1
      unfolding lay_of
      lay_pending =
          word_else 4 _ e 3 o e 2 (omega arith) (omega arith) (inr (omega arith))
          ∙ word_stored 4 _ e 2 1 (omega (arith, store_length 4 es e 0 t, store_length 4 (put_at es e 0 t) e 1 c))

      pub lay_older : word_at (lay_of es e t c o) e 3 ≡ o
      unfolding lay_of
      lay_older =
          word_stored 4 _ e 3 o (omega (
            arith,
            store_length 4 es e 0 t,
            store_length 4 (put_at es e 0 t) e 1 c,
            store_length 4 (put_at (put_at es e 0 t) e 1 c) e 2 1,
          ))

    module _ (n : ℕ) where
      pub finish_target : word_at (finish_of es e n) e 0 ≡ word_at es e 0
      unfolding finish_of
      finish_target =
          word_else 4 _ e 2 0 e 0 (omega arith) (omega arith) (inr (omega arith))
          ∙ word_else 4 es e 1 n e 0 (omega arith) (omega arith) (inr (omega arith))

      pub finish_stamp : word_at (finish_of es e n) e 1 ≡ n
      unfolding finish_of
      finish_stamp =
          word_else 4 _ e 2 0 e 1 (omega arith) (omega arith) (inr (omega arith)) ∙ word_stored 4 es e 1 n (omega
          arith)

      pub finish_final : word_at (finish_of es e n) e 2 ≡ 0
      unfolding finish_of
      finish_final = word_stored 4 _ e 2 0 (omega (arith, store_length 4 es e 1 n))

      pub finish_older : word_at (finish_of es e n) e 3 ≡ word_at es e 3
      unfolding finish_of
      finish_older =
          word_else 4 _ e 2 0 e 3 (omega arith) (omega arith) (inr (omega arith))
          ∙ word_else 4 es e 1 n e 3 (omega arith) (omega arith) (inr (omega arith))

-- ---- frames: a row whose own entries stay as they are stays
abbrev pub Same : List ℕ → List ℕ → List ℕ → Type 0
Same own es es' = (d k : ℕ) → Memᴰ d own → k < 4 → word_at es' d k ≡ word_at es d k

module _ (size : ℕ) (es es' : List ℕ) where
  entry_frame : (link e t s m : ℕ) → ((k : ℕ) → k < 4 → word_at es' e k ≡ word_at es e k)
      → Entry size es link e t s m → Entry size es' link e t s m
  entry_frame link e t s m same r = record {
    named = r.named;
    inside = r.inside;
    leads = same 0 (omega arith) ∙ r.leads;
    dated = same 1 (omega arith) ∙ r.dated;
    marked = same 2 (omega arith) ∙ r.marked;
  }

  pub row_frame : (own : List ℕ) (row : Row) (link : ℕ) → Same own es es' → RowAt size es own row link
      → RowAt size es' own row link
  row_frame [] [] link same r = r
  row_frame [] (p ∷ row) link same r = r
  row_frame (e ∷ own) [] link same r = r
  row_frame (e ∷ own) (p ∷ row) link same r = (
    entry_frame link e p.1 p.0 0 (λ k k<4. same e k (Memᴰ.head refl) k<4) r.0,
    rw (same e 3 (Memᴰ.head refl) (omega arith))
        (row_frame own row (word_at es e 3) (λ d k m k<4. same d k (Memᴰ.tail m) k<4) r.1),
  )

  pub show_frame : (b : Bundle) (own : List ℕ) (link : ℕ) → Same own es es' → Shows size es b own link
      → Shows size es' b own link
  show_frame (final row) own link same r = row_frame own row link same r
  show_frame (pending c t row) [] link same r = r
  show_frame (pending c t row) (e ∷ own) link same r = (
    entry_frame link e t c 1 (λ k k<4. same e k (Memᴰ.head refl) k<4) r.0,
    rw (same e 3 (Memᴰ.head refl) (omega arith))
        (row_frame own row (word_at es e 3) (λ d k m k<4. same d k (Memᴰ.tail m) k<4) r.1),
  )

-- ---- laying puts one entry in front of one row, and leaves the rows that do not own it alone
module _ (size : ℕ) (es : List ℕ) (e t c : ℕ) where
  lay_same : (own : List ℕ) (o : ℕ) → ¬ Memᴰ e own → Same own es (lay_of es e t c o)
  lay_same own o apart d k m k<4 = lay_else es e t c o d k k<4 (λ z. apart (subst (λ x. Memᴰ x own) z m))

  pub lay_front : (own : List ℕ) (row : Row) (link : ℕ) → length es ≡ size * 4 → e < size → ¬ Memᴰ e own
      → RowAt size es own row link → Shows size (lay_of es e t c link) (pending c t row) (e ∷ own) (e + 1)
  lay_front own row link whole inside apart r =
      let room : e * 4 + 3 < length es = omega arith in (
        record {
          named = refl;
          inside = inside;
          leads = lay_target es e room t c link;
          dated = lay_stamp es e room t c link;
          marked = lay_pending es e room t c link;
        },
        rw (lay_older es e room t c link) (row_frame size es _ own row link (lay_same own link apart) r),
      )

  pub lay_other : (b : Bundle) (own : List ℕ) (link o : ℕ) → ¬ Memᴰ e own → Shows size es b own link
      → Shows size (lay_of es e t c o) b own link
  lay_other b own link o apart r = show_frame size es _ b own link (lay_same own o apart) r

-- ---- finishing makes the newest of one row final, with its number, and leaves the others alone
module _ (size : ℕ) (es : List ℕ) (e n : ℕ) where
  finish_same : (own : List ℕ) → ¬ Memᴰ e own → Same own es (finish_of es e n)
  finish_same own apart d k m k<4 = finish_else es e n d k k<4 (λ z. apart (subst (λ x. Memᴰ x own) z m))

  pub finish_front : (own : List ℕ) (c t : ℕ) (row : Row) (link : ℕ) → length es ≡ size * 4 → ¬ Memᴰ e own
      → Shows size es (pending c t row) (e ∷ own) link
      → Shows size (finish_of es e n) (final ((n, t) ∷ row)) (e ∷ own) link
  finish_front own c t row link whole apart r =
      let room : e * 4 + 3 < length es = omega (arith, r.0.inside) in (
        record {
          named = r.0.named;
          inside = r.0.inside;
          leads = finish_target es e room n ∙ r.0.leads;
          dated = finish_stamp es e room n;
          marked = finish_final es e room n;
        },
        rw (finish_older es e room n) (row_frame size es _ own row (word_at es e 3) (finish_same own apart) r.1),
      )

  pub finish_other : (b : Bundle) (own : List ℕ) (link : ℕ) → ¬ Memᴰ e own → Shows size es b own link
      → Shows size (finish_of es e n) b own link
  finish_other b own link apart r = show_frame size es _ b own link (finish_same own apart) r

-- ---- reading is order's reading of the row
module _ (size : ℕ) (es : List ℕ) (link e t st m : ℕ) (r : Entry size es link e t st m) where
  back : link - 1 ≡ e
  back = omega (arith, r.named)

  some_link : link ≡ 0 → ⊥
  some_link z = omega (arith, r.named)

  in_table : link ≤ size
  in_table = omega (arith, r.named, r.inside)

  mark_word : m ≡ word_at es (link - 1) 2
  mark_word = rw back (sym r.marked)

  stamp_word : st ≡ word_at es (link - 1) 1
  stamp_word = rw back (sym r.dated)

  target_word : t ≡ word_at es (link - 1) 0
  target_word = rw back (sym r.leads)

  older_word : word_at es e 3 ≡ word_at es (link - 1) 3
  older_word = rw back refl

  entry_taken : (s : ℕ) → m ≡ 0 → st ≤ s → look_of size es link s ≡ Ok (Look.Taken t)
  entry_taken s is_final low =
      sym (look_taken size es link s some_link in_table m mark_word st t is_final stamp_word low target_word)

  entry_above : (s : ℕ) → m ≡ 0 → s < st → look_of size es link s ≡ Ok (Look.Passed (word_at es e 3))
  entry_above s is_final high =
      sym (look_above size es link s some_link in_table m mark_word st (word_at es e 3) is_final stamp_word high
      older_word)

  entry_pending : (s : ℕ) → (m ≡ 0 → ⊥) → look_of size es link s ≡ Ok (Look.Passed (word_at es e 3))
  entry_pending s pends =
      sym (look_pending size es link s some_link in_table m mark_word (word_at es e 3) pends older_word)

  entry_lets : (s : ℕ) → m ≡ 0 → holds_up size es link s ≡ false
  entry_lets s is_final = sym (up_final size es link s some_link in_table m mark_word is_final)

  entry_holds : (s : ℕ) → (m ≡ 0 → ⊥) → holds_up size es link s ≡ ltb st s
  entry_holds s pends = sym (up_pending size es link s some_link in_table m mark_word st pends stamp_word)

module _ (size : ℕ) (es : List ℕ) (s : ℕ) where
  -- one more entry of a scan
  scan_on : (left link : ℕ) (o : Result Look Held) → look_of size es link s ≡ o
      → scan_of (suc left) size es link s ≡ go_on o (λ older. scan_of left size es older s)
  unfolding scan_of
  scan_on left link o e = rw e

  pub scan_is_look : (own : List ℕ) (row : Row) (link left : ℕ) → length own ≤ left → RowAt size es own row link
      → scan_of left size es link s ≡ as_read (found (look s row))
  unfolding scan_of look
  scan_is_look [] [] link zero room r = refl
  scan_is_look [] [] link (suc left) room r = scan_on left link (Err Held.Damaged) (sym (look_none size es link s r))
  scan_is_look [] (p ∷ row) link left room r = absurd r
  scan_is_look (e ∷ own) [] link left room r = absurd r
  scan_is_look (e ∷ own) (p ∷ row) link zero room r = absurd (omega arith)
  scan_is_look (e ∷ own) (p ∷ row) link (suc left) room r = elim (dec_le p.0 s) [
    | yes low ↦ scan_on left link _ (entry_taken size es link e p.1 p.0 0 r.0 s refl low)
        ∙ rw (le-leb _ _ low) refl
    | no high ↦ scan_on left link _ (entry_above size es link e p.1 p.0 0 r.0 s refl (omega arith))
        ∙ rw (lt-leb _ _ (let h : s < p.0 = omega arith in h))
        (scan_is_look own row (word_at es e 3) left (omega arith) r.1)
  ]

  at_scans : (link : ℕ) → holds_up size es link s ≡ false → at_of size es link s ≡ scan_of size size es link s
  unfolding at_of
  at_scans link e = rw e

  lets_row : (own : List ℕ) (row : Row) (link : ℕ) → RowAt size es own row link → holds_up size es link s ≡ false
  lets_row [] [] link r = sym (up_none size es link s r)
  lets_row [] (p ∷ row) link r = absurd r
  lets_row (e ∷ own) [] link r = absurd r
  lets_row (e ∷ own) (p ∷ row) link r = entry_lets size es link e p.1 p.0 0 r.0 s refl

  -- rule B3
  pub read_at_is : (b : Bundle) (own : List ℕ) (link : ℕ) → length own ≤ size → Shows size es b own link
      → at_of size es link s ≡ as_read (read_at s b)
  unfolding read_at at_of
  read_at_is (final row) own link room r =
      at_scans link (lets_row own row link r) ∙ scan_is_look own row link size room r
  read_at_is (pending c t row) [] link room r = absurd r
  read_at_is (pending c t row) (e ∷ own) link room r = elim (dec_lt c s) [
    | yes below ↦ rw (entry_holds size es link e t c 1 r.0 s (λ z. omega arith), lt-ltb c s below) refl
    | no above ↦ rw (entry_holds size es link e t c 1 r.0 s (λ z. omega arith), le-ltb c s (omega arith))
        (passes size room)
  ]
    where
      passes : (left : ℕ) → suc (length own) ≤ left → scan_of left size es link s ≡ as_read (found (look s row))
      passes zero few = absurd (omega arith)
      passes (suc left) few = scan_on left link _ (entry_pending size es link e t c 1 r.0 s (λ z. omega arith))
          ∙ scan_is_look own row (word_at es e 3) left (omega arith) r.1

-- rule B4, and whether one may lay
module _ (size : ℕ) (es : List ℕ) where
  pub read_newest_is : (b : Bundle) (own : List ℕ) (link : ℕ) → Shows size es b own link
      → newest_of size es link ≡ as_read (read_newest b)
  unfolding read_newest
  read_newest_is (final []) [] link r = sym (newest_none size es link 0 r)
  read_newest_is (final (p ∷ row)) [] link r = absurd r
  read_newest_is (final []) (e ∷ own) link r = absurd r
  read_newest_is (final (p ∷ row)) (e ∷ own) link r =
      sym (newest_final size es link 0 (some_link size es link e p.1 p.0 0 r.0)
      (in_table size es link e p.1 p.0 0 r.0) 0 (mark_word size es link e p.1 p.0 0 r.0) p.1 refl
      (target_word size es link e p.1 p.0 0 r.0))
  read_newest_is (pending c t row) [] link r = absurd r
  read_newest_is (pending c t row) (e ∷ own) link r =
      sym (newest_pending size es link 0 (some_link size es link e t c 1 r.0) (in_table size es link e t c 1 r.0) 1
      (mark_word size es link e t c 1 r.0) (λ z. omega arith))

  pub held_is : (b : Bundle) (own : List ℕ) (link : ℕ) → Shows size es b own link → held_of size es link ≡ as_held b
  held_is (final []) [] link r = sym (held_none size es link 0 r)
  held_is (final (p ∷ row)) [] link r = absurd r
  held_is (final []) (e ∷ own) link r = absurd r
  held_is (final (p ∷ row)) (e ∷ own) link r =
      sym (held_final size es link 0 (some_link size es link e p.1 p.0 0 r.0)
      (in_table size es link e p.1 p.0 0 r.0) 0 (mark_word size es link e p.1 p.0 0 r.0) refl)
  held_is (pending c t row) [] link r = absurd r
  held_is (pending c t row) (e ∷ own) link r =
      sym (held_pending size es link 0 (some_link size es link e t c 1 r.0) (in_table size es link e t c 1 r.0)
      1
      (mark_word size es link e t c 1 r.0) (λ z. omega arith))
