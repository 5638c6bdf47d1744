-- Each way through the printing of an answer, over plain values.
-- In order: numbers with commas between them; the words of each answer; what a caller of the words asks and learns.
-- Not here: runs of bytes one after the other (crate text's Write). Assumes nothing.
use Prim.Native.Nat.{ℕ, ◌+◌, ◌≤◌, ◌<◌}
use mathlib.Core.Path.{◌≡◌, sym, ◌∙◌, ap}
use mathlib.Core.List.{List, [], ◌∷◌, ◌++◌, append-nil}
use native.Mathlib.Omega.{arith}
use native.Mathlib.Numerals.{add-one}
use lib.ListN.{length, get_or, drop, drop_of_length-le, length-append}
use lib.Seq.{drop-cons, sets, length-sets}
use Rattle.text.proofs.Write.{sets_append}
use Rattle.terms.specs.Terms.{started, working, waiting, key, inserted, removed, present, absent, end, refused}
use Rattle.terms.specs.Terms.{refusal_number}
use Rattle.terms.specs.declared.Answer.{Answer}
use Rattle.terms.specs.declared.Refusal.{Refusal}
use Rattle.lines.specs.Lines.{name_bytes, comma, one_of, more, words_of}

-- ---- numbers with commas between them

-- what comes after the first number
unfoldable pub follows : List ℕ → List ℕ
follows [] = []
follows (b ∷ r) = one_of comma b ++ follows r

more_is : (name : List ℕ) (a : ℕ) (r : List ℕ) → more name a r ≡ one_of name a ++ follows r
unfolding more follows
more_is name a [] = rw append-nil
more_is name a (b ∷ r) = ap (λ (x : List ℕ). one_of name a ++ x) (more_is comma b r)

-- of the words w at p of o, what is left to be written: the numbers r, at the place k of out
pub record Left (o : List ℕ) (p : ℕ) (w out : List ℕ) (k : ℕ) (r : List ℕ) : Type 0 where
  pub ends : p + length w ≡ k + length (follows r)
  pub size : length out ≡ length o
  pub bytes : sets o p w ≡ sets out k (follows r)

pub first_room : (name : List ℕ) (a : ℕ) (r : List ℕ) (p m : ℕ) → p + length (more name a r) ≤ m →
    p + length (one_of name a) ≤ m
first_room name a r p m h =
    omega (arith, ap length (more_is name a r), length-append (one_of name a) (follows r))

pub left_first : (o out name : List ℕ) (p k a : ℕ) (r : List ℕ) → k ≡ p + length (one_of name a) →
    out ≡ sets o p (one_of name a) → Left o p (more name a r) out k r
left_first o out name p k a r e h = record {
  ends = rw (more_is name a r) (omega (arith, length-append (one_of name a) (follows r)));
  size = rw (h, length-sets o p (one_of name a));
  bytes = rw (more_is name a r, sets_append (one_of name a) (follows r) o p, ← h, ← e);
}

module _ (o w out rest : List ℕ) (p k i : ℕ) (left : Left o p w out k (drop i rest)) where
  follows_at : i < length rest → follows (drop i rest) ≡ one_of comma (get_or rest i 0) ++ follows (drop (i + 1) rest)
  unfolding follows
  follows_at h = rw (add-one, drop-cons rest i 0 h)

  pub left_room : i < length rest → p + length w ≤ length o → k + length (one_of comma (get_or rest i 0)) ≤ length out
  left_room h room =
      omega (
        arith,
        left.ends,
        left.size,
        ap length (follows_at h),
        length-append (one_of comma (get_or rest i 0)) (follows (drop (i + 1) rest)),
      )

  pub left_next : (out' : List ℕ) (k' : ℕ) → i < length rest → k' ≡ k + length (one_of comma (get_or rest i 0)) →
      out' ≡ sets out k (one_of comma (get_or rest i 0)) → Left o p w out' k' (drop (i + 1) rest)
  left_next out' k' h e m = record {
    ends =
        omega (
          arith,
          left.ends,
          ap length (follows_at h),
          length-append (one_of comma (get_or rest i 0)) (follows (drop (i + 1) rest)),
        );
    size = rw (m, length-sets out k (one_of comma (get_or rest i 0))) left.size;
    bytes =
        left.bytes ∙ rw (follows_at h, sets_append (one_of comma (get_or rest i 0)) _ out k, ← m, ← e);
  }

  pub left_none : length rest ≤ i → (k ≡ p + length w) × (out ≡ sets o p w)
  unfolding follows
  left_none h =
      let z : drop i rest ≡ [] = drop_of_length-le rest h in
      let e : follows (drop i rest) ≡ [] = rw z in
      (omega (arith, left.ends, ap length e), sym (left.bytes ∙ ap (sets out k) e))

-- ---- the words of each answer

module _ (who : ℕ) (a : Answer) where
  pub words_started : a ≡ Answer.Started → words_of who a ≡ one_of (name_bytes started) who
  unfolding words_of more
  words_started e = rw e

  pub words_working : a ≡ Answer.Working → words_of who a ≡ one_of (name_bytes working) who
  unfolding words_of more
  words_working e = rw e

  pub words_waiting : a ≡ Answer.Waiting → words_of who a ≡ one_of (name_bytes waiting) who
  unfolding words_of more
  words_waiting e = rw e

  pub words_key : (k v : ℕ) → a ≡ Answer.Key k v → words_of who a ≡ more (name_bytes key) who (k ∷ v ∷ [])
  unfolding words_of
  words_key k v e = rw e

  pub words_inserted : (n : ℕ) → a ≡ Answer.Inserted n → words_of who a ≡ more (name_bytes inserted) who (n ∷ [])
  unfolding words_of
  words_inserted n e = rw e

  pub words_removed : (n : ℕ) → a ≡ Answer.Removed n → words_of who a ≡ more (name_bytes removed) who (n ∷ [])
  unfolding words_of
  words_removed n e = rw e

  pub words_present : a ≡ Answer.Present → words_of who a ≡ one_of (name_bytes present) who
  unfolding words_of more
  words_present e = rw e

  pub words_absent : a ≡ Answer.Absent → words_of who a ≡ one_of (name_bytes absent) who
  unfolding words_of more
  words_absent e = rw e

  pub words_end : (t c : ℕ) → a ≡ Answer.End t c → words_of who a ≡ more (name_bytes end) who (t ∷ c ∷ [])
  unfolding words_of
  words_end t c e = rw e

  pub words_refused : (why : Refusal) (n : ℕ) → a ≡ Answer.Refused why → n ≡ refusal_number why →
      words_of who a ≡ one_of (name_bytes refused) n
  unfolding words_of more
  words_refused why n e k = rw (e, k)

  -- what holds of x holds of the words that are x
  module _ (x : List ℕ) (p : ℕ) (e : words_of who a ≡ x) where
    pub words_room : (m : ℕ) → p + length (words_of who a) ≤ m → p + length x ≤ m
    words_room m h = rw (← e) h

    pub words_after : (r : ℕ) → r ≡ p + length x → r ≡ p + length (words_of who a)
    words_after r h = rw e h

    pub words_put : (o m : List ℕ) → m ≡ sets o p x → m ≡ sets o p (words_of who a)
    words_put o m h = rw e h

pub ruleset words_plain = (words_started, words_working, words_waiting, words_present, words_absent, words_refused)

pub ruleset words_numbered = (words_key, words_inserted, words_removed, words_end)

pub ruleset words = (words_plain, words_numbered, words_room, words_after, words_put)
