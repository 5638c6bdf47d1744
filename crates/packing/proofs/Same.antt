-- Putting back what is there changes nothing.
-- In order: one word; the counters; an operation; a record; storing only the words that change. Assumes nothing.
use Prim.Native.Nat.{ℕ, ◌+◌, ◌*◌}
use mathlib.Core.Path.{◌≡◌, refl, sym, ◌∙◌}
use native.Mathlib.Omega.{arith}
use mathlib.Core.List.{List}
use lib.Seq.{set-get_or, get_or-set_other}
use Rattle.table.specs.Table.{word_of, store_of}
use Rattle.packing.specs.Packing.{counters_at, put_counters, op_at, record_at, put_op, put_front, put_back, put_record}
use Rattle.packing.specs.Packing.{put_phase, put_two}
use Rattle.encoding.specs.Encoding.{phase_with}

pub store_same : (width : ℕ) (t : List ℕ) (i k : ℕ) → store_of width t i k (word_of width t i k) ≡ t
unfolding store_of word_of
store_same width t i k = set-get_or t (i * width + k) 0

pub counters_same : (ws : List ℕ) → put_counters ws (counters_at ws) ≡ ws
unfolding put_counters
counters_same ws = simp store_same

pub op_same : (ws : List ℕ) (who : ℕ) → put_op ws who (op_at ws who) ≡ ws
unfolding put_op
op_same ws who = simp store_same

pub record_same : (ws : List ℕ) (who : ℕ) → put_record ws who (record_at ws who) ≡ ws
unfolding put_op put_front put_back
record_same ws who = simp store_same

-- ---- storing only the words that change
module _ (who k l : ℕ) (t : List ℕ) (v : ℕ) where
  pub stored_is : v ≡ word_of 9 t who l → store_of 9 t who l v ≡ t
  stored_is e = rw e (store_same 9 t who l)

  pub beside : (x : ℕ) → (k ≡ l → ⊥) → v ≡ word_of 9 t who l → v ≡ word_of 9 (store_of 9 t who k x) who l
  unfolding word_of store_of
  beside x apart e =
      e ∙ sym (get_or-set_other t (who * 9 + k) (who * 9 + l) x 0 (λ z. apart (omega arith)))

module _ (ws : List ℕ) (who j k l x y : ℕ) where
  pub two_beside : (j ≡ l → ⊥) → (k ≡ l → ⊥)
      → store_of 9 (put_two ws who j x k y) who l (word_of 9 ws who l) ≡ put_two ws who j x k y
  two_beside h i = stored_is who k l _ _ (beside who k l _ _ y i (beside who j l ws _ x h refl))

  pub one_beside : (j ≡ l → ⊥) → store_of 9 (store_of 9 ws who j x) who l (word_of 9 ws who l) ≡ store_of 9 ws who j x
  one_beside h = stored_is who j l _ _ (beside who j l ws _ x h refl)

-- a phase's six words, of which two are not the ones that are there: pred and curr; the phase and its node; the phase
-- and the keys handed out
module _ (ws : List ℕ) (who x y : ℕ) where
  abbrev word : ℕ → ℕ
  word k = word_of 9 ws who k

  pub walk_put : put_phase ws who (phase_with (word 6) x y (word 9) (word 10) (word 11)) ≡ put_two ws who 7 x 8 y
  unfolding put_front put_back
  walk_put =
      rw (
        store_same 9 ws who 6,
        two_beside ws who 7 8 9 x y (omega arith) (omega arith),
        two_beside ws who 7 8 10 x y (omega arith) (omega arith),
        two_beside ws who 7 8 11 x y (omega arith) (omega arith),
      )

  pub lead_put : put_phase ws who (phase_with x y (word 8) (word 9) (word 10) (word 11)) ≡ put_two ws who 6 x 7 y
  unfolding put_front put_back
  lead_put =
      rw (
        two_beside ws who 6 7 8 x y (omega arith) (omega arith),
        two_beside ws who 6 7 9 x y (omega arith) (omega arith),
        two_beside ws who 6 7 10 x y (omega arith) (omega arith),
        two_beside ws who 6 7 11 x y (omega arith) (omega arith),
      )

  pub hand_put : put_phase ws who (phase_with x (word 7) (word 8) y (word 10) (word 11)) ≡ put_two ws who 6 x 9 y
  unfolding put_front put_back
  hand_put =
      rw (
        one_beside ws who 6 0 7 x 0 (omega arith),
        one_beside ws who 6 0 8 x 0 (omega arith),
        two_beside ws who 6 9 10 x y (omega arith) (omega arith),
        two_beside ws who 6 9 11 x y (omega arith) (omega arith),
      )
