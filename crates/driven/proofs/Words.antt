-- What the words read after a store: the counters and the record that were put, and all others as they were.
-- In order: three words in a row; lists that agree in a record's words; the counters; a record; a fresh register's
-- words; past the last record.
-- A record's words lie at 3 to 11 of nine a row: rows overlap, places do not.
-- Not here: which register they hold (Holding). Assumes nothing.
use Prim.Native.Nat.{ℕ, ◌+◌, ◌*◌, ◌≤◌, ◌<◌}
use mathlib.Core.Path.{◌≡◌, sym, ◌∙◌}
use mathlib.Core.Logic.{◌≢◌}
use mathlib.Core.List.{List}
use native.Mathlib.Omega.{arith}
use lib.ListN.{length, replicate}
use lib.Seq.{get_or-set_other}
use Rattle.table.specs.Table.{word_of, store_of}
use Rattle.table.proofs.Laws.{store_length, word_stored}
use Rattle.table.proofs.Ways.{word_past}
use Rattle.terms.specs.declared.Counters.{Counters}
use Rattle.steps.specs.Steps.{idle}
use Rattle.reached.proofs.History.{get_d_default}
use Rattle.encoding.specs.declared.Words.{Words}
use Rattle.encoding.specs.Encoding.{kind_with, phase_with, encode}
use Rattle.packing.specs.Packing.{counters_at, put_counters, op_at, phase_at, record_at, put_op, put_front, put_back}
use Rattle.packing.specs.Packing.{put_record, fresh_words}

-- ---- three words in a row
abbrev put_three : List ℕ → ℕ → ℕ → ℕ → ℕ → ℕ → List ℕ
put_three ws i k a b c = store_of 9 (store_of 9 (store_of 9 ws i k a) i (k + 1) b) i (k + 2) c

store_apart : (ws : List ℕ) (i k v j l : ℕ) → j * 9 + l ≢ i * 9 + k
    → word_of 9 (store_of 9 ws i k v) j l ≡ word_of 9 ws j l
unfolding word_of store_of
store_apart ws i k v j l apart = get_or-set_other ws (i * 9 + k) (j * 9 + l) v 0 apart

module _ (ws : List ℕ) (i k a b c : ℕ) where
  three_length : length (put_three ws i k a b c) ≡ length ws
  three_length = store_length 9 _ i (k + 2) c ∙ store_length 9 _ i (k + 1) b ∙ store_length 9 ws i k a

  -- a word that is none of them
  three_apart : (j l : ℕ) → ((m : ℕ) → m < 3 → j * 9 + l ≢ i * 9 + (k + m))
      → word_of 9 (put_three ws i k a b c) j l ≡ word_of 9 ws j l
  three_apart j l apart =
      store_apart _ i (k + 2) c j l (apart 2 (omega arith)) ∙ store_apart _ i (k + 1) b j l (apart 1 (omega arith))
      ∙ store_apart ws i k a j l (λ e. apart 0 (omega arith) (omega (arith, e)))

  -- each of them
  module _ (room : i * 9 + (k + 2) < length ws) where
    three_first : word_of 9 (put_three ws i k a b c) i k ≡ a
    three_first =
        store_apart _ i (k + 2) c i k (λ e. omega (arith, e)) ∙ store_apart _ i (k + 1) b i k (λ e. omega (arith, e))
        ∙ word_stored 9 ws i k a (omega (arith, room))

    three_second : word_of 9 (put_three ws i k a b c) i (k + 1) ≡ b
    three_second =
        store_apart _ i (k + 2) c i (k + 1) (λ e. omega (arith, e))
        ∙ word_stored 9 _ i (k + 1) b (omega (arith, room, store_length 9 ws i k a))

    three_third : word_of 9 (put_three ws i k a b c) i (k + 2) ≡ c
    three_third =
        word_stored 9 _ i (k + 2) c
        (omega (arith, room, store_length 9 ws i k a, store_length 9 (store_of 9 ws i k a) i (k + 1) b))

-- ---- the same words, the same counters and records
counters_alike : (v w : List ℕ) → ((l : ℕ) → l < 3 → word_of 9 v 0 l ≡ word_of 9 w 0 l) → counters_at v ≡ counters_at w
counters_alike v w same =
    let a = same 0 (omega arith) in
    let b = same 1 (omega arith) in
    let c = same 2 (omega arith) in cc

-- words 3 to 11 of a row are these nine
module _ (v : List ℕ) (j : ℕ) (f : ℕ → ℕ) (each : (l : ℕ) → 3 ≤ l → l < 12 → word_of 9 v j l ≡ f l) where
  op_from : op_at v j ≡ record { kind = f 3; first = f 4; second = f 5 }
  op_from =
      let a = each 3 (omega arith) (omega arith) in
      let b = each 4 (omega arith) (omega arith) in
      let c = each 5 (omega arith) (omega arith) in cc

  phase_from : phase_at v j ≡ record { phase = f 6; a = f 7; b = f 8; c = f 9; d = f 10; e = f 11 }
  phase_from =
      let a = each 6 (omega arith) (omega arith) in
      let b = each 7 (omega arith) (omega arith) in
      let c = each 8 (omega arith) (omega arith) in
      let d = each 9 (omega arith) (omega arith) in
      let e = each 10 (omega arith) (omega arith) in
      let g = each 11 (omega arith) (omega arith) in cc

record_alike : (v w : List ℕ) (j : ℕ) → ((l : ℕ) → 3 ≤ l → l < 12 → word_of 9 v j l ≡ word_of 9 w j l)
    → record_at v j ≡ record_at w j
record_alike v w j same =
    let o = op_from v j (word_of 9 w j) same in
    let p = phase_from v j (word_of 9 w j) same in cc

record_blank : (v : List ℕ) (j : ℕ) → ((l : ℕ) → 3 ≤ l → l < 12 → word_of 9 v j l ≡ 0) → record_at v j ≡ encode idle
record_blank v j blank =
    let o = op_from v j (λ _. 0) blank in
    let p = phase_from v j (λ _. 0) blank in cc

-- ---- the counters
module _ (ws : List ℕ) (c : Counters) where
  pub counters_length : length (put_counters ws c) ≡ length ws
  unfolding put_counters
  counters_length = three_length ws 0 0 c.nodes c.entries c.stamp

  pub counters_put : 2 < length ws → counters_at (put_counters ws c) ≡ c
  unfolding put_counters
  counters_put room =
      let a = three_first ws 0 0 c.nodes c.entries c.stamp room in
      let b = three_second ws 0 0 c.nodes c.entries c.stamp room in
      let d = three_third ws 0 0 c.nodes c.entries c.stamp room in
      let all : counters_at (put_counters ws c)
      ≡ record { nodes = c.nodes; entries = c.entries; stamp = c.stamp } = cc in all

  pub record_beside : (who : ℕ) → record_at (put_counters ws c) who ≡ record_at ws who
  unfolding put_counters
  record_beside who =
      record_alike (put_counters ws c) ws who
      (λ l low high. three_apart ws 0 0 c.nodes c.entries c.stamp who l (λ m h e. omega (arith, low, h, e)))

-- ---- a record
module _ (ws : List ℕ) (who : ℕ) (w : Words) where
  pub record_length : length (put_record ws who w) ≡ length ws
  unfolding put_op put_front put_back
  record_length =
      three_length _ who 9 w.phase.c w.phase.d w.phase.e
      ∙ three_length _ who 6 w.phase.phase w.phase.a w.phase.b
      ∙ three_length ws who 3 w.op.kind w.op.first w.op.second

  record_apart : (j l : ℕ) → ((m : ℕ) → 3 ≤ m → m < 12 → j * 9 + l ≢ who * 9 + m)
      → word_of 9 (put_record ws who w) j l ≡ word_of 9 ws j l
  unfolding put_op put_front put_back
  record_apart j l apart =
      three_apart _ who 9 w.phase.c w.phase.d w.phase.e j l
      (λ m h. apart (9 + m) (omega arith) (omega (arith, h)))
      ∙ three_apart _ who 6 w.phase.phase w.phase.a w.phase.b j l
      (λ m h. apart (6 + m) (omega arith) (omega (arith, h)))
      ∙ three_apart ws who 3 w.op.kind w.op.first w.op.second j l
      (λ m h. apart (3 + m) (omega arith) (omega (arith, h)))

  pub counters_beside : counters_at (put_record ws who w) ≡ counters_at ws
  counters_beside =
      counters_alike (put_record ws who w) ws
      (λ l h. record_apart 0 l (λ m low high e. omega (arith, h, low, e)))

  pub record_other : (other : ℕ) → other ≢ who → record_at (put_record ws who w) other ≡ record_at ws other
  record_other other apart =
      record_alike (put_record ws who w) ws other
      (λ l low high. record_apart other l (λ m low' high' e. apart (omega (arith, low, high, low', high', e))))

  -- the record put is there
  module _ (room : who * 9 + 11 < length ws) where
    abbrev first : List ℕ
    first = put_op ws who w.op

    abbrev second : List ℕ
    second = put_front first who w.phase

    first_length : length first ≡ length ws
    unfolding put_op
    first_length = three_length ws who 3 w.op.kind w.op.first w.op.second

    second_length : length second ≡ length ws
    unfolding put_front
    second_length = three_length first who 6 w.phase.phase w.phase.a w.phase.b ∙ first_length

    behind_front : (l : ℕ) → l < 6 → word_of 9 second who l ≡ word_of 9 first who l
    unfolding put_front
    behind_front l h =
        three_apart first who 6 w.phase.phase w.phase.a w.phase.b who l (λ m _ e. omega (arith, h, e))

    behind_back : (l : ℕ) → l < 9 → word_of 9 (put_record ws who w) who l ≡ word_of 9 second who l
    unfolding put_back
    behind_back l h =
        three_apart second who 9 w.phase.c w.phase.d w.phase.e who l (λ m _ e. omega (arith, h, e))

    behind : (l : ℕ) → l < 6 → word_of 9 (put_record ws who w) who l ≡ word_of 9 first who l
    behind l h = behind_back l (omega (arith, h)) ∙ behind_front l h

    op_put : op_at (put_record ws who w) who ≡ w.op
    unfolding put_op
    op_put =
        let low : who * 9 + 5 < length ws = omega (arith, room) in
        let a = behind 3 (omega arith) ∙ three_first ws who 3 w.op.kind w.op.first w.op.second low in
        let b = behind 4 (omega arith) ∙ three_second ws who 3 w.op.kind w.op.first w.op.second low in
        let c = behind 5 (omega arith) ∙ three_third ws who 3 w.op.kind w.op.first w.op.second low in
        let all : op_at (put_record ws who w) who ≡ kind_with w.op.kind w.op.first w.op.second = cc in all

    phase_put : phase_at (put_record ws who w) who ≡ w.phase
    unfolding put_front put_back
    phase_put =
        let p = w.phase in
        let mid : who * 9 + 8 < length first = omega (arith, room, first_length) in
        let end : who * 9 + 11 < length second = omega (arith, room, second_length) in
        let f = behind_back 6 (omega arith) ∙ three_first first who 6 p.phase p.a p.b mid in
        let a = behind_back 7 (omega arith) ∙ three_second first who 6 p.phase p.a p.b mid in
        let b = behind_back 8 (omega arith) ∙ three_third first who 6 p.phase p.a p.b mid in
        let c = three_first second who 9 p.c p.d p.e end in
        let d = three_second second who 9 p.c p.d p.e end in
        let e = three_third second who 9 p.c p.d p.e end in
        let all : phase_at (put_record ws who w) who
        ≡ phase_with p.phase p.a p.b p.c p.d p.e = cc in all

    pub record_put : record_at (put_record ws who w) who ≡ w
    record_put =
        let o = op_put in
        let p = phase_put in
        let all : record_at (put_record ws who w) who ≡ record { op = w.op; phase = w.phase } = cc in all

-- ---- a fresh register's words: every record is idle
pub fresh_blank : (ws : List ℕ) (c : Counters) (who : ℕ) → record_at (fresh_words ws c) who ≡ encode idle
unfolding word_of
fresh_blank ws c who =
    record_beside (replicate (length ws) 0) c who
    ∙ record_blank (replicate (length ws) 0) who (λ l _ _. get_d_default (length ws) (who * 9 + l) 0)

-- ---- past the last record all words are 0
pub record_past : (ws : List ℕ) (who : ℕ) → length ws ≡ 147 → 16 ≤ who → record_at ws who ≡ encode idle
record_past ws who long past =
    record_blank ws who (λ l low _. sym (word_past 9 ws who l (omega (arith, long, past, low))))
