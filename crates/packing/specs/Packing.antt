-- The counters, the sixteen records and an answer in lent slices of words: where each word lies.
-- In order: counters (words 0 to 2); session s's record (words 3 + 9 s to 11 + 9 s); a fresh register's words; answers
-- (name and two values). Names: 0 refused, 1 started, 2 working, 3 waiting, 4 key, 5 inserted, 6 removed, 7 present,
-- 8 absent, 9 end. Unused values are 0.
-- Not here: what a record's nine words mean (crate encoding). Assumes nothing.
use Rattle.std.specs.Prelude.{ℕ, List, cond, eqb}
use Rattle.table.specs.Table.{word_of, store_of, clear_of}
use Rattle.terms.specs.Terms.{refusal_number}
use Rattle.terms.specs.declared.Counters.{Counters}
use Rattle.terms.specs.declared.Answer.{Answer}
use Rattle.encoding.specs.declared.OpWords.{OpWords}
use Rattle.encoding.specs.declared.PhaseWords.{PhaseWords}
use Rattle.encoding.specs.declared.Words.{Words}
use Rattle.packing.specs.declared.Reply.{Reply}

-- ---- counters: nodes used, entries used, stamp
abbrev pub counters_at : List ℕ → Counters
counters_at ws = record { nodes = word_of 9 ws 0 0; entries = word_of 9 ws 0 1; stamp = word_of 9 ws 0 2 }

unfoldable pub put_counters : List ℕ → Counters → List ℕ
put_counters ws c = store_of 9 (store_of 9 (store_of 9 ws 0 0 c.nodes) 0 1 c.entries) 0 2 c.stamp

-- ---- a session's record
abbrev pub op_at : List ℕ → ℕ → OpWords
op_at ws who = record { kind = word_of 9 ws who 3; first = word_of 9 ws who 4; second = word_of 9 ws who 5 }

abbrev pub phase_at : List ℕ → ℕ → PhaseWords
phase_at ws who =
    record {
      phase = word_of 9 ws who 6;
      a = word_of 9 ws who 7;
      b = word_of 9 ws who 8;
      c = word_of 9 ws who 9;
      d = word_of 9 ws who 10;
      e = word_of 9 ws who 11;
    }

abbrev pub record_at : List ℕ → ℕ → Words
record_at ws who = record { op = op_at ws who; phase = phase_at ws who }

abbrev pub phase_number : List ℕ → ℕ → ℕ
phase_number ws who = (phase_at ws who).phase

unfoldable pub put_op : List ℕ → ℕ → OpWords → List ℕ
put_op ws who w = store_of 9 (store_of 9 (store_of 9 ws who 3 w.kind) who 4 w.first) who 5 w.second

unfoldable pub put_front : List ℕ → ℕ → PhaseWords → List ℕ
put_front ws who w = store_of 9 (store_of 9 (store_of 9 ws who 6 w.phase) who 7 w.a) who 8 w.b

unfoldable pub put_back : List ℕ → ℕ → PhaseWords → List ℕ
put_back ws who w = store_of 9 (store_of 9 (store_of 9 ws who 9 w.c) who 10 w.d) who 11 w.e

abbrev pub put_phase : List ℕ → ℕ → PhaseWords → List ℕ
put_phase ws who w = put_back (put_front ws who w) who w

-- two words of a record, at the places j and k
abbrev pub put_two : List ℕ → ℕ → ℕ → ℕ → ℕ → ℕ → List ℕ
put_two ws who j x k y = store_of 9 (store_of 9 ws who j x) who k y

abbrev pub put_record : List ℕ → ℕ → Words → List ℕ
put_record ws who w = put_phase (put_op ws who w.op) who w.phase

-- ---- a fresh register's words: all sessions idle, and an idle record's words are 0
abbrev pub fresh_words : List ℕ → Counters → List ℕ
fresh_words ws c = put_counters (clear_of ws) c

-- ---- answers
abbrev pub reply_with : ℕ → ℕ → ℕ → Reply
reply_with name first second = record { name = name; first = first; second = second }

abbrev pub refused_by : ℕ → Reply
refused_by number = reply_with 0 number 0

abbrev pub reply_of : Answer → Reply
reply_of Answer.Started = reply_with 1 0 0
reply_of Answer.Working = reply_with 2 0 0
reply_of Answer.Waiting = reply_with 3 0 0
reply_of (Answer.Key k v) = reply_with 4 k v
reply_of (Answer.Inserted n) = reply_with 5 n 0
reply_of (Answer.Removed n) = reply_with 6 n 0
reply_of Answer.Present = reply_with 7 0 0
reply_of Answer.Absent = reply_with 8 0 0
reply_of (Answer.End snapshot handed) = reply_with 9 snapshot handed
reply_of (Answer.Refused why) = refused_by (refusal_number why)

-- what a call returns: a refusal's number, else 0
unfoldable pub number_of : Reply → ℕ
number_of r = cond (eqb r.name 0) r.first 0

unfoldable pub put_reply : List ℕ → Reply → List ℕ
put_reply out r = store_of 3 (store_of 3 (store_of 3 out 0 0 r.name) 0 1 r.first) 0 2 r.second
