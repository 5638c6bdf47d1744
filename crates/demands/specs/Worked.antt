-- Document 01's worked examples P1 to P11, as one table over the definitions.
-- In order: calls one after the other, and what each answers; the register of document 002's Figure 1; the table;
-- the runner's whole case as calls; a call for each row of demand 1.
-- The sizes are document 01's. The registers of P1 to P10 and of the whole case are fresh ones that went on by calls
-- alone; in P11 and in the rows of demand 1 a step is taken from tables, counters and a record as they are given.
-- P11 speaks of counters: the 510th insert comes to Prepare with 511 nodes used (head, tail and 509 keys), the 511th
-- with 512. That 510 inserts lead a register to those counters is demand 2's. P12 is the listing's.
-- Not here: the proof (proofs/Worked.antt). Assumes nothing.
use Rattle.std.specs.Prelude.{Ok, Err}
use Rattle.std.specs.Prelude.{ℕ, ◌≤◌, ◌<◌, ◌≡◌, List, [], ◌∷◌, ◌++◌, length, replicate}
use Rattle.nodes.specs.Nodes.{key_at, next_at, removed_at, unlocked}
use Rattle.terms.specs.Terms.{small, Name, name_of, values_of, started, working, waiting, key, inserted, end, refused}
use Rattle.terms.specs.declared.Counters.{Counters}
use Rattle.terms.specs.declared.Op.{Op}
use Rattle.terms.specs.declared.Answer.{Answer}
use Rattle.terms.specs.declared.Refusal.{Refusal}
use Rattle.steps.specs.declared.Phase.{Phase}
use Rattle.steps.specs.declared.Session.{Session}
use Rattle.steps.specs.Steps.{done, idle, ends, held_at}
use Rattle.register.specs.Register.{Fresh, opened, fresh_of, start_of, step_of}
use Rattle.sixteen.specs.declared.Call.{Call}
use Rattle.sixteen.specs.Sixteen.{Left, served, fresh_register, serve_of}
use Rattle.demands.specs.Demands.{served_answer, answer_of, returned}

-- ---- an answer as document 01 prints it: its name and its values
pub data Said : Type 0 where
  says : Name → List ℕ → Said

abbrev pub said : Answer → Said
said a = says (name_of a) (values_of a)

-- ---- calls one after the other, each on what the last one left; and what each answers
abbrev pub play : List Call → Left → Left
play [] l = l
play (call ∷ calls) (served ns es r) = play calls (serve_of small ns es r.register call)

abbrev pub hear : List Call → Left → List Said
hear [] l = []
hear (call ∷ calls) (served ns es r) =
    let l = serve_of small ns es r.register call in said (served_answer l) ∷ hear calls l

-- a session takes so many steps
abbrev pub steps : ℕ → ℕ → List Call
steps who n = replicate n (Call.Step who)

-- a session starts an operation and takes so many steps
abbrev pub does : ℕ → Op → ℕ → List Call
does who op n = Call.Start who op ∷ steps who n

-- ---- a fresh register, of tables that were all 0
abbrev pub opens : Fresh → Left
opens (opened ns es (Ok c)) = served ns es (record { register = fresh_register c; answer = Answer.Started })
opens (opened ns es (Err why)) = served ns es (record {
  register = fresh_register (record { nodes = 0; entries = 0; stamp = 0 });
  answer = Answer.Refused why;
})

abbrev pub begun : Left
begun = opens (fresh_of small (replicate 3072 0) (replicate 8192 0))

-- ---- Figure 1: insert 20, 30, 10, remove 20, by session 0. Sessions 1 to 5 fix the snapshots 0 to 4 of the whole
-- range,
-- session 6 fixes 3 of the range from 20 to 20, and session 7, with a range from 21, has arrived at 20 by then.
abbrev pub whole : Op
whole = Op.Range 1 4294967294

abbrev pub figure_calls : List Call
figure_calls =
    does 1 whole 2 ++ (does 0 (Op.Insert 20 7) 7
    ++ (does 2 whole 2 ++ (does 0 (Op.Insert 30 8) 8
    ++ (does 3 whole 2 ++ (does 0 (Op.Insert 10 9) 7
    ++ (does 4 whole 2 ++ (does 6 (Op.Range 20 20) 3 ++ (does 7 (Op.Range 21 100) 3
    ++ (does 0 (Op.Remove 20) 9 ++ does 5 whole 2)))))))))

abbrev pub figure : Left
figure = play figure_calls begun

abbrev pub counters_of : Left → Counters
counters_of (served ns es r) = r.register.counters

-- what the rest of a query says: links followed and keys handed out, and the end
abbrev pub follows : List Said → List Said
follows rest = says working [] ∷ rest

abbrev pub hands : ℕ → ℕ → List Said → List Said
hands k v rest = says working [] ∷ says key (k ∷ v ∷ []) ∷ rest

abbrev pub ended : ℕ → ℕ → List Said
ended snapshot handed = says end (snapshot ∷ handed ∷ []) ∷ []

-- ---- an insert at Check and at Prepare
abbrev pub checking : ℕ → ℕ → ℕ → ℕ → Session
checking k v pred curr = record { op = Op.Insert k v; phase = Phase.Check pred curr }

abbrev pub preparing : ℕ → ℕ → ℕ → ℕ → Session
preparing k v pred curr = record { op = Op.Insert k v; phase = Phase.Prepare pred curr }

-- ---- the table
pub record Worked : Type 0 where
  -- Figure 1's four updates are done: three nodes given, two entries laid by each, numbered 1 to 4
  pub figure_done : counters_of figure ≡ record { nodes = 5; entries = 9; stamp = 4 }
  -- after them, the whole range at snapshots 0 to 4
  pub p1 : hear (steps 1 1) figure ≡ ended 0 0
  pub p2 : hear (steps 2 3) figure ≡ hands 20 7 (ended 1 1)
  pub p3 : hear (steps 3 5) figure ≡ hands 20 7 (hands 30 8 (ended 2 2))
  pub p4 : hear (steps 4 7) figure ≡ hands 10 9 (hands 20 7 (hands 30 8 (ended 3 3)))
  pub p5 : hear (steps 5 5) figure ≡ hands 10 9 (hands 30 8 (ended 4 2))
  -- key 4,294,967,294 is accepted, and inserted
  pub p6 : hear (does 0 (Op.Insert 4294967294 1) 7) begun
      ≡ says started [] ∷ (follows (follows (follows (follows (follows (follows (says inserted (1 ∷ []) ∷ [])))))))
  -- key 0 is refused 3
  pub p7 : (hear (does 0 (Op.Insert 0 1) 0) begun ≡ says refused (3 ∷ []) ∷ [])
      × (hear (does 0 (Op.Remove 0) 0) begun ≡ says refused (3 ∷ []) ∷ [])
      × (hear (does 0 (Op.Has 0) 0) begun ≡ says refused (3 ∷ []) ∷ [])
      × (hear (does 0 (Op.Range 0 9) 0) begun ≡ says refused (3 ∷ []) ∷ [])
  -- low = high = 20 at snapshot 3
  pub p8 : hear (steps 6 3) figure ≡ hands 20 7 (ended 3 1)
  -- low 21, high 20 is refused 4
  pub p9 : hear (does 0 (Op.Range 21 20) 0) begun ≡ says refused (4 ∷ []) ∷ []
  -- Fix reads 4; from the removed 20 by the head and 10 to 30
  pub p10 : hear (steps 7 6) figure ≡ follows (follows (follows (hands 30 8 (ended 4 1))))
  -- the 510th insert: with 511 nodes used, room for the entries and no wait due, Prepare goes on and 512 are used
  pub p11_fits : (ns es : List ℕ) (c : Counters) (who k v pred curr : ℕ) → length ns ≡ 3072 → length es ≡ 8192 →
      who < 16 → held_at small ns es pred ≡ Ok tt → c.nodes ≡ 511 → c.entries ≤ 2046 →
      (answer_of (step_of small ns es c who (preparing k v pred curr)) ≡ Answer.Working)
      × ((returned (step_of small ns es c who (preparing k v pred curr))).counters.nodes ≡ 512)
  -- the 511th of an absent key: with 512 used it is full
  pub p11_full : (ns es : List ℕ) (c : Counters) (who k v pred curr : ℕ) → length ns ≡ 3072 → length es ≡ 8192 →
      who < 16 → held_at small ns es pred ≡ Ok tt → c.nodes ≡ 512 →
      step_of small ns es c who (preparing k v pred curr)
      ≡ done (unlocked ns pred) es (ends c (Answer.Refused Refusal.Full))
  -- of a present key: Check answers present, whatever the counters
  pub p11_present : (ns es : List ℕ) (c : Counters) (who k v pred curr : ℕ) → length ns ≡ 3072 → length es ≡ 8192 →
      who < 16 → pred < 512 → curr < 512 → removed_at ns pred ≡ 0 → next_at ns pred ≡ curr → key_at ns curr ≡ k →
      step_of small ns es c who (checking k v pred curr) ≡ done (unlocked ns pred) es (ends c Answer.Present)

-- ---- the runner's whole case, as calls; its second range waits for the update that is numbered and not finished
abbrev pub whole_case : List Call
whole_case =
    does 0 (Op.Insert 20 7) 4 ++ (does 1 (Op.Range 1 100) 3
    ++ (steps 0 1 ++ (does 1 (Op.Range 1 100) 3 ++ (steps 0 2 ++ steps 1 3))))

abbrev pub WholeCase : Type 0
WholeCase = hear whole_case begun
    ≡ says started [] ∷ follows (follows (follows (follows (says started [] ∷ follows (follows
    (says end (0 ∷ 0 ∷ []) ∷ follows (says started [] ∷ follows (follows (says waiting [] ∷ follows
    (says inserted (1 ∷ []) ∷ hands 20 7 (ended 1 1)))))))))))

-- ---- every row of demand 1 is met by some call, so none of them says nothing
abbrev pub stepped : List ℕ → List ℕ → Counters → ℕ → Session → Said
stepped ns es c who s = said (answer_of (step_of small ns es c who s))

abbrev pub started_by : ℕ → Session → Op → Said
started_by who s op = said (start_of small (replicate 3072 0) (replicate 8192 0) who s op).answer

abbrev pub busy_record : Session
busy_record = record { op = Op.Has 5; phase = Phase.Walk 0 512 }

abbrev pub counts : ℕ → Counters
counts n = record { nodes = n; entries = 1; stamp = 0 }

pub record Met : Type 0 where
  pub fresh_7 : fresh_of small [] [] ≡ opened [] [] (Err Refusal.BadTable)
  pub start_7 : said (start_of small [] [] 0 idle (Op.Has 5)).answer ≡ says refused (7 ∷ [])
  pub start_1 : started_by 16 idle (Op.Has 5) ≡ says refused (1 ∷ [])
  pub start_2 : started_by 0 busy_record (Op.Has 5) ≡ says refused (2 ∷ [])
  pub start_3 : started_by 0 idle (Op.Has 4294967295) ≡ says refused (3 ∷ [])
  pub start_4 : started_by 0 idle (Op.Range 6 5) ≡ says refused (4 ∷ [])
  pub step_7 : stepped [] [] (counts 2) 0 busy_record ≡ says refused (7 ∷ [])
  pub step_1 : stepped (replicate 3072 0) (replicate 8192 0) (counts 2) 16 busy_record ≡ says refused (1 ∷ [])
  pub step_5 : stepped (replicate 3072 0) (replicate 8192 0) (counts 2) 0 idle ≡ says refused (5 ∷ [])
  pub step_8 : stepped (replicate 3072 0) (replicate 8192 0) (counts 2) 0 busy_record ≡ says refused (8 ∷ [])
  pub step_6 : stepped (replicate 3072 0) (replicate 8192 0) (counts 512) 0 (preparing 5 1 0 1)
      ≡ says refused (6 ∷ [])
