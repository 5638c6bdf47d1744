-- A register with its sixteen session records, and what a call to it leaves and answers.
-- In order: records; a fresh register's; a start; a step; any call. A call changes the record of its own session and
-- no other.
-- Not here: what a start and a step of one record are (crate register). Assumes nothing.
use Rattle.std.specs.Prelude.{ℕ, List, get_or, set, replicate}
use Rattle.terms.specs.declared.Size.{Size}
use Rattle.terms.specs.declared.Counters.{Counters}
use Rattle.terms.specs.declared.Op.{Op}
use Rattle.terms.specs.declared.Answer.{Answer}
use Rattle.steps.specs.declared.Session.{Session}
use Rattle.steps.specs.Steps.{Done, done, idle}
use Rattle.register.specs.Register.{start_of, step_of}
use Rattle.sixteen.specs.declared.Register.{Register}
use Rattle.sixteen.specs.declared.Call.{Call}
use Rattle.sixteen.specs.declared.Served.{Served}

-- ---- records: a session above 15 has none, and counts as idle until it is refused
abbrev pub session_of : List Session → ℕ → Session
session_of sessions who = get_or sessions who idle

abbrev pub with : Register → Counters → ℕ → Session → Answer → Served
with g c who s a = record { register = record { counters = c; sessions = set g.sessions who s }; answer = a }

-- ---- a fresh register's: all sessions idle
abbrev pub fresh_register : Counters → Register
fresh_register c = record { counters = c; sessions = replicate 16 idle }

-- ---- what a call leaves: the tables, the register and the answer
pub data Left : Type 0 where
  served : List ℕ → List ℕ → Served → Left

abbrev pub serve_start : Size → List ℕ → List ℕ → Register → ℕ → Op → Served
serve_start z ns es g who op =
    let r = start_of z ns es who (session_of g.sessions who) op in with g g.counters who r.session r.answer

abbrev pub after_step : Register → ℕ → Done → Left
after_step g who (done ns es r) = served ns es (with g r.counters who r.session r.answer)

abbrev pub serve_step : Size → List ℕ → List ℕ → Register → ℕ → Left
serve_step z ns es g who = after_step g who (step_of z ns es g.counters who (session_of g.sessions who))

abbrev pub serve_of : Size → List ℕ → List ℕ → Register → Call → Left
serve_of z ns es g (Call.Start who op) = served ns es (serve_start z ns es g who op)
serve_of z ns es g (Call.Step who) = serve_step z ns es g who
