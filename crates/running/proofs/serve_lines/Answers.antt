-- `running::serve_lines` meets its contract: each turn is a law of proofs/Loop.antt, on a line as `split_inclusive`
-- gives it. Assumes nothing.
use Rattle.std.proofs.Common.{rules}
use Rattle.text.proofs.Lines.{test_at}
use Rattle.running.proofs.OneLine.{begun_by}
use Rattle.running.proofs.Loop.{running, rooms}
use Rattle.running.proofs.serve_lines.Goals as goal

pub print_refusal-at-requires : goal.print_refusal-at-requires
print_refusal-at-requires c =
    let begins = begun_by _ _ _ c.in-Some.ensures.steps (λ a r f k. search (rules, test_at)) in
    search rooms

pub loop-line-preserved-in-None-read : goal.loop-line-preserved-in-None-read
loop-line-preserved-in-None-read c =
    let begins = begun_by _ _ _ c.in-Some.ensures.steps (λ a r f k. search (rules, test_at)) in
    (search running, search rooms, search rules)

pub turn-at-requires : goal.turn-at-requires
turn-at-requires c =
    let begins = begun_by _ _ _ c.in-Some.ensures.steps (λ a r f k. search (rules, test_at)) in
    search rooms

pub loop-line-preserved : goal.loop-line-preserved
loop-line-preserved c =
    let begins = begun_by _ _ _ c.in-Some.ensures.steps (λ a r f k. search (rules, test_at)) in
    (search running, search rooms, search rules)

pub returns : goal.returns
returns c = let none = c.in-None.ensures.steps.0 in search running
