-- `serving::serve` meets its contract: what was read is the input's first bytes, and the run's answers were written.
-- Assumes nothing.
use Rattle.std.proofs.Common.{rules, sym, length-take-le}
use Rattle.std.proofs.lemmas.Result.{on_ok_weaker}
use Rattle.serving.proofs.Served.{first_read, answered, is_ok_run, fits_run}
use Rattle.serving.proofs.serve.Goals as goal

pub unwrap-k-requires : goal.unwrap-k-requires
unwrap-k-requires g c =
    is_ok_run _ _ _ _ _ _ _ _ (search rules) (search rules) (search rules) c.run.ensures

pub slice_bounds-out-end : goal.slice_bounds-out-end
slice_bounds-out-end g c =
    let fits =
    fits_run _ _ _ _ _ _ _ _ (search rules) (search rules) (search rules) c.run.ensures c.unwrap-k.result
    c.unwrap-k.ensures in
    search (fits, rules)

pub slice_bounds-write_all-end : goal.slice_bounds-write_all-end
slice_bounds-write_all-end g c =
    let fits =
    fits_run _ _ _ _ _ _ _ _ (search rules) (search rules) (search rules) c.run.ensures c.unwrap-k.result
    c.unwrap-k.ensures in
    sym (length-take-le _ _ (search (fits, rules)))

pub returns : goal.returns
returns g c =
    let read =
    first_read 16385 c.in_ok-n.n (g.R.Read.remaining c.args.source.now)
    (g.R.Read.remaining c.read_full.new.source) c.read_full.new.buf (search rules) c.in_ok-n.ensures.bound.0
    c.in_ok-n.ensures.bytes c.in_ok-n.ensures.end in
    on_ok_weaker c.write_all.result
    (answered _ _ _ _ _ _ _ _ _ _ _ _ read (search rules) (search rules) (search rules) c.run.ensures
    c.unwrap-k.ensures)
    c.write_all.ensures.bytes
