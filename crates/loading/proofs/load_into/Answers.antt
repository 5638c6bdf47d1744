use Rattle.std.proofs.lemmas.Result.{err_from_is_err_and}
use Rattle.loading.proofs.Ways.{handing, loads}
use Rattle.loading.proofs.load_into.Goals as goal

pub returns-in_err-whole : goal.returns-in_err-whole
returns-in_err-whole c =
    let p = err_from_is_err_and c.from_residual.result c.from_residual.ensures.1 in
    let w = c.in_err-whole.was in
    let u = p.2 in
    rw p.1 (search (loads, u))

pub slice_bounds-keys-end : goal.slice_bounds-keys-end
slice_bounds-keys-end c = let w = c.in_ok-whole.was in search handing

pub slice_bounds-fill-end : goal.slice_bounds-fill-end
slice_bounds-fill-end c = let w = c.in_ok-whole.was in search handing

pub slice_bounds-values-end : goal.slice_bounds-values-end
slice_bounds-values-end c = let w = c.in_ok-whole.was in search handing

pub slice_bounds-fill-end-2 : goal.slice_bounds-fill-end-2
slice_bounds-fill-end-2 c = let w = c.in_ok-whole.was in search handing

pub count_used-requires : goal.count_used-requires
count_used-requires c = let w = c.in_ok-whole.was in search handing

pub returns : goal.returns
returns c = let w = c.in_ok-whole.was in search loads
