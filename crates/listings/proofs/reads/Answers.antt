-- `listings::reads` is safe: as many keys and values are filled as the listing has, by crate loading's laws. Assumes
-- nothing.
use Rattle.loading.proofs.Ways.{handing}
use Rattle.listings.proofs.reads.Goals as goal

pub slice_bounds-keys-end : goal.slice_bounds-keys-end
slice_bounds-keys-end g c = search handing

pub slice_bounds-write_back-end : goal.slice_bounds-write_back-end
slice_bounds-write_back-end g c = search handing

pub slice_bounds-values-end : goal.slice_bounds-values-end
slice_bounds-values-end g c = search handing

pub slice_bounds-write_back-end-in-Ok : goal.slice_bounds-write_back-end-in-Ok
slice_bounds-write_back-end-in-Ok g c = search handing
