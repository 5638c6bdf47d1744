-- The definitions of the crate, a page each. In order: the set; the rows of dated links; the history that ties them;
-- what it asks of a shape.
-- Not here: laws and proofs (proofs/). Assumes nothing.
pub mod Set
pub mod Rows
pub mod History
pub mod Shape
