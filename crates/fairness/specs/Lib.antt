-- The window argument of demand 3, stated: definitions only.
-- In order: calls to a machine and what fair ones are; what one call owes a query; a reader's stages, its measure and
-- what one call owes a reader; the nodes that a snapshot leads through; a schedule that is fair; the bounds, as types.
-- Not here: laws and proofs (proofs/), any register. Assumes nothing.
pub mod Calls
pub mod Facts
pub mod Weigh
pub mod Reader
pub mod Trail
pub mod Robin
pub mod Bounds
