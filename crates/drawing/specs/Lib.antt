-- The definitions of the crate, a page each. In order: operations and phases; the state; effects; the
-- steps; what answers say.
-- Not here: laws, the invariant and proofs (proofs/). Assumes nothing.
pub mod Phases
pub mod Drawing
pub mod Effects
pub mod Steps
pub mod Answers
