-- The definitions of the crate. Not here: laws and proofs (proofs/). Assumes nothing.
pub mod Turns
