-- Demand 1's proof, that each contract leaves one outcome, and document 01's worked examples.
mod Splits
mod Settled
pub mod Demand1
pub mod Only
pub mod Worked
