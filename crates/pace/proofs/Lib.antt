-- The laws and theorems of the crate, all to be cited by other crates.
-- In order, each on those before: where a range stands; what it is owed; one call; demand 3; how a range ends;
-- drawings as a machine; states that show more.
-- Not here: definitions (specs/). Assumes nothing.
pub mod Stage
pub mod Debt
pub mod Turns
pub mod Demand
pub mod Ends
pub mod Machine
pub mod Project
