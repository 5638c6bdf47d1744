-- The laws and theorems of the crate, all to be cited by other crates.
-- In order, each on those before: tests; rows; lists in order; the test for a key; chains of links; one snapshot
-- more; the history kept; reading; the rules B3 and B4; what the history does not depend on; a node and its link;
-- what a shape reaches; document 002's Figure 1.
-- Not here: definitions (specs/). Assumes nothing.
pub mod Tests
pub mod Rows
pub mod Sets
pub mod Member
pub mod Chains
pub mod Steps
pub mod Keeps
pub mod Reading
pub mod Rules
pub mod Frame
pub mod Near
pub mod Shape
pub mod Figure
