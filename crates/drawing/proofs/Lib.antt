-- The laws and theorems of the crate, all to be cited by other crates.
-- In order, each on those before: functions changed at a place; what lies before a reader; the invariant, with rely
-- and grant; facts are stable; quiet steps, and what a step grants put together; Prepare; what the list owes the
-- history; Number; Link and Finish; every step keeps the list's own; the beginning; the list as a shape, with the
-- invariant; every answer is right; operations stay; nothing is stuck; not all wait; what refutes Damaged; the nodes
-- given and the updates laid; reached drawings; an example.
-- Not here: definitions (specs/). Assumes nothing.
pub mod Change
pub mod Ahead
pub mod Inv
pub mod Stable
pub mod Quiet
pub mod Prepare
pub mod Owes
pub mod Number
pub mod Link
pub mod Keeps
pub mod Begin
pub mod Shape
pub mod Answers
pub mod Tasks
pub mod Goes
pub mod Standstill
pub mod Room
pub mod Given
pub mod Reached
pub mod Example
