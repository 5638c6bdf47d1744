-- Demand 3 of the register. In order, each on those before: registers that calls reach; a register that shows a
-- drawing; busy sessions and open ranges by the history; calls while something holds; registers with their drawings as
-- states with calls; the call that ends a range; DEMAND 3; a computed test of fair calls, of one session and of a
-- register; the premise can be met; served in turn, every range ends; queries that wait and end; that it is not so of
-- `has`.
-- Not here: demand 3's sentences (crate reached), the window argument (crates fairness and pace). Assumes nothing.
pub mod Reaches
pub mod Live
pub mod Words
pub mod Where
pub mod Above
pub mod Last
pub mod Demand3
pub mod Spaced
pub mod Tested
pub mod Possible
pub mod Turn
pub mod Waits
pub mod Has
