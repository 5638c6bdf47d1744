-- Registers that calls reach, with their history, and demands 2 and 3 of them. In order: Reached, Answers, Fair.
pub mod Reached
pub mod Answers
pub mod Fair
