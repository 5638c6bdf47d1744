-- Which words are an operation's; what a short way tells is the step's outcome.
pub mod Ways
pub mod Agrees
