-- What a short way tells is the step's outcome.
pub mod Agrees
