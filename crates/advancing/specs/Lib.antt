-- The short ways of an update, and what it is for one to be the step.
pub mod Advancing
pub mod Told
