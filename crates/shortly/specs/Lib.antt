-- The short ways of a step, and what it is for one to be the step.
pub mod Shortly
pub mod Told
