-- The short ways of an update's last steps, and what it is for one to be the step.
pub mod Closing
pub mod Told
