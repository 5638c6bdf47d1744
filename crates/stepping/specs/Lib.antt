-- One step of a session on its words.
pub mod Stepping
