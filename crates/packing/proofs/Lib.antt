-- Putting back what is there.
pub mod Same
