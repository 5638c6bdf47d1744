-- A session's record as nine words, and back.
pub mod Encoding
