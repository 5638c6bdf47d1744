-- The calls for other programs.
pub mod Ffi
