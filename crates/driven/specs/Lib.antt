-- A register driven through the library for C and Rust: what its slices hold, and what each call makes of it; what is
-- so after any call.
pub mod Driven
pub mod Always
