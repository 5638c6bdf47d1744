-- A register driven through the library for C and Rust is a reached one.
-- In order, each on those before: what the words read after each store; slices that go on holding a register, and one
-- at most; fresh, start and step; several steps; reading; the theorem; refusals; any call.
-- Not here: definitions (specs/). Assumes nothing.
pub mod Words
pub mod Holding
pub mod Only
pub mod Calls
pub mod Strides
pub mod Read
pub mod Driven
pub mod Checked
pub mod Halted
pub mod Refused
pub mod Always
