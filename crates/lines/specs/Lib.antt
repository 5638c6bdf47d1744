-- The runner's lines, in and out.
pub mod Lines
