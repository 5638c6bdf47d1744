-- A register with its sixteen records, and a call to it.
pub mod Sixteen
