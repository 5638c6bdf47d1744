-- The demands as types.
pub mod Demands
pub mod Worked
