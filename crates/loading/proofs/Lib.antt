-- The laws of loading that other crates may cite.
pub mod Words
pub mod Ways
pub mod Refusals
pub mod Stores
pub mod Chain
pub mod Trip
pub mod Only
