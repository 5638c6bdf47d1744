-- The laws of the listing that other crates may cite.
pub mod Pairs
pub mod Put
pub mod Length
pub mod Refusals
pub mod Only
