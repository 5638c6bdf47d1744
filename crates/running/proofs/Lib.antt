-- The laws of a run that other crates may cite.
pub mod Slots
pub mod OneLine
pub mod Loop
pub mod Whole
pub mod Only
pub mod Cases
pub mod Refusals
pub mod Enough
