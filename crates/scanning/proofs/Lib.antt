-- The laws of reading that other crates may cite.
pub mod Scan
pub mod Trip
pub mod Allowed
pub mod Refusals
pub mod OneWay
pub mod Only
pub mod Cases
