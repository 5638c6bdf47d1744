-- The definitions that the contracts cite.
pub mod Filing
pub mod Refused
pub mod Loading
pub mod Members
