-- The laws of the runner's lines that other crates may cite.
pub mod Room
pub mod Forms
pub mod Only
pub mod Read
pub mod Words
