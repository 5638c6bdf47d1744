-- The laws of bytes, numbers and lines that other crates may cite.
pub mod Basics
pub mod Read
pub mod Write
pub mod Lines
pub mod Back
pub mod OneWay
pub mod Only
