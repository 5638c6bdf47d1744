-- Each way through Prepare.
pub mod Ways
