-- Each way through the steps that write nothing.
pub mod Ways
