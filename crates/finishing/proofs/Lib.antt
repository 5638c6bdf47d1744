-- Each way through Number, Link and Finish.
pub mod Ways
