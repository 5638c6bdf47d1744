-- Each way through Lock and Check.
pub mod Ways
