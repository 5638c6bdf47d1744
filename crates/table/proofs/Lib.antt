-- Each way through the table's functions, and what a store changes.
pub mod Ways
pub mod Laws
