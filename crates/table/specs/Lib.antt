-- A table's words.
pub mod Table
