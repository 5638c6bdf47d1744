-- An answer of another length; a short way is the step; one step is the first of many.
pub mod Ways
pub mod Short
pub mod Single
