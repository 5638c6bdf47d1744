-- Sizes, operations, answers and refusals in document 01's words.
pub mod Terms
