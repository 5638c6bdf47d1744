-- The counters, the records and an answer in lent slices of words.
pub mod Packing
