-- The whole run, a call with one record, the line at a place, and document 01's whole case.
pub mod Running
pub mod OneRecord
pub mod OneLine
pub mod WholeCase
