-- Demand 2 in the mission's own words, proved; and that it is not vacuous. In order: Mission, Listed, Demand2,
-- Possible.
pub mod Mission
pub mod Listed
pub mod Demand2
pub mod Possible
