-- Demand 2 in the mission's own words. In order: Runs, Mission, Listed, Demand2, Possible.
pub mod Runs
pub mod Mission
pub mod Listed
pub mod Demand2
pub mod Possible
