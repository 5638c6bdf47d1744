-- The register's public calls, in document 01's order of refusals.
pub mod Register
