-- Several steps of one session in one call.
pub mod Several
