-- One outcome each.
pub mod Only
