-- Listings for other programs.
pub mod Exchange
