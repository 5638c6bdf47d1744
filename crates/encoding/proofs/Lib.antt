-- What words stand for; the round trip.
pub mod Ways
pub mod Trip
