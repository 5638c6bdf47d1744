-- What a listing's keys make of a register: the calls that insert them and what they answer; registers that are fresh
-- or loaded and went on.
pub mod Calls
pub mod Made
