-- Laws of the history that calls give, and of the calls' numbers. In order: History, Values, Tested.
pub mod History
pub mod Values
pub mod Tested
