-- Each way out of the steps in a row; going far is making them one after the other; a stride is so many of them.
pub mod Ways
pub mod Far
pub mod Strides
