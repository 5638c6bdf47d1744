-- Every step of document 01, in its order.
pub mod Steps
