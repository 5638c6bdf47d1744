-- Walks and handing out, as far as they go on.
pub mod Onward
