-- The laws and theorems of the crate, all to be cited by other crates.
-- In order, each on those before: whose step; along calls; the window; from open to ended; counting nodes; the
-- reader's measure; the nodes of a snapshot; demand 3's bounds; round robin; an instance, computed; how little the
-- premise asks.
-- Not here: definitions (specs/). Assumes nothing.
pub mod Told
pub mod Along
pub mod Window
pub mod Ended
pub mod Weigh
pub mod Reader
pub mod Trail
pub mod Bounds
pub mod Robin
pub mod Toy
pub mod Throughout
