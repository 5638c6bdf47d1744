-- A register read from a listing is the fresh register after the inserts of its keys.
-- In order, each on those before: what calls do, put together; the steps of an insert; tables with keys filed; the
-- inserts of all keys; their set; the theorem, and P12; histories that tell the same; fresh or loaded, it is
-- reached.
-- Not here: definitions (specs/). Assumes nothing.
pub mod Goes
pub mod Steps
pub mod Filed
pub mod Filing
pub mod Sets
pub mod Loaded
pub mod Alike
pub mod Made
