-- The words of a reached register show a drawing, and step as it does; so demand 2 holds.
-- In order, each on those before: what it is that words show a drawing; what a step leaves, and the shown drawing put
-- together; no call changes a key or a value in use; a fresh register; starts and refusals; the words of nodes and
-- rows after each effect; nodes in use; other sessions' records; an update's steps; the readers' steps; reached
-- registers; what sessions have under way; what answers say; the history by the log; demand 2; an example.
-- Not here: definitions of registers, steps, the drawing and the demand (crates reached, steps, drawing).
-- Assumes nothing.
pub mod Show
pub mod Land
pub mod Back
pub mod Fresh
pub mod Starts
pub mod NodeWords
pub mod RowWords
pub mod Use
pub mod Others
pub mod Steady
pub mod Lock
pub mod Leave
pub mod Check
pub mod Number
pub mod Link
pub mod Finish
pub mod Lay
pub mod Cut
pub mod Prepare
pub mod Readers
pub mod Whole
pub mod Under
pub mod Says
pub mod History
pub mod Demand2
pub mod Example
