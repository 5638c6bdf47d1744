-- What the calls refuse; a walk's short way is the step; a refusal changes nothing; one outcome each.
pub mod Ways
pub mod Walks
pub mod Kept
pub mod Only
