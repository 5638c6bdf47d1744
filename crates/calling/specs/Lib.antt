-- What the library's calls have in common, and many steps in one call.
pub mod Calling
