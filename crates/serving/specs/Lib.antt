-- What serving answers.
pub mod Serving
