-- Each way through the bundle's functions, and the promise that the list cites.
pub mod Ways
pub mod Promise
