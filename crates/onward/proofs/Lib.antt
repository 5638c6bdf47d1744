-- Each way on and out of the loops of walking and handing out; how many steps and pairs they may be.
pub mod Ways
pub mod Bounds
