pub mod Growth
mod Parts
pub mod Pieces
pub mod Passing
pub mod Stops
