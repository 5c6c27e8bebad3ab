pub mod Traps
pub mod Sites
pub mod Sampled
pub mod Positions
