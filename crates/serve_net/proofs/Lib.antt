pub mod Lines
pub mod Attending
pub mod Walking
mod Sampled
