pub mod Samples
pub mod Example
