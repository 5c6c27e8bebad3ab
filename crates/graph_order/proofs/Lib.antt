mod Marks
pub mod Paths
pub mod Standing
mod Steps
mod Spans
pub mod Found
