pub mod Rows
pub mod Ways
pub mod Turns
pub mod Batches
pub mod Told
pub mod Counting
pub mod Called
pub mod Ending
mod Lining
mod Reading
