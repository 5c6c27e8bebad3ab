pub mod Sites
pub mod World
pub mod Seen
pub mod Kept
pub mod Source
pub mod Sample
