pub mod Status
pub mod Trails
pub mod Seen
pub mod Kept
