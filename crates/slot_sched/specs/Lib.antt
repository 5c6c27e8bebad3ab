pub mod Arm
pub mod Armed
pub mod Waiting
pub mod Scan
pub mod Sample
pub mod Spans
pub mod Spots
