pub mod Nodes
pub mod Hashed
pub mod Builder
pub mod Nets
pub mod Same
pub mod Outcomes
pub mod Kept
