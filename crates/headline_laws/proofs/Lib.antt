pub mod Nodes
pub mod Replayed
