mod Walks
mod Versions
mod Flattened
mod Growing
mod Blocks
mod Wires
mod Names
mod Rows
mod Telling
mod Outputs
mod Joining
mod Sampled
mod Contracted
pub mod Linked
pub mod Layers
pub mod Answered
pub mod Started
pub mod Sound
pub mod Exclusive
pub mod Found
