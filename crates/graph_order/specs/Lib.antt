pub mod Graphs
pub mod Orders
pub mod Cycles
pub mod Samples
pub mod Search
pub mod Faults
pub mod Flat
pub mod Either
