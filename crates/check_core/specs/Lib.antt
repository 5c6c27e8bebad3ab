pub mod Faults
pub mod Names
pub mod Ports
pub mod Widths
pub mod Drivers
pub mod Paths
pub mod Verdict
pub mod Samples
