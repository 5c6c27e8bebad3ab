pub mod Links
pub mod Processes
pub mod Drives
