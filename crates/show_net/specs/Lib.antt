pub mod Over
pub mod Readied
