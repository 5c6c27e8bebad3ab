pub mod Processes
pub mod Sample
pub mod Standing
