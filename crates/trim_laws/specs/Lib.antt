pub mod Runs
pub mod Worlds
pub mod Shown
pub mod Simulated
pub mod Fitted
