pub mod Replayed
pub mod Waves
pub mod Demos
