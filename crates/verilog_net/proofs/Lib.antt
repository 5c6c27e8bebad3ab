mod Outputs
mod Nexts
pub mod Alike
pub mod Fits
mod Computing
