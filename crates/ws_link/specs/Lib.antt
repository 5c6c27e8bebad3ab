pub mod Untold
pub mod Heard
pub mod Strangers
