pub mod Arm
pub mod Changing
pub mod Watching
