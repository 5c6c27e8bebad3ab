pub mod Modules
pub mod Values
pub mod Walked
pub mod Height
