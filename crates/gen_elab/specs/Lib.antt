pub mod Keys
pub mod Offsets
pub mod Finished
