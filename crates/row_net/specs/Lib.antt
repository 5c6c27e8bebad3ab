pub mod Spots
pub mod Told
pub mod Blocks
pub mod Unset
