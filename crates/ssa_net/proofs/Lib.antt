pub mod Begun
pub mod Ended
pub mod Outs
pub mod Unset
