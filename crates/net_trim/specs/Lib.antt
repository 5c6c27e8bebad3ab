pub mod Roots
pub mod Made
pub mod Whole
