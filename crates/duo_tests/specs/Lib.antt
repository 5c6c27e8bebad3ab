pub mod Constant
pub mod Silent
