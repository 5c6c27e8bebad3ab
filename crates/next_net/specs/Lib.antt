pub mod Writers
pub mod Registers
pub mod Nexts
