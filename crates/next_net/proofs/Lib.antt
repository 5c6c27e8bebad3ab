pub mod Picking
pub mod Writing
pub mod Registers
pub mod Nexts
