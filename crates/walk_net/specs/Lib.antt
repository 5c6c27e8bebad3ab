pub mod Next
pub mod Tasks
pub mod Renaming
pub mod Registers
pub mod Answer
pub mod Walked
