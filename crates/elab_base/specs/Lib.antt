pub mod Met
pub mod Turns
pub mod Compares
pub mod Names
