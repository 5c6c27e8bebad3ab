pub mod Printing
pub mod Cycles
pub mod Sample
