pub mod Shape
pub mod Rows
pub mod Lowered
