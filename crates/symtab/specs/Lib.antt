pub mod Apart
pub mod Places
pub mod Tables
pub mod Shape
pub mod Checked
pub mod Lookups
pub mod Indexed
pub mod Cells
