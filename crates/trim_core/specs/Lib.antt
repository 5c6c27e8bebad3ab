pub mod Named
pub mod KeptNet
pub mod KeptTable
pub mod Trimmed
