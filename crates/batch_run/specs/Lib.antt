pub mod Texts
pub mod Batch
