pub mod Rows
pub mod Samples
pub mod Known
pub use Rattle.bv_core.specs.Value
pub mod Fitting
