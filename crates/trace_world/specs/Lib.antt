pub mod TraceWorld
pub mod Fitting
pub mod Sample
