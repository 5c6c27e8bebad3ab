pub mod Fits
pub mod WidthSteps
pub mod MapSteps
pub mod ArmSteps
