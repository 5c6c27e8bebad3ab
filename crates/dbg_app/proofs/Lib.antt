pub mod Calling
mod Ending
mod Statuses
mod Compiling
mod Writing
pub mod Asking
mod Names
mod Judging
mod Given
pub mod Offering
mod Reading
mod Dapping
mod Words
