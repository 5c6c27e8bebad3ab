pub mod Steps
pub mod NumberSteps
pub mod Numbers
pub mod Counting
