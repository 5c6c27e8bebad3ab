pub mod Costs
pub mod Placing
pub mod Recalling
pub mod Running
pub mod Samples
