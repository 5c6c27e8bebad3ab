pub mod Wholes
pub mod Overs
pub mod Stacks
pub mod Fitting
pub mod Arms
pub mod Advancing
pub mod Placing
