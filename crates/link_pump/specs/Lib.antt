pub mod Outlets
pub mod Rings
pub mod Names
pub mod Ends
pub mod Pumps
pub mod Sides
