pub mod Places
pub mod Telling
pub mod Keys
pub mod Driving
pub mod PartNames
pub mod PartBounds
pub mod Wide
