pub mod Targets
pub mod Drives
pub mod Framing
pub mod Missing
pub mod Parts
pub mod Walks
pub mod OwnNames
pub mod LeftOut
