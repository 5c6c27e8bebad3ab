pub mod Asked
pub mod Nexts
pub mod Nets
pub mod Told
pub mod Filling
pub mod Fronts
pub mod Compiled
