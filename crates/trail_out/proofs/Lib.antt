pub mod Cycles
pub mod Standing
pub mod Trails
