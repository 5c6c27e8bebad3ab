pub mod Source
pub mod Spelled
pub mod Bodies
pub mod Walks
pub mod Designs
