pub mod Known
pub mod Maps
