pub mod Gens
pub mod Chain
