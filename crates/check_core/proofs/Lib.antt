pub mod Sets
pub mod Firsts
mod Sampled
