pub mod Dump
pub mod Told
pub mod Waves
