pub mod Talks
