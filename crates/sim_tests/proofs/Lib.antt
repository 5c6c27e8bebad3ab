pub mod Delaying
