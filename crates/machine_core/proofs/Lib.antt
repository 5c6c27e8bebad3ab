pub mod Keeps
pub mod Ends
pub mod Nearest
pub mod Joined
pub mod Sited
pub mod Turns
pub mod Numbers
pub mod Readers
