pub mod Kinds
pub mod Typing
pub mod Naming
pub mod Driving
pub mod Assigning
pub mod Accepting
