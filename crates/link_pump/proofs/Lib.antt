pub mod Sending
pub mod Ringing
pub mod Naming
pub mod Pumping
pub mod Joining
