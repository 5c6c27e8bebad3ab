pub mod Ports
pub mod Finished
pub mod Rooms
