pub mod Came
pub mod Clients
pub mod AtOnce
pub mod Sample
