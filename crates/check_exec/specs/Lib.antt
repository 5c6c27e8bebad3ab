pub mod Premises
pub mod Settling
pub mod Sample
pub mod Orders
