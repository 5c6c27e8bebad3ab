pub mod Scopes
pub mod Things
