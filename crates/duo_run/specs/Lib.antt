pub mod Deeds
pub mod Polls
pub mod Journals
pub mod Connections
pub mod Desks
pub mod Sample
