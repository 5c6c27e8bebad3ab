pub mod Visits
pub mod Members
pub mod Attending
pub mod Service
pub mod Sample
