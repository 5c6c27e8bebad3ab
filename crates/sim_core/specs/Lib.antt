pub mod Leaves
pub mod Given
pub mod Steps
pub mod State
pub mod Laws
pub mod Sample
