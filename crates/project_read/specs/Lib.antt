pub mod Ends
pub mod Names
pub mod Projects
pub mod Steps
pub mod Asking
pub mod Named
pub mod Sample
pub mod Laws
