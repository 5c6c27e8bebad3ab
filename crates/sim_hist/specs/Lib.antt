pub mod Run
pub mod Recalled
pub mod Kept
pub mod Sample
pub mod Laws
