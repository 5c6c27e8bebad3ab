pub mod Faults
pub mod Forms
pub mod Laws
pub mod Pieces
pub mod Reading
pub mod Source
