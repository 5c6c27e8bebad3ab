pub mod Apart
pub mod Grouped
pub mod Mapped
pub mod Positions
pub mod Rows
pub mod SlotLemmas
pub mod Standing
pub mod Listing
