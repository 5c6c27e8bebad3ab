pub mod Going
pub mod LineLemmas
pub mod Opening
