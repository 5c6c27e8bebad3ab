pub mod Named
pub mod Over
pub mod Refused
pub mod Kept
pub mod Marked
pub mod Bound
pub mod Alike
pub mod Example
