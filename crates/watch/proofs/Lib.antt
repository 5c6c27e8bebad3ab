pub mod Changes
pub mod Counting
pub mod Matches
pub mod Order
pub mod Prepared
pub mod Ready
