pub mod EventLaws
pub mod Replacing
pub mod ReplacingItems
pub mod SampleWalks
