pub mod TreeLists
pub mod Solutions
pub mod Sharing
pub mod Entries
pub mod Applying
pub mod NextValues
