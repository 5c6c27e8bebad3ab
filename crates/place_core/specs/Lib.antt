pub mod Orders
pub mod Numbering
pub mod Linking
pub mod Assigned
pub mod Below
