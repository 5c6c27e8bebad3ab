pub mod Brackets
pub mod Grammar
pub mod Places
pub mod Tree
pub mod View
