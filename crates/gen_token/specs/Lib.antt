pub mod Bytes
pub mod Keywords
pub mod Laws
pub mod Marks
pub mod Spelling
pub mod Tokens
pub mod Words
