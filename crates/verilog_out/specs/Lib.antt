pub mod Syntax
pub mod Spelling
pub mod Meaning
pub mod Printed
pub mod Reading
pub mod ReadBack
pub mod Lines
pub mod Sample
