pub mod Folder
pub mod Numbering
pub mod Imported
pub mod Numbers
pub mod Next
pub mod Reading
pub mod Asked
pub mod OneProject
