pub mod LineFeed
pub mod Counted
pub mod Formed
pub mod Texts
pub mod Files
