pub mod Utf8
pub mod Kept
pub mod Objects
pub mod Round
pub mod ReadBack
pub mod Client
pub mod Requests
pub mod Hearing
