pub mod Run
pub mod Written
pub mod Sample
pub mod ReadBack
