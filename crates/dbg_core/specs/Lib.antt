pub mod World
pub mod Shown
pub mod Eval
pub mod Answering
pub mod State
pub mod Alone
