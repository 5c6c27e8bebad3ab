pub mod Counted
pub mod Numbers
pub mod Targets
pub mod Children
pub mod Signals
