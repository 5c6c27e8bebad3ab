pub mod Defaults
pub mod Stimuli
pub mod Dumps
pub mod Removed
pub mod Cases
