mod Telling
mod Asking
mod Placing
mod Crowding
mod Ending
mod Noting
mod Pacing
mod Sharing
mod Stepping
mod Journaling
mod Carrying
mod Sampled
mod Writing
pub mod Handing
