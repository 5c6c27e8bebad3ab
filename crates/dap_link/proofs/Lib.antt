mod Lines
mod Steps
mod Utf8
mod Heads
mod Apart
mod Slash
pub mod Firsts
pub mod Requests
pub mod Runs
pub mod Told
pub mod Talking
mod Failing
mod Answering
mod Reacting
