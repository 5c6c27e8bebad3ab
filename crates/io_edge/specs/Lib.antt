pub mod Faults
pub mod Files
pub mod MemoryFiles
pub mod MemorySink
pub mod MemorySource
pub mod Taken
pub mod Unread
pub mod Waiting
