pub mod Threads
mod Open
