mod Counting
mod Gathering
mod Visiting
mod Writing
mod Hubs
mod Ending
mod Sampled
