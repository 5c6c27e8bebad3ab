mod Doing
mod Giving
mod Noting
mod Noticing
mod Keeping
mod Serving
mod Sampled
mod Joining
