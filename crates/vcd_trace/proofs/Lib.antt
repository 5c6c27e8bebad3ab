mod Marking
mod Bits
mod Ordered
mod Times
mod Finding
mod Binding
pub mod Whole
pub mod NamedAlike
mod Computed
