pub mod Gathering
pub mod Walking
pub mod Origins
pub mod Edges
pub mod Turns
