pub mod Leaves
pub mod Growth
pub mod Memos
pub mod Pending
