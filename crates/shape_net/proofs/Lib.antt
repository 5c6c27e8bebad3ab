pub mod Buckets
pub mod Numbers
pub mod Preorder
pub mod InOrder
