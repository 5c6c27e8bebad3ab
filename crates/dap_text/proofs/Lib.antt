pub mod Bodies
pub mod Members
