pub mod Views
pub mod PortNames
mod PortSteps
pub mod InOrder
pub mod LetNames
