pub mod ChildNames
pub mod UnknownSteps
pub mod TakenSteps
pub mod ConnNames
