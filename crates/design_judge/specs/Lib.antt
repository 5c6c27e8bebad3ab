pub mod Loops
pub mod Refusals
pub mod Judgement
pub mod Accepting
pub mod Judging
pub mod Naming
pub mod Laws
