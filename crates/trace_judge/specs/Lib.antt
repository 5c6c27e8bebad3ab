pub mod Refusals
pub mod Judgement
pub mod Laws
