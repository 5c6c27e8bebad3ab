mod PortsFit
mod Stimuli
pub mod NamesAll
mod SampleLines
pub mod Sources
pub mod OneReading
pub mod OneJudgement
pub mod OnePorts
