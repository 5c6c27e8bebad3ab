mod Defaults
mod Stimuli
mod Dumps
mod Removed
mod Cases
