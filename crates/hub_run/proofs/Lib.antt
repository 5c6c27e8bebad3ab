mod Tagging
mod Standing
mod Opening
