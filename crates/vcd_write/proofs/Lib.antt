mod Numbers
mod Pieces
mod Binary
mod Samples
mod Fitting
mod Naming
mod Back
