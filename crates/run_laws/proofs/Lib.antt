mod Cells
mod Rows
mod Replaying
mod Prints
mod Words
