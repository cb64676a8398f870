pub mod Tree
pub mod Marks
pub mod Sweeps
