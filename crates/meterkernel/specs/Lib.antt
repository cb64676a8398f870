pub mod Entries
pub mod Demands
pub mod Example
