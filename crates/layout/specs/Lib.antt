pub mod Layout
pub mod Stored
