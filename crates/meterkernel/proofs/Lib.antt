pub mod Calls
pub mod Histories
pub mod Running
pub mod Matrix
pub mod Demands
pub mod Example
