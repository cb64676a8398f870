pub mod Kept
pub mod Dropping
pub mod Marking
pub mod Counting
pub mod Pruning
