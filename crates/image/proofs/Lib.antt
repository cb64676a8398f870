pub mod Form
pub mod Indexing
pub mod Tied
pub mod Marks
pub mod Refused
