pub mod Cells
pub mod Stores
