pub mod Masks
pub mod Cells
pub mod Edges
pub mod Answer
