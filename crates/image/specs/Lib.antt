pub mod Said
pub mod Sources
