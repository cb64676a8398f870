pub mod Visits
pub mod Turned
