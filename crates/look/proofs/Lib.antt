pub mod Checks
pub mod Visits
