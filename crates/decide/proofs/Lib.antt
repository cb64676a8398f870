pub mod Numbers
pub mod Visits
