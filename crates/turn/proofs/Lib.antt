pub mod Effects
pub mod Turning
