pub mod Bits
pub mod Spreading
pub mod Reaching
pub mod Entries
pub mod Holding
pub mod Closure
pub mod Flowing
pub mod Answers
