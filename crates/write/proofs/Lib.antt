pub mod Entering
pub mod Tests
pub mod Filling
pub mod Writing
pub mod RoundTrip
