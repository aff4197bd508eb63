pub mod Elements
pub mod Readings
pub mod Cycles
pub mod Moments
pub mod Until
pub mod Back
pub mod Naming
