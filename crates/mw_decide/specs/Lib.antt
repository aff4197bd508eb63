pub mod Decisions
pub mod Faults
pub mod Fronts
pub mod SpacePaths
pub mod Traces
