pub mod Ends
pub mod Found
pub mod OneProof
pub mod Stops
pub mod Traces
pub mod TwinCases
pub mod TwinForks
pub mod Within
