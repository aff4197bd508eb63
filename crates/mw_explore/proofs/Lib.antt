pub mod Advancing
pub mod Ordering
pub mod Taking
pub mod Turned
pub mod Waiting
