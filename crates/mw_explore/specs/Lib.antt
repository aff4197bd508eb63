pub mod Cases
pub mod Explorers
pub mod KeptBits
pub mod Ways
