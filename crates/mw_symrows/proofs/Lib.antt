pub mod Starting
pub mod Underway
