pub mod Commands
pub mod Elements
pub mod Labels
pub mod Script
pub mod Session
pub mod Trace
pub mod Kept
pub mod Views
