pub mod Addresses
pub mod Fields
pub mod Inside
pub mod ItemSteps
pub mod Shifts
pub mod Stores
pub mod Widths
pub mod WordSteps
