pub mod Looked
pub mod Words
pub mod Bits
pub mod Sum
pub mod Answer
pub mod Whole
pub mod Joins
pub mod Shifts
