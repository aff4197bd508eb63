pub mod Bits
pub mod Causes
pub mod Entries
pub mod Kept
pub mod Numbers
pub mod Rows
pub mod Shared
pub mod Splits
