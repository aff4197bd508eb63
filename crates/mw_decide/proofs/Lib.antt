pub mod Choosing
pub mod EachBit
pub mod FirstValues
pub mod OverWords
pub mod Remaining
pub mod WordPaths
