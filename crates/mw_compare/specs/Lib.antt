pub mod Comparing
pub mod TreeComparisons
