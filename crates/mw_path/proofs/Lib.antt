pub mod Failings
pub mod Grown
pub mod Sharing
pub mod Splits
pub mod Triples
