pub mod Answers
pub mod Extremes
pub mod Lengths
