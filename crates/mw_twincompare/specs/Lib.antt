pub mod Ended
pub mod Failing
pub mod KeptOnTerms
