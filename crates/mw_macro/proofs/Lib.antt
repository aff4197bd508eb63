pub mod Accepted
pub mod Numbered
pub mod RightAccepted
pub mod Steps
pub mod Words
