pub mod Kept
pub mod Kinds
pub mod Listed
pub mod Memory
pub mod Steps
pub mod Words
pub mod Workspace
