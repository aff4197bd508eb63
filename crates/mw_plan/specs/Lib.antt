pub mod Files
pub mod Laws
pub mod Plan
pub mod Shelf
pub mod Steps
