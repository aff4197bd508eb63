pub mod Plans
pub mod Reading
pub mod Once
pub mod Steps
