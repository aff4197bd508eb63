pub mod Left
pub mod Programs
pub mod Segments
pub mod Turns
