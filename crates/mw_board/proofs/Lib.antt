pub mod Each
pub mod Elements
pub mod Powers
pub mod Valid
