pub mod Environments
pub mod Placing
pub mod Taking
