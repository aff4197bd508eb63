pub mod Found
pub mod Order
pub mod Taking
