pub mod Calls
pub mod Causes
pub mod Contents
pub mod Files
pub mod MemoryShelf
pub mod MemorySink
pub mod SteadyShelf
pub mod Views
