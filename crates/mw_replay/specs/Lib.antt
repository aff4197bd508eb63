pub mod Counter
pub mod CounterText
pub mod CounterPrinted
pub mod Replay
pub mod Segment
pub mod Views
pub mod Laws
