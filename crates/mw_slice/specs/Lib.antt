pub mod Lookahead
pub mod Slice
pub mod Board
pub mod Signals
pub mod Law
