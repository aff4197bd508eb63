pub mod Instruction
pub mod Kept
pub mod Sequencer
