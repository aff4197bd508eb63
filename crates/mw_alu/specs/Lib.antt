pub mod Instruction
pub mod WholeWord
