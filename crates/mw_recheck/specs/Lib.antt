pub mod Facts
pub mod Full
pub mod Kept
pub mod Laws
pub mod LogPrinted
pub mod LogText
pub mod Nodes
pub mod Rules
