pub mod DifferenceWords
pub mod Run
pub mod Lines
pub mod Settings
pub mod Start
pub mod Views
pub mod StateText
pub mod Texts
