pub mod Shortcuts
