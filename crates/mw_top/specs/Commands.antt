-- The commands: what each makes of its files, and what is answered then.
pub mod Asm
pub mod Bounds
pub mod Certify
pub mod Compare
pub mod Debug
pub mod Equal
pub mod Generate
pub mod Job
pub mod Pal
pub mod Prepared
pub mod Run
pub mod Table
pub mod Upgrade
