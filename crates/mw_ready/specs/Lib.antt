pub mod CaseLaws
pub mod DifferenceLaws
pub mod Examples
pub mod StartLaws
pub mod Thinned
