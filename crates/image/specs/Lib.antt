pub mod Editions
pub mod Layout
pub mod Widened
pub mod Ready
