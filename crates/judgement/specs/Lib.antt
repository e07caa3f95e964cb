pub mod Checks
pub mod Fits
