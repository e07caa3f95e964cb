pub mod Block
pub mod Places
pub mod Fits
pub mod InOrder
pub mod Store
pub mod Judgement
