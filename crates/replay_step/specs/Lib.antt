pub mod Asked
pub mod Beginning
pub mod Turn
