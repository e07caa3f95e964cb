pub mod CanPanel
