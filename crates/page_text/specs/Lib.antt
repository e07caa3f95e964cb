pub mod Text
pub mod Page
pub mod Escape
pub mod Numbers
