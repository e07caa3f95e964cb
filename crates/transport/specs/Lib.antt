pub mod Frames
pub mod Sending
pub mod Receiving
pub mod Segments
pub mod Exchange
