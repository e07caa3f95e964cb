pub mod Heads
