pub mod Cycles
