pub mod Words
pub mod StatusByte
pub mod WellFormed
pub mod History
pub mod Legal
pub mod Untested
